-- One line is copied.
use Rattle.std.proofs.Common.{◌≡◌, ℕ, ◌+◌, ◌-◌, ◌≤◌, take, drop, subst, arith, rules}
use Rattle.page_views.specs.declared.part.Part.{Part}
use Rattle.page_views.specs.Parts.{AreAlikeBut}
use Rattle.page_views.proofs.Parts.{copied_over}
use Rattle.page_views.proofs.part.copy_part.Goals as goal

pub returns-then-part-eq-LINE : goal.returns-then-part-eq-LINE
returns-then-part-eq-LINE c =
    let p = c.args.part in
    let line : Part = record { from = p.from; to = p.from + 64 } in
    let whole : p.to ≡ p.from + 64 = omega (arith, c.if-part.true, c.if-part-eq-LINE.true) in
    let alike = subst (λ (t : ℕ). AreAlikeBut (record { from = p.from; to = t }) c.args.into.now c.args.bytes.now) whole c.requires.alike in
    let order : p.from ≤ p.from + 64 = omega arith in
    let copied : c.copy_from_slice.new.self ≡ take (p.from + 64 - p.from) (drop p.from c.args.bytes.now) = search rules in
    copied_over line c.args.into.now c.args.bytes.now _ order alike copied
