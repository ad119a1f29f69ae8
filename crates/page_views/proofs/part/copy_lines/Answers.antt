-- One page is as the other then.
use Rattle.std.proofs.Common.{◌≡◌, ◌-◌, ◌≤◌, take, drop, arith, rules}
use Rattle.page_views.proofs.Parts.{copied_over, same_all}
use Rattle.page_views.proofs.part.copy_lines.Goals as goal

pub returns-then-part : goal.returns-then-part
returns-then-part c =
    let p = c.args.part in
    let order : p.from ≤ p.to = omega (arith, c.if-part.true) in
    let copied : c.copy_from_slice.new.self ≡ take (p.to - p.from) (drop p.from c.args.bytes.now) = search rules in
    copied_over p c.args.into.now c.args.bytes.now _ order c.requires.alike copied

pub returns-else-part : goal.returns-else-part
returns-else-part c = same_all c.args.part c.args.into.now c.args.bytes.now c.if-part.false c.requires.alike
