use Rattle.std.proofs.Common.{◌≡◌, ℕ, ◌+◌, ◌<◌, [], ◌∷◌, ◌++◌, refl, sym, ◌∙◌, ap, subst, arith}
use Rattle.turn_lock.specs.Passes.{first_of, end_of, seen_of}
use Rattle.turn_lock.proofs.Lists.{all_append}
use Rattle.processors.specs.Parts.{AreParts}
use Rattle.processors.proofs.Parting.{part_more}
use Rattle.processors.proofs.parts.cut.Goals as goal

pub loop-next-preserved : goal.loop-next-preserved
loop-next-preserved g c =
    let inv = c.loop-next.invariant in
    let cut = c.split-part.ensures in
    let part = c.split-part.result.0 in
    let before = c.loop-next.parts.items in
    let pushed = c.push_reserved.ensures in
    let lock = c.args.lock.now in
    let wide : first_of c.loop-next.rest < c.loop-next.next = omega (arith, inv.1) in
    let more = part_more lock 0 (first_of c.loop-next.rest) before part inv.4 cut.lock.0 cut.lower.0 (rw cut.lower.1 wide) in (
      cut.lock.1,
      ap (λ (n : ℕ). n + 1) cut.upper.0,
      cut.upper.1 ∙ inv.2,
      cut.seen.1 ∙ inv.3,
      rw pushed.items (subst (λ (n : ℕ). AreParts lock 0 n (before ++ part ∷ [])) (cut.lower.1 ∙ sym cut.upper.0) more),
      rw pushed.items (all_append (λ p. first_of p < c.args.count) before (part ∷ []) inv.5 (omega (arith, inv.1, cut.lower.0, c.loop-next-test.true), tt)),
      rw pushed.items (all_append (λ p. seen_of p ≡ seen_of c.args.pass) before (part ∷ []) inv.6 (cut.seen.0 ∙ inv.3, tt)),
      ap (λ (n : ℕ). n + 1) (pushed.len ∙ inv.7),
      rw pushed.capacity inv.8,
    )

pub returns-clause-parts : goal.returns-clause-parts
returns-clause-parts g c =
    let inv = c.loop-next.invariant in
    let lock = c.args.lock.now in
    let rest = c.loop-next.rest in
    let before = c.loop-next.parts.items in
    let wide : first_of rest < end_of rest = omega (arith, inv.1, inv.2, c.loop-next.auto.next-end, c.requires.count) in
    rw c.push_reserved-2.ensures.items (subst (λ (n : ℕ). AreParts lock 0 n (before ++ rest ∷ [])) inv.2 (part_more lock 0 (first_of rest) before rest inv.4 inv.0 refl wide))
