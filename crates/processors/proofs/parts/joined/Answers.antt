use Rattle.std.proofs.Common.{◌≡◌, [], ◌∷◌, length, sym, ◌∙◌, ap, subst, append_assoc, append-nil, arith}
use Rattle.std.specs.List.{AllByRecursion}
use Rattle.std.specs.Vec.Iter.{into_iter_items}
use Rattle.std.proofs.lemmas.List.Elements.{All-from_recursion}
use mathlib.Core.List.{IsPrefix}
use Rattle.turn_lock.specs.Lists.{numbers}
use Rattle.turn_lock.specs.Passes.{end_of, seen_of}
use Rattle.turn_lock.proofs.Lists.{all_append}
use Rattle.processors.specs.Parts.{AreParts}
use Rattle.processors.proofs.Parting.{all_begin, both_begin, nothing_left}
use Rattle.processors.proofs.parts.joined.Goals as goal

pub loop-part-preserved : goal.loop-part-preserved
loop-part-preserved g c =
    let at = c.loop-part in
    let inv = at.invariant in
    let part = c.in-Some-part.part in
    let steps : into_iter_items at.part-iterator ≡ part ∷ into_iter_items c.next-in-loop-part.new.self = c.in-Some-part.ensures.steps.0 in
    let are = subst (AreParts c.args.lock.now (end_of at.whole) numbers) steps inv.3 in
    let joins = c.join-whole.ensures in
    let begin = both_begin (seen_of at.whole) (seen_of part) (seen_of c.join-whole.result) joins.seen joins.begins in
    let ends : end_of c.join-whole.result ≡ end_of part = joins.range.1 ∙ omega (arith, are.2) in (
      joins.lock,
      joins.range.0 ∙ omega (arith, inv.1),
      omega (arith, are.2, ends),
      rw ends are.3,
      append_assoc (c.in-Some.first ∷ at.yielded) (part ∷ []) _ ∙ rw (← steps) inv.4,
      all_append (λ p. IsPrefix (seen_of p) (seen_of c.join-whole.result)) (c.in-Some.first ∷ at.yielded) (part ∷ []) (all_begin (c.in-Some.first ∷ at.yielded) (seen_of at.whole) (seen_of c.join-whole.result) begin.0 inv.5) (begin.1, tt),
      (let was = inv.6 in let gone = c.in-Some-part.ensures.steps.1 in let short = ap length steps in omega arith),
    )

pub returns-clause-seen : goal.returns-clause-seen
returns-clause-seen g c =
    let at = c.loop-part in
    let inv = at.invariant in
    let empty : into_iter_items at.part-iterator ≡ [] = nothing_left _ (sym c.in-None.ensures.steps.0 ∙ inv.6) in
    let all : c.in-Some.first ∷ at.yielded ≡ c.args.parts.items = sym (append-nil _) ∙ rw empty at inv.4 in
    All-from_recursion (λ p. IsPrefix (seen_of p) (seen_of at.whole)) c.args.parts.items (subst (AllByRecursion (λ p. IsPrefix (seen_of p) (seen_of at.whole))) all inv.5)
