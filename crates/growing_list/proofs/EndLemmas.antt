-- Where an item comes that is above all others.
use Rattle.std.proofs.Common.{◌≡◌, ◌+◌, List, [], ◌∷◌, ◌++◌, length, get_or, All, AllPairs, ◌∙◌, ap, inl, inr, arith}
use Rattle.std.specs.declared.cmp.Ordering.{Ordering}
use Rattle.std.specs.declared.cmp.Ordering.TheVariants.{Less}
use Rattle.std.specs.Cmp.{IsTotalOrder}
use Rattle.std.specs.List.{insert}
use Rattle.std.specs.Ordering.{ordering_reverse}
use Rattle.std.proofs.lemmas.Bool.{cases_lt}
use Rattle.std.proofs.lemmas.List.Edits.{length-insert, get_or-insert_at, get_or-insert_above, insert_end}
use Rattle.sorted_list.specs.Sorted.{IsAdded}

not_both : (o : Ordering) → o ≡ ordering_reverse Less → o ≡ Less → ⊥
not_both o greater less = cc

-- an item above all others comes last
pub added_last : {X : Type 0} (cmp : X → X → Ordering) → IsTotalOrder cmp → (old new : List X) (x : X) → All (λ y. cmp y x ≡ Less) old → IsAdded old new x → AllPairs (λ a b. cmp a b ≡ Less) new → new ≡ old ++ x ∷ []
added_last {X} cmp o old new x below added rising = elim (cases_lt added.0 (length old)) [
  | inl before ↦
      let at = added.0 in
      let y = get_or old at x in
      let longer = ap length added.2 ∙ length-insert old at x added.1 in
      let here : get_or new at x ≡ x = ap (λ l. get_or l at x) added.2 ∙ get_or-insert_at old at x x added.1 in
      let next : get_or new (at + 1) x ≡ y = ap (λ l. get_or l (at + 1) x) added.2 ∙ get_or-insert_above old at x x at (omega arith) added.1 in
      let rises : cmp x y ≡ Less = rw (here, next) at (rising at (at + 1) x (omega arith) (omega (arith, longer, before))) in
      absurd (not_both (cmp x y) (o.antisymm x y ∙ ap ordering_reverse (below at x before)) rises)
  | inr past ↦
      let end : added.0 ≡ length old = omega (arith, past, added.1) in
      added.2 ∙ ap (λ at. insert old at x) end ∙ insert_end old x
]
