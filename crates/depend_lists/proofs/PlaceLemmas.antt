-- Where the pairs of a child begin in the order of children.
use Rattle.std.proofs.Common.{◌≡◌, ℕ, ◌<◌, ◌≤◌, Bool, true, false, cond, List, [], ◌∷◌, length, count_by, Contains, ◌∙◌, ap, inl, inr, refl, arith}
use Rattle.std.specs.declared.cmp.Ordering.{Ordering}
use Rattle.std.specs.declared.cmp.Ordering.TheVariants.{Less, Equal, Greater}
use Rattle.std.specs.Ordering.{is_lt, ordering_reverse}
use Rattle.std.proofs.lemmas.Bool.{cases_Bool}
use Rattle.std.proofs.lemmas.Cmp.{tied_itself}
use Rattle.std.proofs.lemmas.List.Sums.{count_by-le-length, sum_by-cons}
use Rattle.cache_ident.specs.declared.idents.Ident.{Ident}
use Rattle.cache_ident.specs.contracts.idents.IdentOrd.TheImpl as ident
use Rattle.cache_ident.specs.contracts.idents.IdentOrd.TheImpl.Laws as ident_laws
use Rattle.sorted_list.proofs.RisingLemmas.{less}
use Rattle.depend_lists.specs.declared.nodes.Node.{Node}
use Rattle.depend_lists.specs.Pairs.{place_of, IsChild}
use Rattle.sorted_list.proofs.ListLemmas.{Contains-cons_cases}
use Rattle.depend_lists.proofs.PairLemmas.{one_ident}

abbrev counts : Bool → ℕ
counts b = cond b 1 0

module _ {X : Type 0} (p q : X → Bool) (implied : (x : X) → p x ≡ true → q x ≡ true) where
  each : (x : X) → counts (p x) ≤ counts (q x)
  each x = elim (cases_Bool (p x)) [
    | inl passes ↦ omega (arith, ap counts (implied x passes), ap counts passes)
    | inr fails ↦ omega (arith, ap counts fails)
  ]

  no_more : (xs : List X) → count_by p xs ≤ count_by q xs
  no_more [] = omega arith
  no_more (x ∷ xs) = omega (arith, each x, no_more xs, sum_by-cons (λ y. counts (p y)) x xs, sum_by-cons (λ y. counts (q y)) x xs)

  -- a test that what passes another one passes, and one item more, counts more
  fewer : (xs : List X) (x : X) → Contains xs x → p x ≡ false → q x ≡ true → count_by p xs < count_by q xs
  fewer [] x there fails passes = absurd (omega (arith, there.1))
  fewer (y ∷ xs) x there fails passes = elim (Contains-cons_cases xs y x there) [
    | inl first ↦ omega (arith, no_more xs, sum_by-cons (λ z. counts (p z)) y xs, sum_by-cons (λ z. counts (q z)) y xs, ap (λ z. counts (p z)) first, ap (λ z. counts (q z)) first, ap counts fails, ap counts passes)
    | inr later ↦ omega (arith, each y, fewer xs x later fails passes, sum_by-cons (λ z. counts (p z)) y xs, sum_by-cons (λ z. counts (q z)) y xs)
  ]

abbrev ident_cmp : Ident → Ident → Ordering
ident_cmp = (ident.ghosts).cmp

module _ (pairs : List (Ident × Node)) (child : Ident) (is_child : IsChild pairs child) where
  not_before_itself : is_lt (ident_cmp is_child.0.1.ident child) ≡ false
  not_before_itself = ap (λ i. is_lt (ident_cmp i child)) is_child.1.1 ∙ ap is_lt (tied_itself ident_laws.total-law child)

  -- a child's own pair is not before it
  pub place-below : place_of pairs child < length pairs
  place-below = omega (arith, fewer (λ pair. is_lt (ident_cmp pair.1.ident child)) (λ _. true) (λ _ _. refl) pairs is_child.0 is_child.1.0 not_before_itself refl, count_by-le-length (λ (_ : Ident × Node). true) pairs)

  -- of a child before another one the place is before
  place-rises : (other : Ident) → ident_cmp child other ≡ Less → place_of pairs child < place_of pairs other
  place-rises other before = fewer (λ pair. is_lt (ident_cmp pair.1.ident child)) (λ pair. is_lt (ident_cmp pair.1.ident other)) (λ pair earlier. ap is_lt (ident_laws.total-law.trans pair.1.ident child other (less _ earlier) before)) pairs is_child.0 is_child.1.0 not_before_itself (ap (λ i. is_lt (ident_cmp i other)) is_child.1.1 ∙ ap is_lt before)

-- children of one place are one
pub place-apart : (pairs : List (Ident × Node)) (child other : Ident) → IsChild pairs child → IsChild pairs other → place_of pairs other ≡ place_of pairs child → other ≡ child
place-apart pairs child other is_child is_other same = by_order (ident_cmp other child) refl
  where
    by_order : (o : Ordering) → ident_cmp other child ≡ o → other ≡ child
    by_order Less is = absurd (omega (arith, same, place-rises pairs other is_other child is))
    by_order Equal is = one_ident other child is
    by_order Greater is = absurd (omega (arith, same, place-rises pairs child is_child other (ident_laws.total-law.antisymm child other ∙ ap ordering_reverse is)))
