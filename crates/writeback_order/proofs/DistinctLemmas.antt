-- Lists in which no identifier stands twice.
use Rattle.std.proofs.Common.{◌≡◌, ◌≢◌, ℕ, suc, ◌+◌, ◌≤◌, Bool, true, false, cond, not, List, [], ◌∷◌, length, get_or, count_by, AllPairs, sym, ◌∙◌, ap, inl, inr, refl, arith}
use Rattle.std.specs.Cmp.{both_ways}
use Rattle.std.specs.List.{IsDistinct}
use Rattle.std.specs.List.Sorted.{IsPermutation}
use Rattle.std.proofs.lemmas.Bool.{cases_Bool, false≢true, not-false}
use Rattle.std.proofs.lemmas.List.Sums.{length-filter, sum_by-cons}
use Rattle.std.proofs.lemmas.Map.Keys.{IsDistinct-IsPermutation, IsDistinct-from_apart, apart_from_distinct}
use Rattle.cache_ident.specs.declared.idents.Ident.{Ident}
use Rattle.cache_ident.specs.Rolls.{is_same}
use Rattle.cache_ident.proofs.RollLemmas.{is_same-refl, same_ident}
use Rattle.sorted_list.proofs.RisingLemmas.{filter_none}

-- the test of two identifiers answers the same both ways round
same_turned : (a b : Ident) → is_same a b ≡ true → is_same b a ≡ true
same_turned a b same = ap (is_same b) (same_ident a b same) ∙ is_same-refl b

flips : (a b : Ident) → is_same a b ≡ is_same b a
flips a b = both_ways (is_same a b) (is_same b a) (same_turned a b) (same_turned b a)

-- identifiers that aren't one fail the test
pub differ : (a b : Ident) → a ≢ b → is_same a b ≡ false
differ a b apart = elim (cases_Bool (is_same a b)) [
  | inl same ↦ absurd (apart (same_ident a b same))
  | inr other ↦ other
]

-- what `!=` says of two identifiers
pub apart_from_ne : (a b : Ident) → true ≡ not (is_same a b) → a ≢ b
apart_from_ne a b ne same = false≢true (sym (ne ∙ ap not (ap (is_same a) (sym same) ∙ is_same-refl a)))

pub same_from_ne : (a b : Ident) → false ≡ not (is_same a b) → a ≡ b
same_from_ne a b ne = same_ident a b (not-false (is_same a b) (sym ne))

module _ {X : Type 0} (key : X → Ident) where
  -- items of different identifiers stay so in another order
  pub apart_permutation : (xs ys : List X) → IsPermutation xs ys → AllPairs (λ a b. key a ≢ key b) xs → AllPairs (λ a b. key a ≢ key b) ys
  apart_permutation xs ys moved apart i j d lt within same =
      let test : X → X → Bool = λ a b. is_same (key a) (key b) in
      let before : IsDistinct test xs = IsDistinct-from_apart test xs (λ i j d lt within. differ _ _ (apart i j d lt within)) in
      let after : IsDistinct test ys = IsDistinct-IsPermutation test (λ a b. flips (key a) (key b)) xs ys moved before in
      false≢true (sym (apart_from_distinct test ys i j d after lt within) ∙ ap (is_same (key (get_or ys i d))) (sym same) ∙ is_same-refl (key (get_or ys i d)))

  -- so an identifier stands at most once
  pub count_once : (xs : List X) → AllPairs (λ a b. key a ≢ key b) xs → (i : Ident) → count_by (λ x. is_same (key x) i) xs ≤ 1
  count_once [] once i = omega arith
  count_once (x ∷ xs) once i = by_test (count_once xs behind i) (is_same (key x) i) refl
    where
      behind : AllPairs (λ a b. key a ≢ key b) xs
      behind j k d lt within = once (suc j) (suc k) d (omega arith) (omega arith)

      counted : count_by (λ x. is_same (key x) i) (x ∷ xs) ≡ cond (is_same (key x) i) 1 0 + count_by (λ x. is_same (key x) i) xs
      counted = sum_by-cons (λ x. cond (is_same (key x) i) 1 0) x xs

      counts : Bool → ℕ
      counts b = cond b 1 0

      by_test : count_by (λ x. is_same (key x) i) xs ≤ 1 → (b : Bool) → is_same (key x) i ≡ b → count_by (λ x. is_same (key x) i) (x ∷ xs) ≤ 1
      by_test rest false other = omega (arith, counted, ap counts other, rest)
      by_test rest true same =
          let nothing = filter_none (λ x. is_same (key x) i) xs (λ k d lt. differ (key (get_or xs k d)) i (λ there. once 0 (suc k) d (omega arith) (omega arith) (same_ident (key x) i same ∙ sym there))) in
          omega (arith, counted, ap counts same, length-filter (λ x. is_same (key x) i) xs, ap length nothing)
