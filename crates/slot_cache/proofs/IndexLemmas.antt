-- What a search finds in a list whose keys rise, and what an edit leaves.
use Rattle.std.proofs.Common.{◌≡◌, ℕ, ◌+◌, ◌-◌, ◌<◌, ◌≤◌, Bool, true, false, List, length, get_or, All, AllPairs, Option, None, Some, sym, ◌∙◌, ap, inl, inr, refl, arith}
use Rattle.std.specs.declared.cmp.Ordering.{Ordering}
use Rattle.std.specs.declared.cmp.Ordering.TheVariants.{Less, Equal, Greater}
use Rattle.std.specs.Cmp.{IsTotalOrder}
use Rattle.std.specs.List.{insert, remove}
use Rattle.std.specs.Ordering.{eq_by_cmp, is_eq, ordering_then}
use Rattle.std.specs.Prelude.{slice_get, IfNone, IfSome}
use Rattle.std.proofs.lemmas.Bool.{cases_lt, cases_eq, false≢true}
use Rattle.std.proofs.lemmas.Cmp.{tied_back, tied_itself}
use Rattle.std.proofs.lemmas.List.{get_or_default}
use Rattle.std.proofs.lemmas.List.Edits.{length-insert, get_or-insert_below, get_or-insert_at, get_or-insert_above, length-remove, get_or-remove_below, get_or-remove_above}
use Rattle.std.proofs.lemmas.List.Quantifiers.{all_pairs_remove}
use Rattle.sorted_list.specs.Sorted.{by_parts, values_under}
use Rattle.sorted_list.proofs.RisingLemmas.{AllPairs-insert}
use Rattle.sorted_list.proofs.SortedLemmas.{first_passes, none_passes}
use Rattle.slot_cache.specs.Index.{IsRising, IsKeyOf, IsInserted, IsRemoved}

-- the answers of a comparison are apart
pub less≢equal : (o : Ordering) → o ≡ Less → o ≡ Equal → ⊥
less≢equal o less equal = cc

-- two comparisons in a row tie only where the first does
then_equal : (o next : Ordering) → ordering_then o next ≡ Equal → o ≡ Equal
then_equal Less next equal = absurd (cc)
then_equal Equal next equal = refl
then_equal Greater next equal = absurd (cc)

-- and are less only where the first is, or ties
then_less : (o next : Ordering) → ordering_then o next ≡ Less → (o ≡ Equal → ⊥) → o ≡ Less
then_less Less next less apart = refl
then_less Equal next less apart = absurd (apart refl)
then_less Greater next less apart = absurd (cc)

pub is_equal : (o : Ordering) → is_eq o ≡ true → o ≡ Equal
is_equal Less ties = absurd (cc)
is_equal Equal ties = refl
is_equal Greater ties = absurd (cc)

not_equal : (o : Ordering) → is_eq o ≡ false → o ≡ Equal → ⊥
not_equal o apart equal = false≢true (sym apart ∙ ap is_eq equal)

module _ {K V : Type 0} (cmp : K → K → Ordering) (same : K → K → Bool) (ties : (a b : K) → same a b ≡ eq_by_cmp cmp a b) (xs : List (K × V)) (key : K) where
  -- what is found under a key, and what isn't
  pub found_key : (r : Option V) → r ≡ slice_get (values_under same xs key) 0 → IfSome r (IsKeyOf cmp xs key)
  found_key None is = tt
  found_key (Some v) is =
      let first = first_passes (λ entry. same entry.0 key) xs v (sym is) in
      (first.0, first.1, is_equal (cmp first.0.0 key) (sym (ties first.0.0 key) ∙ first.2), first.3)

  pub absent_key_of : (r : Option V) → r ≡ slice_get (values_under same xs key) 0 → IfNone r (All (λ place. cmp place.0 key ≡ Equal → ⊥) xs)
  absent_key_of None is = λ k d within. not_equal (cmp (get_or xs k d).0 key) (sym (ties (get_or xs k d).0 key) ∙ none_passes (λ entry. same entry.0 key) xs (sym is) k d within)
  absent_key_of (Some v) is = tt

module _ {K V : Type 0} (cmp : K → K → Ordering) (o : IsTotalOrder cmp) where
  -- an entry whose key isn't there isn't there
  pub absent_entry : (second : V → V → Ordering) (xs : List (K × V)) (key : K) (v : V) → All (λ place. cmp place.0 key ≡ Equal → ⊥) xs → All (λ place. by_parts cmp second place (key, v) ≡ Equal → ⊥) xs
  absent_entry second xs key v absent k d within equal = absent k d within (then_equal (cmp (get_or xs k d).0 key) (second (get_or xs k d).1 v) equal)

  -- and with it the keys still rise
  pub rising_with : (second : V → V → Ordering) (xs : List (K × V)) (key : K) (v : V) (at : ℕ) → at ≤ length xs → IsRising cmp xs → All (λ place. cmp place.0 key ≡ Equal → ⊥) xs → AllPairs (λ a b. by_parts cmp second a b ≡ Less) (insert xs at (key, v)) → IsRising cmp (insert xs at (key, v))
  rising_with second xs key v at within rising absent pairs i j d lt inside =
      let apart = AllPairs-insert (λ a b. cmp a.0 b.0 ≡ Equal → ⊥) xs at (key, v) within (λ i j d lt inside. less≢equal _ (rising i j d lt inside)) (λ k d below. absent k d (omega (arith, below, within))) (λ k d above inside equal. absent k d inside (tied_back o key (get_or xs k d).0 equal)) in
      let new = insert xs at (key, v) in
      then_less (cmp (get_or new i d).0 (get_or new j d).0) (second (get_or new i d).1 (get_or new j d).1) (pairs i j d lt inside) (apart i j d lt inside)

  -- as they do without one
  pub rising_without : (xs : List (K × V)) (at : ℕ) → at < length xs → IsRising cmp xs → IsRising cmp (remove xs at)
  rising_without xs at within rising = all_pairs_remove (λ a b. cmp a.0 b.0 ≡ Less) xs at within rising

  -- a list that rises has each place once
  pub once : (xs : List (K × V)) (x : K × V) (i j : ℕ) → IsRising cmp xs → i < j → j < length xs → get_or xs i x ≡ x → get_or xs j x ≡ x → ⊥
  once xs x i j rising lt within here there = less≢equal _ (rw (ap (λ (p : K × V). p.0) here, ap (λ (p : K × V). p.0) there) at (rising i j x lt within)) (tied_itself o x.0)

-- an insert keeps what was there and adds one
pub inserted : {X : Type 0} (xs : List X) (at : ℕ) (x : X) → at ≤ length xs → IsInserted xs (insert xs at x) x
inserted xs at x within = record {
  here = (at, omega (arith, length-insert xs at x within), get_or-insert_at xs at x x within);
  kept = λ y there. elim (cases_lt there.0 at) [
    | inl below ↦ (there.0, omega (arith, length-insert xs at x within, there.1), get_or-insert_below xs at x y there.0 below within ∙ there.2)
    | inr above ↦ (there.0 + 1, omega (arith, length-insert xs at x within, there.1), get_or-insert_above xs at x y there.0 above within ∙ there.2)
  ];
  only = λ y there. elim (cases_lt there.0 at) [
    | inl below ↦ inr (there.0, omega arith, sym (get_or-insert_below xs at x y there.0 below within) ∙ there.2)
    | inr not_below ↦ elim (cases_eq there.0 at) [
      | inl here ↦ inl (sym there.2 ∙ ap (λ k. get_or (insert xs at x) k y) here ∙ get_or-insert_at xs at x y within)
      | inr other ↦
          let k = there.0 - 1 in
          let next : there.0 ≡ k + 1 = omega arith in
          inr (k, omega (arith, length-insert xs at x within, there.1), sym (get_or-insert_above xs at x y k (omega arith) within) ∙ sym (ap (λ k. get_or (insert xs at x) k y) next) ∙ there.2)
    ]
  ];
  longer = length-insert xs at x within;
}

-- a removal at the place of x keeps the others, if x stood there alone
pub removed : {X : Type 0} (xs : List X) (at : ℕ) (x : X) → at < length xs → get_or xs at x ≡ x → ((i j : ℕ) → i < j → j < length xs → get_or xs i x ≡ x → get_or xs j x ≡ x → ⊥) → IsRemoved xs (remove xs at) x
removed {X} xs at x within here once = record {
  gone = λ y there same. elim (cases_lt there.0 at) [
    | inl below ↦ once there.0 at below within (default_at y there.0 (omega arith) (sym (get_or-remove_below xs at y there.0 below within) ∙ there.2 ∙ same)) here
    | inr above ↦ once at (there.0 + 1) (omega arith) (omega (arith, length-remove xs at within, there.1)) here (default_at y (there.0 + 1) (omega (arith, length-remove xs at within, there.1)) (sym (get_or-remove_above xs at y there.0 above within) ∙ there.2 ∙ same))
  ];
  kept = λ y there other. elim (cases_lt there.0 at) [
    | inl below ↦ (there.0, omega (arith, length-remove xs at within, there.1), get_or-remove_below xs at y there.0 below within ∙ there.2)
    | inr not_below ↦ elim (cases_eq there.0 at) [
      | inl same ↦ absurd (other (sym there.2 ∙ ap (λ k. get_or xs k y) same ∙ get_or_default xs at y x within ∙ here))
      | inr above ↦
          let k = there.0 - 1 in
          let next : there.0 ≡ k + 1 = omega arith in
          (k, omega (arith, length-remove xs at within, there.1), get_or-remove_above xs at y k (omega arith) within ∙ sym (ap (λ k. get_or xs k y) next) ∙ there.2)
    ]
  ];
  only = λ y there. elim (cases_lt there.0 at) [
    | inl below ↦ (there.0, omega arith, sym (get_or-remove_below xs at y there.0 below within) ∙ there.2)
    | inr above ↦ (there.0 + 1, omega (arith, length-remove xs at within, there.1), sym (get_or-remove_above xs at y there.0 above within) ∙ there.2)
  ];
  shorter = length-remove xs at within;
}
  where
    default_at : (y : X) (k : ℕ) → k < length xs → get_or xs k y ≡ x → get_or xs k x ≡ x
    default_at y k lt e = get_or_default xs k x y lt ∙ e
