-- What stands under a key, and what is there after an entry came or went.
use Rattle.std.proofs.Common.{◌≡◌, ◌≢◌, ◌↔◌, ℕ, ◌+◌, ◌<◌, Bool, true, List, ◌∷◌, length, get_or, filter, AllPairs, Contains, sym, ◌∙◌, ap, subst, ◌⊎◌, inl, inr, refl, arith}
use Rattle.std.specs.declared.cmp.Ordering.{Ordering}
use Rattle.std.specs.declared.cmp.Ordering.TheVariants.{Less, Equal, Greater}
use Rattle.std.specs.List.{insert, remove}
use Rattle.std.specs.Ordering.{ordering_then}
use Rattle.std.proofs.lemmas.Bool.{cases_lt}
use Rattle.std.proofs.lemmas.List.{get_or-map, length-map}
use Rattle.std.proofs.lemmas.List.Edits.{get_or-remove_above, get_or-remove_below, length-remove}
use Rattle.std.proofs.lemmas.List.Elements.{filter_passes}
use Rattle.std.proofs.lemmas.List.Kept.{AllPairs-filter}
use Rattle.std.proofs.lemmas.List.Sorted.{Contains-permutation, IsPermutation-insert, IsPermutation-remove}
use Rattle.sorted_list.specs.Sorted.{by_parts, values_under, IsAdded, IsRising, IsTakenOut}
use Rattle.sorted_list.proofs.ListLemmas.{Contains-cons_cases, Contains-filter, Contains-first, Contains-from_filter, Contains-from_map, Contains-from_remove, Contains-insert_cases, Contains-later, Contains-map, some_item}

-- pairs of equal parts are equal
pub same_pair : {K V : Type 0} (a b : K × V) → a.0 ≡ b.0 → a.1 ≡ b.1 → a ≡ b
same_pair {K} {V} a b first second =
    let by_first : K → K × V = λ x. (x, a.1) in
    let by_second : V → K × V = λ y. (b.0, y) in
    ap by_first first ∙ ap by_second second

-- the answers of a comparison are apart
pub less≢equal : (o : Ordering) → o ≡ Less → o ≡ Equal → ⊥
less≢equal o less equal = cc

-- where a second comparison decides a tie, both tie
pub both_tie : (o next : Ordering) → ordering_then o next ≡ Equal → (o ≡ Equal) × (next ≡ Equal)
both_tie Less next ties = absurd (cc)
both_tie Equal next ties = (refl, ties)
both_tie Greater next ties = absurd (cc)

-- where the first ties, the second decides
second_decides : (o next : Ordering) → o ≡ Equal → ordering_then o next ≡ Less → next ≡ Less
second_decides Less next ties less = absurd (cc)
second_decides Equal next ties less = less
second_decides Greater next ties less = absurd (cc)

module _ {K V : Type 0} (same : K → K → Bool) (is_one : (a b : K) → same a b ≡ true → a ≡ b) (entries : List (K × V)) (key : K) where
  abbrev of_key : K × V → Bool
  of_key entry = same entry.0 key

  -- each value under a key makes an entry with it
  pub entry_of_value : (value : V) → Contains (values_under same entries key) value → Contains entries (key, value)
  entry_of_value value there =
      let entry = Contains-from_map (λ (e : K × V). e.1) (filter of_key entries) value there in
      let kept = Contains-from_filter of_key entries entry.0 entry.1 in
      subst (Contains entries) (same_pair entry.0 (key, value) (is_one entry.0.0 key kept.1) entry.2) kept.0

  -- and each such entry makes a value
  pub value_of_entry : same key key ≡ true → (value : V) → Contains entries (key, value) → Contains (values_under same entries key) value
  value_of_entry itself value there = Contains-map (λ (e : K × V). e.1) (filter of_key entries) (key, value) (Contains-filter of_key entries (key, value) there itself)

  -- no value stands there twice
  pub values_once : (first : K → K → Ordering) (second : V → V → Ordering) → first key key ≡ Equal → ((v : V) → second v v ≡ Equal) → IsRising (by_parts first second) entries → AllPairs ◌≢◌ (values_under same entries key)
  values_once first second ties itself rising i j d lt within alike =
      let kept = filter of_key entries in
      let value = λ (e : K × V). e.1 in
      let in_j : j < length kept = omega (arith, within, length-map kept value) in
      let in_i : i < length kept = omega (arith, lt, in_j) in
      let e = some_item kept (omega (arith, in_j)) in
      let a = get_or kept i e in
      let b = get_or kept j e in
      let pass = filter_passes of_key entries in
      let a_key : a.0 ≡ key = is_one a.0 key (pass i e in_i) in
      let b_key : b.0 ≡ key = is_one b.0 key (pass j e in_j) in
      let one : a.1 ≡ b.1 = sym (get_or-map value kept i e d in_i) ∙ alike ∙ get_or-map value kept j e d in_j in
      let keys_tie : first a.0 b.0 ≡ Equal = ap (λ k. first k b.0) a_key ∙ ap (first key) b_key ∙ ties in
      let less = second_decides (first a.0 b.0) (second a.1 b.1) keys_tie (AllPairs-filter (λ x y. by_parts first second x y ≡ Less) of_key entries rising i j e lt in_j) in
      less≢equal (second a.1 b.1) less (ap (λ v. second v b.1) one ∙ itself b.1)

module _ {X : Type 0} (old new : List X) (x : X) where
  -- what is there once an item was added
  pub after_added : IsAdded old new x → (y : X) → Contains new y ↔ (y ≡ x) ⊎ Contains old y
  after_added added y =
      let at = added.0 in
      let same : (l : List X) → Type 0 = λ l. Contains l y in
      (λ there. Contains-insert_cases old at x y (subst same added.2 there), λ was. subst same (sym added.2) (Contains-permutation (x ∷ old) (insert old at x) y (IsPermutation-insert old at x) (either was)))
    where
      either : (y ≡ x) ⊎ Contains old y → Contains (x ∷ old) y
      either (inl first) = subst (Contains (x ∷ old)) (sym first) (Contains-first old x)
      either (inr later) = Contains-later old x y later

  -- and once one was taken out that stood there once
  pub after_taken : (cmp : X → X → Ordering) → cmp x x ≡ Equal → IsRising cmp old → IsTakenOut old new x → (y : X) → Contains new y ↔ (Contains old y × (y ≢ x))
  after_taken cmp itself rising taken y =
      let at = taken.0 in
      let left = remove old at in
      (λ there. let rest = subst (λ l. Contains l y) taken.3 there in (Contains-from_remove old at x y taken.1 taken.2 rest, λ is. gone (subst (Contains left) is rest)), λ was. subst (λ l. Contains l y) (sym taken.3) (others was.1 (Contains-cons_cases left x y (Contains-permutation old (x ∷ left) y (IsPermutation-remove old at x taken.1 (sym taken.2)) was.0))))
    where
      others : y ≢ x → (y ≡ x) ⊎ Contains (remove old taken.0) y → Contains (remove old taken.0) y
      others apart (inl is) = absurd (apart is)
      others apart (inr there) = there

      twice : (i j : ℕ) → i < j → j < length old → get_or old i x ≡ x → get_or old j x ≡ x → ⊥
      twice i j lt within first last = less≢equal (cmp x x) (ap (λ z. cmp z x) (sym first) ∙ ap (cmp (get_or old i x)) (sym last) ∙ rising i j x lt within) itself

      gone : Contains (remove old taken.0) x → ⊥
      gone there =
          let at = taken.0 in
          let k = there.0 in
          let short = length-remove old at taken.1 in
          elim (cases_lt k at) [
            | inl below ↦ twice k at below taken.1 (sym (get_or-remove_below old at x k below taken.1) ∙ there.2) taken.2
            | inr above ↦ twice at (k + 1) (omega (arith, above)) (omega (arith, there.1, short)) taken.2 (sym (get_or-remove_above old at x k above taken.1) ∙ there.2)
          ]
