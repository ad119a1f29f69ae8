-- Lists with the same items, and what stands in a list once.
use Rattle.std.proofs.Common.{◌≡◌, ◌≢◌, ◌↔◌, suc, ◌<◌, Bool, true, false, cond, List, [], ◌∷◌, length, get_or, map, filter, AllPairs, Contains, sym, ◌∙◌, ap, subst, inl, inr, refl, arith}
use Rattle.std.specs.declared.cmp.Ordering.{Ordering}
use Rattle.std.specs.declared.cmp.Ordering.TheVariants.{Less, Equal, Greater}
use Rattle.std.specs.Cmp.{IsTotalOrder}
use Rattle.std.specs.Ordering.{ordering_reverse, ordering_then}
use Rattle.std.proofs.lemmas.Bool.{cases_eq, cases_lt}
use Rattle.std.proofs.lemmas.Cmp.{tied_itself}
use Rattle.std.proofs.lemmas.List.{get_or-map, get_or_default, length-map}
use Rattle.std.proofs.lemmas.List.Kept.{AllPairs-filter}
use Rattle.std.proofs.lemmas.List.Elements.{filter_passes}
use Rattle.sorted_list.specs.Sorted.{by_parts, values_under, IsRising}
use Rattle.sorted_list.proofs.ListLemmas.{Contains-cons_cases, Contains-first, Contains-later, some_item}

less_back : (o : Ordering) → o ≡ ordering_reverse Less → o ≡ Less → ⊥
less_back o greater less = cc

less_ties : (o : Ordering) → o ≡ Less → o ≡ Equal → ⊥
less_ties o less equal = cc

module _ {X : Type 0} (cmp : X → X → Ordering) (o : IsTotalOrder cmp) where
  -- of a list that rises each later item is above the first
  above_first : (x : X) (xs : List X) → IsRising cmp (x ∷ xs) → (y : X) → Contains xs y → cmp x y ≡ Less
  above_first x xs rising y there = subst (λ z. cmp x z ≡ Less) there.2 (rising 0 (suc there.0) y (omega arith) (omega (arith, there.1)))

  rising_tail : (x : X) (xs : List X) → IsRising cmp (x ∷ xs) → IsRising cmp xs
  rising_tail x xs rising i j d lt within = rising (suc i) (suc j) d (omega (arith, lt)) (omega (arith, within))

  not_below_itself : (x : X) → cmp x x ≡ Less → ⊥
  not_below_itself x less = less_ties (cmp x x) less (tied_itself o x)

  not_both : (x y : X) → cmp x y ≡ Less → cmp y x ≡ Less → ⊥
  not_both x y less back = less_back (cmp y x) (o.antisymm y x ∙ ap ordering_reverse less) back

  first_same : (x y : X) (xs ys : List X) → IsRising cmp (x ∷ xs) → IsRising cmp (y ∷ ys) → ((z : X) → Contains (x ∷ xs) z ↔ Contains (y ∷ ys) z) → x ≡ y
  first_same x y xs ys first second same = elim (Contains-cons_cases ys y x ((same x).0 (Contains-first xs x))) [
    | inl is ↦ is
    | inr later ↦ elim (Contains-cons_cases xs x y ((same y).1 (Contains-first ys y))) [
      | inl is ↦ sym is
      | inr later_too ↦ absurd (not_both y x (above_first y ys second x later) (above_first x xs first y later_too))
    ]
  ]

  rest_same : (x : X) (xs ys : List X) → IsRising cmp (x ∷ xs) → ((z : X) → Contains (x ∷ xs) z → Contains (x ∷ ys) z) → (z : X) → Contains xs z → Contains ys z
  rest_same x xs ys rising same z there = elim (Contains-cons_cases ys x z (same z (Contains-later xs x z there))) [
    | inl is ↦ absurd (not_below_itself x (subst (λ y. cmp x y ≡ Less) is (above_first x xs rising z there)))
    | inr later ↦ later
  ]

  -- two lists that rise and have the same items are one
  pub same_items : (xs ys : List X) → IsRising cmp xs → IsRising cmp ys → ((z : X) → Contains xs z ↔ Contains ys z) → xs ≡ ys
  same_items [] [] first second same = refl
  same_items [] (y ∷ ys) first second same = absurd (omega (arith, ((same y).1 (Contains-first ys y)).1))
  same_items (x ∷ xs) [] first second same = absurd (omega (arith, ((same x).0 (Contains-first xs x)).1))
  same_items (x ∷ xs) (y ∷ ys) first second same =
      let one = first_same x y xs ys first second same in
      let second_too = subst (λ z. IsRising cmp (z ∷ ys)) (sym one) second in
      let there = λ (z : X). subst (λ w. Contains (x ∷ xs) z ↔ Contains (w ∷ ys) z) (sym one) (same z) in
      let rest = same_items xs ys (rising_tail x xs first) (rising_tail x ys second_too) (λ z. (rest_same x xs ys first (λ w. (there w).0) z, rest_same x ys xs second_too (λ w. (there w).1) z)) in
      ap (λ w. w ∷ xs) one ∙ ap (λ zs. y ∷ zs) rest

-- a filter by the second parts is that of the second parts
pub filter_map_second : {A B : Type 0} (p : B → Bool) (xs : List (A × B)) → map (λ (e : A × B). e.1) (filter (λ e. p e.1) xs) ≡ filter p (map (λ (e : A × B). e.1) xs)
filter_map_second p [] = refl
filter_map_second {A} {B} p (x ∷ xs) = by (filter_map_second p xs) (p x.1)
  where
    by : map (λ (e : A × B). e.1) (filter (λ e. p e.1) xs) ≡ filter p (map (λ (e : A × B). e.1) xs) → (b : Bool) → map (λ (e : A × B). e.1) (cond b (x ∷ filter (λ e. p e.1) xs) (filter (λ e. p e.1) xs)) ≡ cond b (x.1 ∷ filter p (map (λ (e : A × B). e.1) xs)) (filter p (map (λ (e : A × B). e.1) xs))
    by rest true = ap (λ ys. x.1 ∷ ys) rest
    by rest false = rest

module _ {A B : Type 0} (xs : List (A × B)) (once : AllPairs (λ a b. a.1 ≢ b.1) xs) where
  -- where no second part stands twice, those parts are all different
  pub once_second : AllPairs (λ a b. a ≢ b) (map (λ (e : A × B). e.1) xs)
  once_second i j d lt within alike =
      let second = λ (e : A × B). e.1 in
      let in_j : j < length xs = omega (arith, within, length-map xs second) in
      let in_i : i < length xs = omega (arith, lt, in_j) in
      let e = some_item xs (omega (arith, in_j)) in
      once i j e lt in_j (sym (get_or-map second xs i e d in_i) ∙ alike ∙ get_or-map second xs j e d in_j)

  -- and items with one second part are one
  pub one_second : (x y : A × B) → Contains xs x → Contains xs y → x.1 ≡ y.1 → x ≡ y
  one_second x y first second same =
      let at_first : get_or xs second.0 x ≡ y = get_or_default xs second.0 x y second.1 ∙ second.2 in
      let seconds = λ (p q : A × B) (is : p ≡ q). ap (λ (e : A × B). e.1) is in
      elim (cases_lt first.0 second.0) [
        | inl before ↦ absurd (once first.0 second.0 x before second.1 (seconds (get_or xs first.0 x) x first.2 ∙ same ∙ sym (seconds (get_or xs second.0 x) y at_first)))
        | inr not_before ↦ elim (cases_eq first.0 second.0) [
          | inl at ↦ sym first.2 ∙ ap (λ k. get_or xs k x) at ∙ at_first
          | inr other ↦ absurd (once second.0 first.0 x (omega (arith, not_before, other)) first.1 (seconds (get_or xs second.0 x) y at_first ∙ sym same ∙ sym (seconds (get_or xs first.0 x) x first.2)))
        ]
      ]

second_decides : (o next : Ordering) → o ≡ Equal → ordering_then o next ≡ Less → next ≡ Less
second_decides Less next ties less = absurd (cc)
second_decides Equal next ties less = less
second_decides Greater next ties less = absurd (cc)

-- the values under one key rise
pub values_rise : {K V : Type 0} (same : K → K → Bool) → ((a b : K) → same a b ≡ true → a ≡ b) → (entries : List (K × V)) (key : K) (first : K → K → Ordering) (second : V → V → Ordering) → first key key ≡ Equal → IsRising (by_parts first second) entries → IsRising second (values_under same entries key)
values_rise {K} {V} same is_one entries key first second ties rising i j d lt within =
    let of_key = λ (e : K × V). same e.0 key in
    let kept = filter of_key entries in
    let value = λ (e : K × V). e.1 in
    let in_j : j < length kept = omega (arith, within, length-map kept value) in
    let in_i : i < length kept = omega (arith, lt, in_j) in
    let e = some_item kept (omega (arith, in_j)) in
    let a = get_or kept i e in
    let b = get_or kept j e in
    let pass = filter_passes of_key entries in
    let a_key : a.0 ≡ key = is_one a.0 key (pass i e in_i) in
    let b_key : b.0 ≡ key = is_one b.0 key (pass j e in_j) in
    let keys_tie : first a.0 b.0 ≡ Equal = ap (λ k. first k b.0) a_key ∙ ap (first key) b_key ∙ ties in
    let less = second_decides (first a.0 b.0) (second a.1 b.1) keys_tie (AllPairs-filter (λ x y. by_parts first second x y ≡ Less) of_key entries rising i j e lt in_j) in
    ap (λ v. second v (get_or (map value kept) j d)) (get_or-map value kept i e d in_i) ∙ ap (second a.1) (get_or-map value kept j e d in_j) ∙ less
