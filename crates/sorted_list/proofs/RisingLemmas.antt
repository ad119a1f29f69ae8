-- What a search finds in a rising list, and what an edit there leaves.
use Rattle.std.proofs.Common.{◌≡◌, ℕ, ◌+◌, ◌-◌, ◌<◌, ◌≤◌, Bool, true, false, List, [], ◌∷◌, ◌++◌, length, get_or, take, drop, filter, All, AllPairs, ◌⊎◌, sym, ◌∙◌, ap, subst, inl, inr, refl, arith}
use Rattle.std.specs.declared.cmp.Ordering.{Ordering}
use Rattle.std.specs.declared.cmp.Ordering.TheVariants.{Less, Equal, Greater}
use Rattle.std.specs.Cmp.{IsTotalOrder}
use Rattle.std.specs.List.{between, insert, slice_range}
use Rattle.std.specs.List.Sorted.{IsPartitionedBy, IsPartitionPoint}
use Rattle.std.specs.Ordering.{eq_by_cmp, is_eq, is_le, is_lt, ordering_reverse, ordering_then}
use Rattle.std.proofs.lemmas.Bool.{cases_lt, cases_eq, false≢true}
use Rattle.std.proofs.lemmas.Cmp.{alike_right}
use Rattle.std.proofs.lemmas.List.{append-nil, get_or-drop, get_or-take, length-drop, length-take-le}
use Rattle.std.proofs.lemmas.List.Elements.{All-head, All-tail, filter-append}
use Rattle.std.proofs.lemmas.List.Edits.{length-insert, get_or-insert_below, get_or-insert_at, get_or-insert_above, get_or-between, length-between, split_between}
use Rattle.std.proofs.lemmas.Cmp.{on_total, then_total}
use Rattle.sorted_list.specs.Sorted.{IsRising, by_parts}

-- a list with places has an item
some_item : {X : Type 0} (xs : List X) → 0 < length xs → X
some_item [] some = absurd (omega (arith, some))
some_item (x ∷ xs) some = x

-- entries are in a total order where their parts are
pub by_parts_total : {K V : Type 0} {first : K → K → Ordering} {second : V → V → Ordering} → IsTotalOrder first → IsTotalOrder second → IsTotalOrder (by_parts first second)
by_parts_total {first} {second} o p = then_total (on_total (λ e. e.0) o) (on_total (λ e. e.1) p)

-- an element between those to which it is related
pub AllPairs-insert : {X : Type 0} (R : X → X → Type 0) (xs : List X) (at : ℕ) (y : X) → at ≤ length xs → AllPairs R xs → ((k : ℕ) (d : X) → k < at → R (get_or xs k d) y) → ((k : ℕ) (d : X) → at ≤ k → k < length xs → R y (get_or xs k d)) → AllPairs R (insert xs at y)
AllPairs-insert {X} R xs at y within pairs before after i j d lt in_range =
    let new = insert xs at y in
    let length_new = length-insert xs at y within in
    let below : (k : ℕ) → k < at → get_or new k d ≡ get_or xs k d = λ k below. get_or-insert_below xs at y d k below within in
    let here : (k : ℕ) → k ≡ at → get_or new k d ≡ y = λ k here. rw here (get_or-insert_at xs at y d within) in
    let above : (k : ℕ) → at < k → get_or new k d ≡ get_or xs (k - 1) d = λ k above. subst (λ q. get_or new q d ≡ get_or xs (k - 1) d) {x = k - 1 + 1} (omega arith) (get_or-insert_above xs at y d (k - 1) (omega arith) within) in
    elim (cases_lt i at) [
      | inl i_below ↦ elim (cases_lt j at) [
        | inl j_below ↦ rw (below i i_below, below j j_below) (pairs i j d lt (omega arith))
        | inr j_not ↦ elim (cases_eq j at) [
          | inl j_here ↦ rw (below i i_below, here j j_here) (before i d i_below)
          | inr j_other ↦ rw (below i i_below, above j (omega arith)) (pairs i (j - 1) d (omega arith) (omega arith))
        ]
      ]
      | inr i_not ↦ elim (cases_eq i at) [
        | inl i_here ↦ rw (here i i_here, above j (omega arith)) (after (j - 1) d (omega arith) (omega arith))
        | inr i_other ↦ rw (above i (omega arith), above j (omega arith)) (pairs (i - 1) (j - 1) d (omega arith) (omega arith))
      ]
    ]

-- a filter keeps nothing of what fails
pub filter_none : {X : Type 0} (p : X → Bool) (xs : List X) → All (λ x. p x ≡ false) xs → filter p xs ≡ []
filter_none p [] fails = refl
filter_none p (x ∷ xs) fails = rw (All-head (λ x. p x ≡ false) x xs fails) (filter_none p xs (All-tail (λ x. p x ≡ false) x xs fails))

-- and all of what passes
pub filter_all : {X : Type 0} (p : X → Bool) (xs : List X) → All (λ x. p x ≡ true) xs → filter p xs ≡ xs
filter_all p [] passes = refl
filter_all p (x ∷ xs) passes = rw (All-head (λ x. p x ≡ true) x xs passes) (ap (λ ys. x ∷ ys) (filter_all p xs (All-tail (λ x. p x ≡ true) x xs passes)))

module _ {K : Type 0} (cmp : K → K → Ordering) (o : IsTotalOrder cmp) where
  -- a new item in its gap keeps the order
  pub rising-insert : (xs : List K) (x : K) (at : ℕ) → at ≤ length xs → IsRising cmp xs → IsPartitionPoint (λ y. cmp y x ≡ Less) (λ y. cmp y x ≡ Greater) xs at → IsRising cmp (insert xs at x)
  rising-insert xs x at within rising parted = AllPairs-insert (λ a b. cmp a b ≡ Less) xs at x within rising (λ k d lt. parted.0 k d (omega arith) lt) (λ k d le lt. o.antisymm x (get_or xs k d) ∙ ap ordering_reverse (parted.1 k d le lt))

-- what is no more than Less or Equal
up_to : (o : Ordering) → is_le o ≡ true → (o ≡ Less) ⊎ (o ≡ Equal)
up_to Less le = inl refl
up_to Equal le = inr refl
up_to Greater le = absurd (cc)

pub less : (o : Ordering) → is_lt o ≡ true → o ≡ Less
less Less lt = refl
less Equal lt = absurd (cc)
less Greater lt = absurd (cc)

tied : (o : Ordering) → is_lt o ≡ false → is_le o ≡ true → is_eq o ≡ true
tied Less not_less le = absurd (cc)
tied Equal not_less le = refl
tied Greater not_less le = absurd (cc)

not_tied_below : (o : Ordering) → is_lt o ≡ true → is_eq o ≡ false
not_tied_below o lt = ap is_eq (less o lt)

not_tied_above : (o : Ordering) → is_le o ≡ false → is_eq o ≡ false
not_tied_above Less not_le = absurd (cc)
not_tied_above Equal not_le = absurd (cc)
not_tied_above Greater not_le = refl

-- of two pairs that rise the first parts don't fall
firsts : (o next : Ordering) → ordering_then o next ≡ Less → is_le o ≡ true
firsts Less next rises = refl
firsts Equal next rises = refl
firsts Greater next rises = absurd (cc)

module _ {K V : Type 0} (first : K → K → Ordering) (o : IsTotalOrder first) (second : V → V → Ordering) (xs : List (K × V)) (key : K) (rising : IsRising (by_parts first second) xs) where
  -- of the places before one that is below the key, each is below it
  pub parted_below : IsPartitionedBy (λ item. is_lt (first item.0 key)) xs
  parted_below i j d le within below = elim (cases_lt i j) [
    | inl before ↦ ap is_lt (by_first (up_to _ (firsts _ _ (rising i j d before within))))
    | inr not_before ↦ let same : i ≡ j = omega arith in rw same below
  ]
    where
      by_first : (first (get_or xs i d).0 (get_or xs j d).0 ≡ Less) ⊎ (first (get_or xs i d).0 (get_or xs j d).0 ≡ Equal) → first (get_or xs i d).0 key ≡ Less
      by_first (inl rises) = o.trans _ _ key rises (less _ below)
      by_first (inr ties) = o.congr _ _ key ties ∙ less _ below

  -- and of those before one that is not above it, none is above it
  pub parted_upto : IsPartitionedBy (λ item. is_le (first item.0 key)) xs
  parted_upto i j d le within upto = elim (cases_lt i j) [
    | inl before ↦ by_both (up_to _ (firsts _ _ (rising i j d before within))) (up_to _ upto)
    | inr not_before ↦ let same : i ≡ j = omega arith in rw same upto
  ]
    where
      by_both : (first (get_or xs i d).0 (get_or xs j d).0 ≡ Less) ⊎ (first (get_or xs i d).0 (get_or xs j d).0 ≡ Equal) → (first (get_or xs j d).0 key ≡ Less) ⊎ (first (get_or xs j d).0 key ≡ Equal) → is_le (first (get_or xs i d).0 key) ≡ true
      by_both (inl rises) (inl below) = ap is_le (o.trans _ _ key rises below)
      by_both (inl rises) (inr ties) = ap is_le (sym (alike_right o _ key _ ties) ∙ rises)
      by_both (inr same) last = rw (o.congr _ _ key same) upto

module _ {K V : Type 0} (first : K → K → Ordering) (xs : List (K × V)) (key : K) (from to : ℕ) (from_within : from ≤ length xs) (to_within : to ≤ length xs) (below : IsPartitionPoint (λ item. is_lt (first item.0 key) ≡ true) (λ item. is_lt (first item.0 key) ≡ false) xs from) (upto : IsPartitionPoint (λ item. is_le (first item.0 key) ≡ true) (λ item. is_le (first item.0 key) ≡ false) xs to) where
  -- the run ends no sooner than it begins
  run_in_order : from ≤ to
  run_in_order = elim (cases_lt to from) [
    | inl past ↦
        let d = some_item xs (omega arith) in
        absurd (false≢true (sym (upto.1 to d (omega arith) (omega arith)) ∙ ap is_le (less _ (below.0 to d (omega arith) past))))
    | inr in_order ↦ in_order
  ]

  -- and holds the items with the key
  run_filters : (same : K → K → Bool) → ((a b : K) → same a b ≡ eq_by_cmp first a b) → from ≤ to → slice_range xs from to ≡ filter (λ item. same item.0 key) xs
  run_filters same ties order =
      let p = λ (item : K × V). same item.0 key in
      let front = take from xs in
      let run = between from to xs in
      let back = drop to xs in
      let before : filter p front ≡ [] = filter_none p front (λ k d lt.
      let place : k < from = omega (arith, length-take-le from xs from_within) in
      ap p (get_or-take from xs k d place) ∙ ties _ key ∙ not_tied_below _ (below.0 k d (omega arith) place)) in
      let inside : filter p run ≡ run = filter_all p run (λ k d lt.
      let place : from + k < to = omega (arith, length-between xs from to to_within) in
      ap p (get_or-between xs from to k d place) ∙ ties _ key ∙ tied _ (below.1 (from + k) d (omega arith) (omega arith)) (upto.0 (from + k) d (omega arith) place)) in
      let after : filter p back ≡ [] = filter_none p back (λ k d lt.
      let place : to + k < length xs = omega (arith, length-drop to xs) in
      ap p (get_or-drop to xs k d) ∙ ties _ key ∙ not_tied_above _ (upto.1 (to + k) d (omega arith) place)) in
      let split = ap (filter p) (split_between xs from to order) ∙ filter-append p front (run ++ back) ∙ ap (λ kept. kept ++ filter p (run ++ back)) before in
      sym (split ∙ filter-append p run back ∙ ap (λ kept. kept ++ filter p back) inside ∙ ap (λ kept. run ++ kept) after ∙ append-nil run)

  -- both
  pub found_run : (same : K → K → Bool) → ((a b : K) → same a b ≡ eq_by_cmp first a b) → record { order : from ≤ to; within : to ≤ length xs; run : slice_range xs from to ≡ filter (λ item. same item.0 key) xs }
  found_run same ties = record { order = run_in_order; within = to_within; run = run_filters same ties run_in_order }
