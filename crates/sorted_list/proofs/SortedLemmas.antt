-- Where an entry stands in a rising list, and what an edit there leaves.
use Rattle.std.proofs.Common.{◌≡◌, ◌≢◌, ℕ, suc, ◌+◌, ◌-◌, ◌<◌, ◌≤◌, Bool, true, false, List, [], ◌∷◌, length, get_or, take, drop, map, filter, All, AllPairs, Contains, count_by, inl, inr, refl, sym, ◌∙◌, ap, subst, arith}
use Rattle.std.specs.declared.cmp.Ordering.{Ordering}
use Rattle.std.specs.declared.cmp.Ordering.TheVariants.{Less, Equal, Greater}
use Rattle.std.specs.Cmp.{IsTotalOrder}
use Rattle.std.specs.List.{insert, remove, slice_range}
use Rattle.std.specs.Ordering.{eq_by_cmp, is_eq, is_le, is_lt}
use Rattle.std.specs.Prelude.{slice_get, Option, None, Some, if◌then◌else◌}
use Rattle.std.proofs.lemmas.List.Elements.{All-cons, All-head, filter_passes}
use Rattle.std.proofs.lemmas.Bool.{cases_lt, false≢true}
use Rattle.std.proofs.lemmas.Cmp.{tied_itself}
use Rattle.std.proofs.lemmas.List.{drop_more}
use Rattle.std.proofs.lemmas.List.Edits.{length-insert, length-remove}
use Rattle.std.proofs.lemmas.List.Quantifiers.{all_pairs_remove}
use Rattle.std.proofs.lemmas.List.Sums.{count_by-le-length}
use Rattle.std.proofs.lemmas.Option.{get_or_from_slice_get, slice_get_cases, slice_get_within}
use Rattle.sorted_list.specs.Sorted.{by_parts, values_under, IsProper, IsRising}
use Rattle.sorted_list.specs.Fixed.{Fixed}
use Rattle.sorted_list.proofs.CountLemmas.{parted, Falls}
use Rattle.sorted_list.proofs.TreeLemmas.{some_same}
use Rattle.sorted_list.proofs.RisingLemmas.{by_parts_total, found_run, less, parted_below, parted_upto, rising-insert}

greater : (o : Ordering) → is_lt o ≡ false → o ≢ Equal → o ≡ Greater
greater Less not_less apart = absurd (cc)
greater Equal not_less apart = absurd (apart refl)
greater Greater not_less apart = refl

not_less_itself : (o : Ordering) → o ≡ Equal → is_lt o ≡ true → ⊥
not_less_itself o ties before = cc

module _ {T : Type 0} (cmp : T → T → Ordering) (o : IsTotalOrder cmp) (xs : List T) (rising : IsRising cmp xs) (x : T) where
  -- the item that comes before
  abbrev pub comes : T → Bool
  comes y = is_lt (cmp y x)

  pub falls : AllPairs (Falls comes) xs
  falls i j d lt within before = ap is_lt (o.trans (get_or xs i d) (get_or xs j d) x (rising i j d lt within) (less (cmp (get_or xs j d) x) before))

  -- behind all that come before, a new item keeps the order
  pub rising_after : All (λ y. cmp y x ≢ Equal) xs → IsRising cmp (insert xs (count_by comes xs) x)
  rising_after absent =
      let parts = parted comes xs falls in
      rising-insert cmp o xs x (count_by comes xs) (count_by-le-length comes xs) rising (λ k d low high. less (cmp (get_or xs k d) x) (parts.0 k d low high), λ k d low high. greater (cmp (get_or xs k d) x) (parts.1 k d low high) (absent k d high))

  -- and there stands the item itself, where it is in the list
  pub at_place : Contains xs x → (count_by comes xs < length xs) × (get_or xs (count_by comes xs) x ≡ x)
  at_place there =
      let k = there.0 in
      let n = count_by comes xs in
      let parts = parted comes xs falls in
      elim (cases_lt k n) [
        | inl sooner ↦ absurd (not_less_itself (cmp (get_or xs k x) x) (ap (λ y. cmp y x) there.2 ∙ tied_itself o x) (parts.0 k x (omega arith) sooner))
        | inr not_sooner ↦ elim (cases_lt n k) [
          | inl later ↦
              let before : cmp (get_or xs n x) x ≡ Less = ap (cmp (get_or xs n x)) (sym there.2) ∙ rising n k x later there.1 in
              absurd (false≢true (sym (parts.1 n x (omega arith) (omega (arith, later, there.1))) ∙ ap is_lt before))
          | inr not_later ↦
              let same : k ≡ n = omega (arith, not_sooner, not_later) in
              subst (λ i. (i < length xs) × (get_or xs i x ≡ x)) same (there.1, there.2)
        ]
      ]

module _ {K V : Type 0} (first : K → K → Ordering) (o : IsTotalOrder first) (second : V → V → Ordering) (entries : List (K × V)) (rising : IsRising (by_parts first second) entries) (key : K) where
  abbrev pub comes_below : K × V → Bool
  comes_below entry = is_lt (first entry.0 key)

  abbrev pub comes_upto : K × V → Bool
  comes_upto entry = is_le (first entry.0 key)

  -- entries with keys below one come first, and those with keys up to it
  pub falls_below : AllPairs (Falls comes_below) entries
  falls_below i j d lt within = parted_below first o second entries key rising i j d (omega (arith, lt)) within

  pub falls_upto : AllPairs (Falls comes_upto) entries
  falls_upto i j d lt within = parted_upto first o second entries key rising i j d (omega (arith, lt)) within

  -- between them stand those with the key
  pub run_is : (same : K → K → Bool) → ((a b : K) → same a b ≡ eq_by_cmp first a b) → record { order : count_by comes_below entries ≤ count_by comes_upto entries; within : count_by comes_upto entries ≤ length entries; run : slice_range entries (count_by comes_below entries) (count_by comes_upto entries) ≡ filter (λ entry. same entry.0 key) entries }
  run_is same ties = found_run first entries key (count_by comes_below entries) (count_by comes_upto entries) (count_by-le-length comes_below entries) (count_by-le-length comes_upto entries) (parted comes_below entries falls_below) (parted comes_upto entries falls_upto) same ties

-- one step along a part of a list
pub range_step : {X : Type 0} (xs : List X) (i end : ℕ) (x : X) → i < end → slice_get xs i ≡ Some x → slice_range xs i end ≡ x ∷ slice_range xs (i + 1) end
range_step xs i end x lt read =
    let within = slice_get_within xs i x read in
    let left : end - i ≡ suc (end - (i + 1)) = omega (arith, lt) in
    ap (λ l. take (end - i) l) (drop_more xs i x within ∙ ap (λ y. y ∷ drop (i + 1) xs) (get_or_from_slice_get xs i x x read)) ∙ ap (λ n. take n (x ∷ drop (i + 1) xs)) left

le_where_eq : (o : Ordering) → is_eq o ≡ true → is_le o ≡ true
le_where_eq Less ties = refl
le_where_eq Equal ties = refl
le_where_eq Greater ties = ties

-- the value of an entry, where it has the key
abbrev pub value_if : {K V : Type 0} → (K → K → Bool) → K → Option (K × V) → Option V
value_if same key None = None
value_if same key (Some entry) = if same entry.0 key then Some entry.1 else None

-- the first value under a key is that of the first entry that doesn't come before the key
module _ {K V : Type 0} (first : K → K → Ordering) (o : IsTotalOrder first) (second : V → V → Ordering) (entries : List (K × V)) (rising : IsRising (by_parts first second) entries) (key : K) (same : K → K → Bool) (ties : (a b : K) → same a b ≡ eq_by_cmp first a b) where
  abbrev upto : K × V → Bool
  upto entry = is_le (first entry.0 key)

  abbrev begin : ℕ
  begin = count_by (λ (entry : K × V). is_lt (first entry.0 key)) entries

  abbrev end : ℕ
  end = count_by upto entries

  abbrev under : List (K × V)
  under = filter (λ (entry : K × V). same entry.0 key) entries

  run_under : slice_range entries begin end ≡ under
  run_under = (run_is first o second entries rising key same ties).run

  none_under : end ≤ begin → slice_get (map (λ (entry : K × V). entry.1) under) 0 ≡ None
  none_under none =
      let gone : end - begin ≡ 0 = omega (arith, none) in
      ap (λ (l : List (K × V)). slice_get (map (λ (entry : K × V). entry.1) l) 0) (sym run_under ∙ ap (λ n. take n (drop begin entries)) gone)

  first_there : (entry : K × V) → begin < length entries → slice_get entries begin ≡ Some entry → get_or entries begin entry ≡ entry → (t : Bool) → same entry.0 key ≡ t → slice_get (map (λ (entry : K × V). entry.1) under) 0 ≡ (if t then Some entry.1 else None)
  first_there entry within read is true tied =
      let here : is_le (first entry.0 key) ≡ true = le_where_eq (first entry.0 key) (sym (ties entry.0 key) ∙ tied) in
      elim (cases_lt begin end) [
        | inl below ↦ ap (λ (l : List (K × V)). slice_get (map (λ (entry : K × V). entry.1) l) 0) (sym run_under ∙ range_step entries begin end entry below read)
        | inr past ↦ absurd (false≢true (sym ((parted upto entries (falls_upto first o second entries rising key)).1 begin entry (omega (arith, past)) within) ∙ ap upto is ∙ here))
      ]
  first_there entry within read is false apart =
      elim (cases_lt begin end) [
        | inl below ↦
            let run = sym run_under ∙ range_step entries begin end entry below read in
            let all = subst (All (λ (e : K × V). same e.0 key ≡ true)) run (filter_passes (λ (e : K × V). same e.0 key) entries) in
            absurd (false≢true (sym apart ∙ All-head (λ (e : K × V). same e.0 key ≡ true) entry (slice_range entries (begin + 1) end) all))
        | inr past ↦ none_under (omega (arith, past))
      ]

  pub first_is : slice_get (values_under same entries key) 0 ≡ value_if same key (slice_get entries begin)
  first_is = elim ((slice_get_cases entries begin).1) [
    | inl there ↦ first_there there.0 there.1 there.2 there.3 (same there.0.0 key) refl ∙ sym (ap (value_if same key) there.2)
    | inr past ↦ none_under (omega (arith, past.0, (run_is first o second entries rising key same ties).within)) ∙ sym (ap (value_if same key) past.1)
  ]

module _ {K V : Type 0} (first : K → K → Ordering) (o : IsTotalOrder first) (second : V → V → Ordering) (p : IsTotalOrder second) (list : Fixed (K × V)) (proper : IsProper first second (record { room = list.room; entries = list.items })) (entry : K × V) (place : ℕ) (counted : place ≡ count_by (λ other. is_lt (by_parts first second other entry)) list.items) where
  -- the list is in order after an entry came
  pub proper_inserted : (new : Fixed (K × V)) → new ≡ record { room = list.room; items = insert list.items place entry } → All (λ other. by_parts first second other entry ≢ Equal) list.items → length list.items < list.room → IsProper first second (record { room = new.room; entries = new.items })
  proper_inserted new is absent less =
      let within : place ≤ length list.items = omega (arith, counted, count_by-le-length (λ other. is_lt (by_parts first second other entry)) list.items) in
      rw is (record {
        rising = subst (λ n. IsRising (by_parts first second) (insert list.items n entry)) (sym counted) (rising_after (by_parts first second) (by_parts_total o p) list.items proper.rising entry absent);
        few = omega (arith, length-insert list.items place entry within, less);
        small = proper.small;
      })

  -- and after one went
  pub there_at : Contains list.items entry → (place < length list.items) × (get_or list.items place entry ≡ entry)
  there_at there = subst (λ n. (n < length list.items) × (get_or list.items n entry ≡ entry)) (sym counted) (at_place (by_parts first second) (by_parts_total o p) list.items proper.rising entry there)

  pub proper_removed : (new : Fixed (K × V)) → new ≡ record { room = list.room; items = remove list.items place } → Contains list.items entry → IsProper first second (record { room = new.room; entries = new.items })
  proper_removed new is there =
      let at = there_at there in
      rw is (record {
        rising = all_pairs_remove (λ a b. by_parts first second a b ≡ Less) list.items place at.0 proper.rising;
        few = omega (arith, length-remove list.items place at.0, proper.few);
        small = proper.small;
      })

-- the first value under a key belongs to an entry with that key, and without one there is no such entry
module _ {K V : Type 0} (test : K × V → Bool) where
  pub first_passes : (entries : List (K × V)) (value : V) → slice_get (map (λ entry. entry.1) (filter test entries)) 0 ≡ Some value → (entry : K × V) × Contains entries entry × (test entry ≡ true) × (entry.1 ≡ value)
  first_passes [] value read = absurd (none_some read)
    where
      none_some : None ≡ Some value → ⊥
      none_some e = cc
  first_passes (entry ∷ entries) value read = by (λ later. first_passes entries value later) (test entry) refl read
    where
      by : (slice_get (map (λ entry. entry.1) (filter test entries)) 0 ≡ Some value → (entry : K × V) × Contains entries entry × (test entry ≡ true) × (entry.1 ≡ value)) → (b : Bool) → test entry ≡ b → slice_get (map (λ entry. entry.1) (if b then entry ∷ filter test entries else filter test entries)) 0 ≡ Some value → (other : K × V) × Contains (entry ∷ entries) other × (test other ≡ true) × (other.1 ≡ value)
      by next true passes here = (entry, (0, omega arith, refl), passes, some_same entry.1 value here)
      by next false fails later = let rest = next later in (rest.0, (suc rest.1.0, omega (arith, rest.1.1), rest.1.2), rest.2, rest.3)

  pub none_passes : (entries : List (K × V)) → slice_get (map (λ entry. entry.1) (filter test entries)) 0 ≡ None → All (λ entry. test entry ≡ false) entries
  none_passes [] read = λ k d within. absurd (omega (arith, within))
  none_passes (entry ∷ entries) read = by (λ later. none_passes entries later) (test entry) refl read
    where
      none_some : {X : Type 0} (x : X) → Some x ≡ None → ⊥
      none_some x e = cc

      by : (slice_get (map (λ entry. entry.1) (filter test entries)) 0 ≡ None → All (λ entry. test entry ≡ false) entries) → (b : Bool) → test entry ≡ b → slice_get (map (λ entry. entry.1) (if b then entry ∷ filter test entries else filter test entries)) 0 ≡ None → All (λ entry. test entry ≡ false) (entry ∷ entries)
      by next true passes here = absurd (none_some entry.1 here)
      by next false fails later = All-cons (λ entry. test entry ≡ false) entry entries fails (next later)
