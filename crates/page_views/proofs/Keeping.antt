-- What is kept behind the views.
use Rattle.std.proofs.Common.{◌≡◌, ℕ, zero, suc, ◌+◌, ◌-◌, ◌<◌, ◌≤◌, List, [], ◌∷◌, ◌++◌, map, length, take, drop, set, slice_get, get_or, cond, Contains, Bool, true, false, Option, Some, None, is_some, find, refl, ap, ap₂, sym, ◌∙◌, subst, arith, drop-drop, length-append, length-drop, take-append-drop}
use Rattle.std.specs.Prelude.{nat_le, replicate, ◌==◌}
use Rattle.std.specs.List.{position, swap}
use Rattle.std.specs.List.Sorted.{IsPermutation}
use Rattle.std.specs.Option.{option_map}
use Rattle.std.proofs.lemmas.Bool.{and_parts, eqb-true, leb-true}
use Rattle.std.proofs.lemmas.Grind.{replicate_next}
use Rattle.std.proofs.lemmas.List.{drop-set-lt, length-take-le, map-append, take-append-le, take_all, take_more_set}
use Rattle.std.proofs.lemmas.List.Edits.{swapped_from_swap}
use Rattle.std.proofs.lemmas.List.Sorted.{Contains-permutation, IsPermutation-map, IsPermutation-sym, length_permutation}
use Rattle.std.proofs.lemmas.Option.{slice_get-get_or}
use Rattle.std.proofs.Math.Seq.{drop-append_seam}
use Rattle.cache_ident.specs.declared.idents.Ident.{Ident}
use Rattle.cache_ident.specs.declared.names.Frame.{Frame}
use Rattle.cache_ident.specs.declared.names.Vpn.{Vpn}
use Rattle.phys_groups.specs.declared.rows.Flags.{Flags}
use Rattle.page_views.specs.Origins.{viewed}
use Rattle.page_views.specs.Views.{all_dated, as_happened, dated, filled, is_since, is_touched_of, nothing_kept, present_in, slots_for, table_of, with_filled, AreKept, Dated, IsExchanged, IsKeptSince, IsRefilled, IsReordered, IsSlotSince, HaveOneViewAPage, IsTable, Table, View}
use Rattle.flat_rules.specs.flat_state.proofs.Finding.{find-passes}
use Rattle.page_views.specs.Lines.{seen_at}
use Rattle.page_views.proofs.Indexing.{position_seen, view_there}

-- what the slots keep, once none of them is a view
pub all_slots : (most count : ℕ) (slots : List View) → map dated slots ≡ all_dated (table_of most count slots).views (table_of most count slots).kept
all_slots most count slots = sym (ap (map dated) (take-append-drop count slots)) ∙ map-append dated (take count slots) (drop count slots)

-- .. and once the steps of those that are views happened
pub all_happened : (most count place : ℕ) (slots after : List View) → after ≡ map (as_happened place) (take count slots) ++ drop count slots → map dated after ≡ all_dated (map (as_happened place) (table_of most count slots).views) (table_of most count slots).kept
all_happened most count place slots after is = ap (map dated) is ∙ map-append dated (map (as_happened place) (take count slots)) (drop count slots)

behind_next : (slots : List View) → map dated (drop 1 slots) ≡ drop 1 (map dated slots)
behind_next [] = refl
behind_next (v ∷ slots) = refl

-- with a view more
pub table_with : (most count : ℕ) (slots : List View) (v : View) → count < length slots → table_of most (count + 1) (set slots count v) ≡ with_filled (table_of most count slots) v
table_with most count slots v below =
    ap₂ (λ (vs : List View) (ks : List (Option Dated)). let t : Table = record { most = most; views = vs; kept = ks } in t) (take_more_set slots count v below)
    (ap (map dated) (drop-set-lt (count + 1) slots count v (omega arith) ∙ sym (drop-drop 1 count slots)) ∙ behind_next (drop count slots))

-- one slot more that keeps nothing
pub none_kept : (slots : List View) (i : ℕ) (v : View) → i < length slots → v.taken ≡ None → map dated (take i slots) ≡ replicate i None → map dated (take (i + 1) (set slots i v)) ≡ replicate (i + 1) None
none_kept slots i v below none before =
    ap (map dated) (take_more_set slots i v below) ∙ map-append dated (take i slots) (v ∷ [])
    ∙ ap₂ (λ (os : List (Option Dated)) (o : Option ℕ). os ++ option_map (λ place. record { frame = v.frame; bytes = v.first; place = place }) o ∷ []) before none
    ∙ sym (replicate_next i None)

-- where no slot keeps anything, nothing is kept
pub none_of : (most : ℕ) (slots : List View) → map dated slots ≡ replicate (length slots) None → length slots ≡ slots_for most → map dated slots ≡ nothing_kept most
none_of most slots none all = none ∙ ap (λ (n : ℕ). replicate n None) all

-- ---- a slot that becomes a view again

-- what a slot keeps is among what the slots from there on keep
from_there : (n : ℕ) (slots : List View) (v : View) → slice_get slots n ≡ Some v → Contains (map dated (drop n slots)) (dated v)
from_there n [] v is = absurd (cc)
from_there zero (w ∷ slots) v is = let same : w ≡ v = cc in subst (λ (x : View). Contains (dated w ∷ map dated slots) (dated x)) same (zero, omega arith, refl)
from_there (suc n) (w ∷ slots) v is = from_there n slots v is

behind_first : (kept : List (Option Dated)) (o : Option Dated) → Contains (drop 1 kept) o → Contains kept o
behind_first [] o there = there
behind_first (k ∷ kept) o there = (suc there.0, let lt = there.1 in omega arith, there.2)

-- the slot at a place behind the first so many
get_behind : (n : ℕ) (slots : List View) (i : ℕ) → slice_get (drop n slots) i ≡ slice_get slots (n + i)
get_behind zero slots i = ap (slice_get slots) (let same : i ≡ zero + i = omega arith in same)
get_behind (suc n) [] i = refl
get_behind (suc n) (v ∷ slots) i = get_behind n slots i ∙ ap (slice_get (v ∷ slots)) (let same : suc (n + i) ≡ suc n + i = omega arith in same)

get_seam : (front after : List View) → slice_get (front ++ after) (length front) ≡ slice_get after 0
get_seam [] after = refl
get_seam (v ∷ front) after = get_seam front after

first_swapped : (back after : List View) (i : ℕ) (d : View) → i < length back → after ≡ swap back 0 i → length after ≡ length back → slice_get after 0 ≡ slice_get back i
first_swapped back after i d within is size =
    slice_get-get_or after 0 d (omega (arith, within, size)) ∙ ap (λ (v : View). Some v) (swapped_from_swap back after 0 i d (omega (arith, within)) within is).0
    ∙ sym (slice_get-get_or back i d within)

-- a slot and the first one behind so many change their places
pub exchanged : (count slot : ℕ) (slots front back after : List View) → count ≤ slot → slot < length slots → front ≡ take count slots → back ≡ drop count slots → after ≡ swap back 0 (slot - count) → IsPermutation back after → IsExchanged count slot slots (front ++ after)
exchanged count slot slots front back after behind within fronts backs is permuted =
    let size : length after ≡ length back = length_permutation back after permuted in
    let front_size : length front ≡ count = ap length fronts ∙ length-take-le count slots (omega (arith, behind, within)) in
    let back_size : length back ≡ length slots - count = ap length backs ∙ length-drop count slots in
    let at : slot - count < length back = omega (arith, back_size, behind, within) in
    let d = (view_there slots slot within).0 in
    record {
      size = omega (arith, length-append front after, size, front_size, back_size, behind, within);
      views = take-append-le count front after (omega (arith, front_size)) ∙ take_all count front (omega (arith, front_size)) ∙ fronts;
      there = ap (slice_get (front ++ after)) (sym front_size) ∙ get_seam front after ∙ first_swapped back after (slot - count) d at is size
          ∙ ap (λ (xs : List View). slice_get xs (slot - count)) backs ∙ get_behind count slots (slot - count) ∙ ap (slice_get slots) (omega (arith, behind));
      others = subst (λ (xs : List View). IsPermutation (drop count slots) xs) (sym (ap (λ (n : ℕ). drop n (front ++ after)) (sym front_size) ∙ drop-append_seam front after)) (subst (λ (xs : List View). IsPermutation xs after) backs permuted);
    }

-- the place that bytes carry which are the frame's as of a place or a later one
pub record IsDatedSince (frame : Frame) (since : ℕ) (v : View) : Type 0 where
  pub place : ℕ
  pub taken : v.taken ≡ Some place
  pub of : v.frame ≡ frame
  pub late : since ≤ place

dated_since : (frame : Frame) (since : ℕ) (v : View) → is_since frame since (dated v) ≡ true → IsDatedSince frame since v
dated_since frame since v is = by v.taken refl is
  where
    by : (o : Option ℕ) → v.taken ≡ o → is_since frame since (option_map (λ n. record { frame = v.frame; bytes = v.first; place = n }) o) ≡ true → IsDatedSince frame since v
    by None taken is = absurd (cc)
    by (Some p) taken is =
        let parts = and_parts (v.frame.0 == frame.0) (nat_le since p) is in
        record { place = p; taken = taken; of = ap (λ (n : ℕ). let f : Frame = record { 0 = n } in f) (eqb-true v.frame.0 frame.0 parts.0); late = leb-true since p parts.1 }

module _ (count slot : ℕ) (slots mid : List View) (ex : IsExchanged count slot slots mid) where
  -- what is kept is so still
  pub still_kept : AreKept (map dated (drop count slots)) (map dated (drop count mid))
  still_kept o there = Contains-permutation (map dated (drop count mid)) (map dated (drop count slots)) o (IsPermutation-sym (map dated (drop count slots)) (map dated (drop count mid)) (IsPermutation-map dated (drop count slots) (drop count mid) ex.others)) there

  -- it is a table still
  pub table_exchanged : (most : ℕ) → IsTable most slots count → IsTable most mid count
  table_exchanged most table =
      let size = ex.size in
      let within = table.within in
      record {
        bounded = table.bounded;
        all = size ∙ table.all;
        few = table.few;
        within = omega (arith, size, within);
        one_a_page = subst HaveOneViewAPage (sym ex.views) table.one_a_page;
      }

  pub reordered : (most : ℕ) (written : List View) → written ≡ mid → (t : Table) → table_of most count slots ≡ t → IsReordered t (table_of most count written)
  reordered most written same t is =
      subst (λ (u : Table). IsReordered u (table_of most count written)) is
      (subst (λ (ws : List View). IsReordered (table_of most count slots) (table_of most count ws)) (sym same) (record { views = ex.views; most = refl; kept = still_kept }))

  module _ (vpn : Vpn) (frame : Frame) (flags : Flags) (row : Ident) (since : ℕ) (at : IsSlotSince slots count frame since slot) where
    -- the view that it becomes
    abbrev pub again : View
    again = viewed (record { vpn = vpn; frame = frame; flags = flags; row = row; taken = at.view.taken }) at.view.first at.view.first

    pub at_count : slice_get mid count ≡ Some at.view
    at_count = ex.there ∙ at.there

    abbrev its : IsDatedSince frame since at.view
    its = dated_since frame since at.view at.is

    abbrev kept_bytes : Dated
    kept_bytes = record { frame = frame; bytes = at.view.first; place = its.place }

    dated_is : dated at.view ≡ Some kept_bytes
    dated_is =
        ap (option_map (λ n. record { frame = at.view.frame; bytes = at.view.first; place = n })) its.taken
        ∙ ap (λ (f : Frame). let d : Dated = record { frame = f; bytes = at.view.first; place = its.place } in Some d) its.of

    was : IsKeptSince (map dated (drop count slots)) frame since kept_bytes
    was = record {
      there = subst (Contains (map dated (drop count slots))) dated_is (still_kept (dated at.view) (from_there count mid at.view at_count));
      of = refl;
      late = its.late;
    }

    pub refilled : (most : ℕ) → count < length mid → find (is_touched_of frame) (take count slots) ≡ None → IsRefilled vpn frame flags row since (table_of most count slots) (table_of most (count + 1) (set mid count again))
    refilled most below untouched =
        let more : table_of most (count + 1) (set mid count again) ≡ with_filled (table_of most count mid) again = table_with most count mid again below in
        let is_filled : again ≡ filled (take count slots) vpn frame flags row at.view.first (Some its.place) =
        ap₂ (λ (o : Option ℕ) (bytes : List ℕ). record again { taken = o; present = bytes }) its.taken (ap (λ (o : Option View). present_in o at.view.first) (sym untouched)) in
        record {
          d = kept_bytes;
          was = was;
          views = ap (λ (t : Table). t.views) more ∙ ap₂ (λ (vs : List View) (v : View). vs ++ v ∷ []) ex.views is_filled;
          most = refl;
          kept = λ o there. still_kept o (behind_first (map dated (drop count mid)) o (subst (λ (ks : List (Option Dated)). Contains ks o) (ap (λ (t : Table). t.kept) more) there));
        }

-- ---- where a slot is found

module _ (frame : Frame) (since : ℕ) where
  abbrev pub keeps : View → Bool
  keeps v = is_since frame since (dated v)

  -- at a place that is looked at first
  pub slot_near : (slots : List View) (count near : ℕ) (v : View) → count ≤ near → near < length slots → v ≡ get_or slots near v → keeps v ≡ true → IsSlotSince slots count frame since near
  slot_near slots count near v behind within is passes = record { behind = behind; view = v; there = slice_get-get_or slots near v within ∙ ap (λ (w : View). Some w) (sym is); is = passes }

  -- at the first one behind the views
  pub slot_found : (slots : List View) (count i : ℕ) → position keeps (drop count slots) ≡ Some i → i < length (drop count slots) → IsSlotSince slots count frame since (count + i)
  slot_found slots count i at within =
      let there = view_there (drop count slots) i within in
      let seen : slice_get (drop count slots) i ≡ find keeps (drop count slots) = ap (λ (o : Option ℕ). seen_at o (drop count slots)) (sym at) ∙ position_seen keeps (drop count slots) in
      record {
        behind = omega arith;
        view = there.0;
        there = sym (get_behind count slots i) ∙ there.1;
        is = find-passes keeps (drop count slots) there.0 (sym seen ∙ there.1);
      }

  find_dated : (vs : List View) → find (is_since frame since) (map dated vs) ≡ option_map dated (find keeps vs)
  find_dated [] = refl
  find_dated (v ∷ vs) = by (keeps v) (find_dated vs)
    where
      by : (b : Bool) → find (is_since frame since) (map dated vs) ≡ option_map dated (find keeps vs) → cond b (Some (dated v)) (find (is_since frame since) (map dated vs)) ≡ option_map dated (cond b (Some v) (find keeps vs))
      by true rest = refl
      by false rest = rest

  -- or nowhere
  pub none_since : (vs : List View) → position keeps vs ≡ None → find (is_since frame since) (map dated vs) ≡ None
  none_since vs none = find_dated vs ∙ ap (option_map dated) (sym (position_seen keeps vs) ∙ ap (λ (o : Option ℕ). seen_at o vs) none)

  pub some_since : (slots : List View) (count slot : ℕ) → IsSlotSince slots count frame since slot → is_some (find (is_since frame since) (map dated (drop count slots))) ≡ true
  some_since slots count slot at = ap is_some (find_dated (drop count slots)) ∙ option_some (find keeps (drop count slots)) ∙ among (drop count slots) (slot - count) (get_behind count slots (slot - count) ∙ ap (slice_get slots) (let behind = at.behind in omega arith) ∙ at.there)
    where
      option_some : (o : Option View) → is_some (option_map dated o) ≡ is_some o
      option_some None = refl
      option_some (Some v) = refl

      among : (vs : List View) (i : ℕ) → slice_get vs i ≡ Some at.view → is_some (find keeps vs) ≡ true
      among [] i is = absurd (cc)
      among (v ∷ vs) zero is = let same : v ≡ at.view = cc in ap (λ (b : Bool). is_some (cond b (Some v) (find keeps vs))) (ap keeps same ∙ at.is)
      among (v ∷ vs) (suc i) is = by (keeps v) (among vs i is)
        where
          by : (b : Bool) → is_some (find keeps vs) ≡ true → is_some (cond b (Some v) (find keeps vs)) ≡ true
          by true rest = refl
          by false rest = rest
