-- Slots behind the written ones hold nothing.
use Rattle.std.proofs.Common.{◌≡◌, ℕ, zero, suc, ◌+◌, ◌-◌, ◌<◌, ◌≤◌, cond, List, [], ◌∷◌, ◌++◌, length, get_or, set, Contains, Option, Some, None, IsSome, is_some, count_by, filter_map, replicate, sym, ◌∙◌, ap, subst, inl, inr, refl, arith, append_assoc, length-append}
use Rattle.std.specs.declared.cmp.Ordering.TheVariants.{Equal}
use Rattle.std.specs.Prelude.{slice_get}
use Rattle.std.proofs.Math.ListN.{get_or-append}
use Rattle.std.proofs.lemmas.Bool.{cases_lt}
use Rattle.std.proofs.lemmas.List.{append-nil, length_push, get_or-append_right, get_or_past, length-replicate, length-set, replicate-append-replicate, set-append_left}
use Rattle.std.proofs.lemmas.Cmp.{ranked}
use Rattle.std.proofs.lemmas.List.Elements.{Contains-get_or, filter_map-append}
use Rattle.std.proofs.lemmas.List.Sums.{sum_by-append}
use Rattle.std.specs.Ordering.{nat_cmp}
use Rattle.sorted_list.specs.Sorted.{Sorted}
use Rattle.slot_cache.specs.Index.{IsInserted, IsRising}
use Rattle.slot_cache.specs.Slots.{padded, slot_at, HasNoGap, IsFree, IsGrown, IsLowestGap}
use Rattle.slot_cache.specs.Table.{Lists}
use Rattle.slot_cache.proofs.SlotLemmas.{all_none, count-nothing, pair_same}

module _ {X : Type 0} where
  -- cells with nothing in them hold nothing at any slot
  pub grown_at : (cells : List (Option X)) (n slot : ℕ) → slot_at (cells ++ replicate n None) slot ≡ slot_at cells slot
  grown_at cells n slot = elim (cases_lt slot (length cells)) [
    | inl within ↦ get_or-append cells (replicate n None) None slot within
    | inr past ↦ get_or-append_right cells (replicate n None) (length cells) slot None refl past ∙ all_none n (slot - length cells) ∙ sym (get_or_past cells slot None past)
  ]

  pub grown_count : (cells : List (Option X)) (n : ℕ) → count_by is_some (cells ++ replicate n None) ≡ count_by is_some cells
  grown_count cells n = omega (arith, sum_by-append (λ c. cond (is_some c) 1 0) cells (replicate n None), count-nothing X n)

-- where none is written, all are free
pub pad_none : {X : Type 0} (cap : ℕ) → padded {X = X} cap [] ≡ replicate cap None
unfolding padded
pad_none cap = let all : cap - 0 ≡ cap = omega arith in ap (λ n. replicate n None) all

taken_none : (X : Type 0) (n : ℕ) → filter_map (λ (c : Option X). c) (replicate n None) ≡ []
taken_none X zero = refl
taken_none X (suc n) = taken_none X n

module _ {X : Type 0} (cap : ℕ) (cells : List (Option X)) where
  -- so all slots hold what the written ones do
  pub pad_at : (slot : ℕ) → slot_at (padded cap cells) slot ≡ slot_at cells slot
  unfolding padded
  pad_at slot = grown_at cells (cap - length cells) slot

  pub pad_taken : filter_map (λ (c : Option X). c) (padded cap cells) ≡ filter_map (λ (c : Option X). c) cells
  unfolding padded
  pad_taken =
      let taken = filter_map (λ (c : Option X). c) cells in
      filter_map-append (λ (c : Option X). c) cells (replicate (cap - length cells) None) ∙ ap (λ l. taken ++ l) (taken_none X (cap - length cells)) ∙ append-nil taken

  pub pad_length : length cells ≤ cap → length (padded cap cells) ≡ cap
  unfolding padded
  pad_length few = omega (arith, few, length-append cells (replicate (cap - length cells) None), length-replicate {A = Option X} (cap - length cells) None)

  -- a write of a written one is a write among all
  pub pad_set : (slot : ℕ) (c : Option X) → slot < length cells → padded cap (set cells slot c) ≡ set (padded cap cells) slot c
  unfolding padded
  pad_set slot c within = ap (λ n. set cells slot c ++ replicate (cap - n) None) (length-set cells slot c) ∙ sym (set-append_left cells (replicate (cap - length cells) None) slot c within)

  -- and so are more of them written
  pub pad_grown : (more : ℕ) → length (cells ++ replicate more None) ≤ cap → padded cap (cells ++ replicate more None) ≡ padded cap cells
  unfolding padded
  pad_grown more few =
      let longer = length-append cells (replicate more None) in
      let n = length-replicate {A = Option X} more None in
      let rest : more + (cap - length (cells ++ replicate more None)) ≡ cap - length cells = omega (arith, few, longer, n) in
      append_assoc cells (replicate more None) (replicate (cap - length (cells ++ replicate more None)) None) ∙ ap (λ l. cells ++ l) (replicate-append-replicate more (cap - length (cells ++ replicate more None)) None) ∙ ap (λ k. cells ++ replicate k None) rest

  pub unpad : (slot : ℕ) (c : Option X) → slot_at (padded cap cells) slot ≡ c → slot_at cells slot ≡ c
  unpad slot c there = sym (pad_at slot) ∙ there

-- cells with nothing in them were added as far as the slot, and each is listed as free
pub record IsReaching {X : Type 0} (old : List (Option X)) (old_free : Sorted ℕ (Unit {0})) (cells : List (Option X)) (free : Sorted ℕ (Unit {0})) (slot : ℕ) : Type 0 where
  pub more : ℕ
  pub is : cells ≡ old ++ replicate more None
  pub few : (cap : ℕ) → length old ≤ cap → slot < cap → length cells ≤ cap
  pub listed : Lists nat_cmp (IsFree cells) free.entries
  pub len : length free.entries + length old ≡ length old_free.entries + length cells
  pub room : free.room ≡ old_free.room

module _ {X : Type 0} (old : List (Option X)) (old_free : Sorted ℕ (Unit {0})) (slot : ℕ) where
  pub reaching_none : Lists nat_cmp (IsFree old) old_free.entries → IsReaching old old_free old old_free slot
  reaching_none listed = record { more = 0; is = sym (append-nil old); few = λ cap few _. few; listed = listed; len = refl; room = refl }

  pub reaching_more : (cells new : List (Option X)) (free new_free : Sorted ℕ (Unit {0})) → IsReaching old old_free cells free slot → length cells ≤ slot → new ≡ cells ++ None ∷ [] → IsRising nat_cmp new_free.entries → IsInserted free.entries new_free.entries (length cells, tt) → new_free.room ≡ free.room → IsReaching old old_free new new_free slot
  reaching_more cells new free new_free r below pushed rising edit room =
      let longer : length new ≡ length cells + 1 = ap length pushed ∙ length_push cells None in
      let same : (k : ℕ) → slot_at new k ≡ slot_at cells k = λ k. ap (λ c. slot_at c k) pushed ∙ grown_at cells 1 k in
      record {
        more = r.more + 1;
        is = pushed ∙ ap (λ l. l ++ None ∷ []) r.is ∙ append_assoc old (replicate r.more None) (None ∷ []) ∙ ap (λ l. old ++ l) (replicate-append-replicate r.more 1 None);
        few = λ cap few lt. omega (arith, below, lt, longer);
        listed = record {
          rising = rising;
          sound = λ place there. elim (edit.only place there) [
            | inl here ↦
                let at : place.0 ≡ length cells = ap (λ (p : ℕ × Unit {0}). p.0) here in
                (omega (arith, at, longer), same place.0 ∙ get_or_past cells place.0 None (omega (arith, at)))
            | inr was ↦ let it = r.listed.sound place was in (omega (arith, it.0, longer), same place.0 ∙ it.1)
          ];
          complete = λ place it. elim (cases_lt place.0 (length cells)) [
            | inl within ↦ edit.kept place (r.listed.complete place (within, sym (same place.0) ∙ it.1))
            | inr past ↦
                let at : place.0 ≡ length cells = omega (arith, past, it.0, longer) in
                subst (Contains new_free.entries) (sym (pair_same place (length cells) tt (sym at) refl)) edit.here
          ];
        };
        len = omega (arith, r.len, edit.longer, longer);
        room = room ∙ r.room;
      }

  -- a slot that is no cell yet isn't listed
  pub not_listed_yet : (cells : List (Option X)) (free : Sorted ℕ (Unit {0})) → IsReaching old old_free cells free slot → (k : ℕ) (d : ℕ × Unit {0}) → k < length free.entries → nat_cmp (get_or free.entries k d).0 (length cells) ≡ Equal → ⊥
  not_listed_yet cells free r k d within equal =
      let it = r.listed.sound (get_or free.entries k d) (Contains-get_or free.entries k d within) in
      omega (arith, it.0, ranked (get_or free.entries k d).0 (length cells) Equal (sym equal))

-- where no written slot is free, the first of the others is the lowest free one
pub lowest_unwritten : {X : Type 0} (cap : ℕ) (cells : List (Option X)) → HasNoGap cells → length cells < cap → IsLowestGap (padded cap cells) (length cells)
lowest_unwritten cap cells full less = record {
  below = omega (arith, less, pad_length cap cells (omega (arith, less)));
  free = pad_at cap cells (length cells) ∙ get_or_past cells (length cells) None (omega arith);
  lowest = λ other lower. subst IsSome (sym (pad_at cap cells other)) (full other lower);
}

pub lowest_padded : {X : Type 0} (cap : ℕ) (cells : List (Option X)) (slot : ℕ) → length cells ≤ cap → IsLowestGap cells slot → IsLowestGap (padded cap cells) slot
lowest_padded cap cells slot few it = record {
  below = omega (arith, it.below, few, pad_length cap cells few);
  free = pad_at cap cells slot ∙ it.free;
  lowest = λ other lower. subst IsSome (sym (pad_at cap cells other)) (it.lowest other lower);
}

pub full_padded : {X : Type 0} (cap : ℕ) (cells : List (Option X)) → length cells ≤ cap → cap ≤ length cells → HasNoGap cells → HasNoGap (padded cap cells)
full_padded cap cells few all full slot within = subst IsSome (sym (pad_at cap cells slot)) (full slot (omega (arith, within, all, pad_length cap cells few)))

-- a list with no first item is empty
pub none_first : {X : Type 0} (xs : List X) → slice_get xs 0 ≡ None → length xs ≡ 0
none_first [] none = refl
none_first (x ∷ xs) none = absurd (apart none)
  where
    apart : Some x ≡ None → ⊥
    apart e = cc

module _ {X : Type 0} (cap : ℕ) (cells : List (Option X)) where
  pub grown_none : (new : List (Option X)) (slot : ℕ) → IsGrown cells new slot → slot_at (padded cap cells) slot ≡ None → slot_at new slot ≡ None
  grown_none new slot grown free = ap (λ c. slot_at c slot) grown.is ∙ grown_at cells grown.more slot ∙ unpad cap cells slot None free

  pub pad_grown_to : (new : List (Option X)) (slot : ℕ) → IsGrown cells new slot → length new ≤ cap → padded cap new ≡ padded cap cells
  pad_grown_to new slot grown few = ap (padded cap) grown.is ∙ pad_grown cap cells grown.more (subst (λ c. length c ≤ cap) grown.is few)
