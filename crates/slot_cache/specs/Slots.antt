-- Which slots are taken, and where those lie.
use Rattle.std.specs.Prelude.{◌≡◌, ℕ, ◌+◌, ◌-◌, ◌<◌, ◌≤◌, ◌^◌, List, ◌++◌, length, replicate, Option, None, IsSome, count_by, is_some, slice_index_or, Vec, vec_capacity}
use Rattle.std.specs.Ordering.{nat_cmp}
use Rattle.std.specs.declared.alloc.Global.{Global}
use Rattle.sorted_list.specs.Sorted.{Sorted}
use Rattle.slot_cache.specs.Table.{Lists}

module _ {X : Type 0} where
  -- what a slot holds
  abbrev pub slot_at : List (Option X) → ℕ → Option X
  slot_at slots slot = slice_index_or slots slot None

  -- the slot holds nothing, and each one below holds something
  pub record IsLowestGap (slots : List (Option X)) (slot : ℕ) : Type 0 where
    pub below : slot < length slots
    pub free : slot_at slots slot ≡ None
    pub lowest : (other : ℕ) → other < slot → IsSome (slot_at slots other)

  -- each slot holds something
  abbrev pub HasNoGap : List (Option X) → Type 0
  HasNoGap slots = (slot : ℕ) → slot < length slots → IsSome (slot_at slots slot)

  -- what a place of the free list says: its slot is free
  abbrev pub IsFree : List (Option X) → ℕ × Unit {0} → Type 0
  IsFree slots place = (place.0 < length slots) × (slot_at slots place.0 ≡ None)

  -- so many slots, of which those that were never used are not written
  unfoldable pub padded : ℕ → List (Option X) → List (Option X)
  padded cap slots = slots ++ replicate (cap - length slots) None

  -- slots with nothing in them were added where there was none for the slot, and no more
  pub record IsGrown (old new : List (Option X)) (slot : ℕ) : Type 0 where
    pub more : ℕ
    pub is : new ≡ old ++ replicate more None
    pub reaches : slot < length new
    pub few : (cap : ℕ) → length old ≤ cap → slot < cap → length new ≤ cap

  -- the list lists what is free of the slots that are written
  pub record AreListed (slots : List (Option X)) (free : Sorted ℕ (Unit {0})) : Type 0 where
    pub gaps : Lists nat_cmp (IsFree slots) free.entries
    pub gaps_len : length free.entries + count_by is_some slots ≡ length slots

  -- and there is room for all slots
  pub record IsRoomy (cap : ℕ) (slots : Vec (Option X) Global) (free : Sorted ℕ (Unit {0})) : Type 0 where
    pub small : cap < 2 ^ 32
    pub few : length slots.items ≤ cap
    pub slots_room : cap ≤ vec_capacity slots
    pub gaps_room : free.room ≡ cap
