-- Where rights let read and write in memory, and which states differ only where they don't let read.
use Rattle.std.specs.Prelude.{◌≡◌, ℕ, ◌/◌, Bool, true, ◌⊎◌, List, length, Option, Some, None, slice_index}
use Rattle.phys_groups.specs.Translation.{right_on}
use Rattle.flat_state.specs.State.{FlatState}

-- the read bit of a place's page group is among the rights
abbrev pub MayRead : List (Bool × Bool) → ℕ → Type 0
MayRead rights place = (right_on rights (place / 524288)).0 ≡ true

-- its write bit is among them
abbrev pub MayWrite : List (Bool × Bool) → ℕ → Type 0
MayWrite rights place = (right_on rights (place / 524288)).1 ≡ true

-- two memories have one size, and the same bytes wherever the rights let read
pub record AgreeWhereReadable (rights : List (Bool × Bool)) (here there : List ℕ) : Type 0 where
  pub size : length here ≡ length there
  pub bytes : (place : ℕ) → MayRead rights place → slice_index here place ≡ slice_index there place

-- two states have all in common but their memories
pub record AgreeButMemory (here there : FlatState) : Type 0 where
  pub machine : here.machine ≡ there.machine
  pub kernels : here.kernels ≡ there.kernels
  pub spaces : here.spaces ≡ there.spaces
  pub rows : here.rows ≡ there.rows
  pub threads : here.threads ≡ there.threads

-- two states differ at most in bytes that the rights don't let read
pub record AgreeFor (rights : List (Bool × Bool)) (here there : FlatState) : Type 0 where
  pub rest : AgreeButMemory here there
  pub memory : AgreeWhereReadable rights here.memory there.memory

-- of two bytes that became two others: both stayed, or both are one byte now
abbrev pub StayOrAgree : ℕ → ℕ → ℕ → ℕ → Type 0
StayOrAgree here there here_after there_after = ((here_after ≡ here) × (there_after ≡ there)) ⊎ (here_after ≡ there_after)

-- Two memories became two others, into which the same was written: they have one size, and at each place both keep
-- the byte that they had, or both have one byte.
pub record WrittenAlike (here there here_after there_after : List ℕ) : Type 0 where
  pub size : length here_after ≡ length there_after
  pub bytes : (place : ℕ) → StayOrAgree (slice_index here place) (slice_index there place) (slice_index here_after place) (slice_index there_after place)

-- two states became two others that have all in common but their memories, into which the same was written
pub record AgreeAfter (here there here_after there_after : FlatState) : Type 0 where
  pub rest : AgreeButMemory here_after there_after
  pub memory : WrittenAlike here.memory there.memory here_after.memory there_after.memory

-- what can happen in one of two states can happen in the other, and then makes of them two states that agree so
abbrev pub AgreeAfterBoth : FlatState → FlatState → Option FlatState → Option FlatState → Type 0
AgreeAfterBoth here there (Some here_after) (Some there_after) = AgreeAfter here there here_after there_after
AgreeAfterBoth here there None None = Unit {0}
AgreeAfterBoth here there (Some here_after) None = ⊥
AgreeAfterBoth here there None (Some there_after) = ⊥
