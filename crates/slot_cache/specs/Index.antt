-- Lists of keys with values in the order of the keys, and what an edit leaves.
use Rattle.std.specs.Prelude.{◌≡◌, ◌≢◌, ℕ, ◌+◌, ◌<◌, ◌⊎◌, Bool, true, false, List, length, slice_index_or, Contains}
use Rattle.std.specs.declared.cmp.Ordering.{Ordering}
use Rattle.std.specs.declared.cmp.Ordering.TheVariants.{Less, Equal}

module _ {K V : Type 0} (cmp : K → K → Ordering) where
  -- each key is below those after it
  abbrev pub IsRising : List (K × V) → Type 0
  IsRising places = (i j : ℕ) (d : K × V) → i < j → j < length places → cmp (slice_index_or places i d).0 (slice_index_or places j d).0 ≡ Less

  -- the value stands under the key
  abbrev pub IsKeyOf : List (K × V) → K → V → Type 0
  IsKeyOf places key value = (place : K × V) × Contains places place × (cmp place.0 key ≡ Equal) × (place.1 ≡ value)

-- the new list has x too, and nothing else that the old one hadn't
pub record IsInserted {X : Type 0} (old new : List X) (x : X) : Type 0 where
  pub here : Contains new x
  pub kept : (y : X) → Contains old y → Contains new y
  pub only : (y : X) → Contains new y → (y ≡ x) ⊎ Contains old y
  pub longer : length new ≡ length old + 1

-- the new list has all that the old one had but x
pub record IsRemoved {X : Type 0} (old new : List X) (x : X) : Type 0 where
  pub gone : (y : X) → Contains new y → y ≢ x
  pub kept : (y : X) → Contains old y → y ≢ x → Contains new y
  pub only : (y : X) → Contains new y → Contains old y
  pub shorter : length new + 1 ≡ length old

-- the new list has x exactly if it isn't out, and of others what the old one had
pub record IsRelisted {X : Type 0} (old new : List X) (x : X) (out : Bool) : Type 0 where
  pub here : out ≡ false → Contains new x
  pub gone : out ≡ true → Contains new x → ⊥
  pub kept : (y : X) → Contains old y → y ≢ x → Contains new y
  pub only : (y : X) → Contains new y → y ≢ x → Contains old y
