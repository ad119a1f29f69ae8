-- What holds of all slots, and what holds of their list.
use Rattle.std.specs.Prelude.{◌≡◌, ℕ, Bool, true, false, not, List, Option, Some, None, Contains}
use Rattle.std.specs.declared.cmp.Ordering.{Ordering}
use Rattle.cache_ident.specs.declared.idents.Kind.{Kind}
use Rattle.cache_ident.specs.declared.names.Name.{Name}
use Rattle.slot_cache.specs.declared.loaded.Loaded.{Loaded}
use Rattle.slot_cache.specs.Index.{IsRising}
use Rattle.slot_cache.specs.Cells.{cell_at}

-- what a place of the list by serials says: its slot holds a descriptor with that serial that isn't locked
abbrev pub IsUnlocked : {T : Type 0} → List (Option (Loaded T)) → ℕ × ℕ → Type 0
IsUnlocked {T} cells place = (loaded : Loaded T) × (cell_at cells place.1 ≡ Some loaded) × (loaded.ident.serial ≡ place.0) × (loaded.locked ≡ false)

-- whether a cell holds a descriptor that isn't locked
abbrev pub is_unlocked : {T : Type 0} → Option (Loaded T) → Bool
is_unlocked None = false
is_unlocked (Some loaded) = not loaded.locked

-- in how many places of that list a slot stands, by its lock
abbrev pub places_of : Bool → ℕ
places_of true = 0
places_of false = 1

-- no serial stands twice
abbrev pub IsOncePerSerial : {T : Type 0} → List (Option (Loaded T)) → Type 0
IsOncePerSerial {T} cells = (i j : ℕ) (a b : Loaded T) → cell_at cells i ≡ Some a → cell_at cells j ≡ Some b → a.ident.serial ≡ b.ident.serial → i ≡ j

-- the list rises, and its places are those of which the fact holds
pub record Lists {K V : Type 0} (cmp : K → K → Ordering) (P : K × V → Type 0) (places : List (K × V)) : Type 0 where
  pub rising : IsRising cmp places
  pub sound : (place : K × V) → Contains places place → P place
  pub complete : (place : K × V) → P place → Contains places place

-- each descriptor stands in the slot of its identifier, which is of the kind
abbrev pub IsPlaced : {T : Type 0} → Kind → List (Option (Loaded T)) → Type 0
IsPlaced {T} kind cells = (slot : ℕ) (loaded : Loaded T) → cell_at cells slot ≡ Some loaded → (loaded.ident.slot ≡ slot) × (loaded.ident.kind ≡ kind)

-- what holds of all slots: each descriptor stands in the slot of its identifier, no serial stands twice, and no name
pub record IsProper {T : Type 0} (called : T → Name) (kind : Kind) (cells : List (Option (Loaded T))) : Type 0 where
  pub placed : IsPlaced kind cells
  pub one_serial : IsOncePerSerial cells
  pub one_name : (i j : ℕ) (a b : Loaded T) → cell_at cells i ≡ Some a → cell_at cells j ≡ Some b → called a.value ≡ called b.value → i ≡ j
