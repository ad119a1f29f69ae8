-- What the places of a journal say of an identifier.
use Rattle.std.specs.Prelude.{◌≡◌, ℕ, ◌<◌, Bool, true, false, List, Contains, Some, slice_get}
use Rattle.cache_ident.specs.declared.idents.Cause.{Cause}
use Rattle.cache_ident.specs.declared.idents.Ident.{Ident}
use Rattle.cache_ident.specs.declared.names.Name.{Name}
use Rattle.cache_ident.specs.Residents.{Resident}
use Rattle.group_laws.specs.run_journal.specs.declared.entries.Entry.{Entry}
use Rattle.group_laws.specs.run_journal.specs.declared.entries.Entry.TheVariants.{Loaded, WrittenBack, Locked, Unlocked}

-- ---- what the entry at a place does

-- it loads the name under the identifier
abbrev pub IsLoadAt : List Entry → ℕ → Ident → Name → Type 0
IsLoadAt j at ident name = (cpu : ℕ) × (slice_get j at ≡ Some (Loaded ident name cpu))

-- the identifier leaves by it
abbrev pub IsDepartureAt : List Entry → ℕ → Ident → Type 0
IsDepartureAt j at ident = (cause : Cause) × (cpu : ℕ) × (slice_get j at ≡ Some (WrittenBack ident cause cpu))

-- it locks the identifier
abbrev pub IsLockAt : List Entry → ℕ → Ident → Type 0
IsLockAt j at ident = (cpu : ℕ) × (slice_get j at ≡ Some (Locked ident cpu))

-- it ends the lock
abbrev pub IsUnlockAt : List Entry → ℕ → Ident → Type 0
IsUnlockAt j at ident = (cpu : ℕ) × (slice_get j at ≡ Some (Unlocked ident cpu))

-- ---- what lasts

-- an entry loaded the name under the identifier, and by no later one that identifier leaves
pub record StaysLoaded (j : List Entry) (ident : Ident) (name : Name) : Type 0 where
  pub at : ℕ
  pub loaded : IsLoadAt j at ident name
  pub stays : (later : ℕ) → at < later → IsDepartureAt j later ident → ⊥

-- an entry locked the identifier, and no later one ends the lock, or is its departure
pub record StaysLocked (j : List Entry) (ident : Ident) : Type 0 where
  pub at : ℕ
  pub locked : IsLockAt j at ident
  pub on : (later : ℕ) → at < later → IsUnlockAt j later ident → ⊥
  pub stays : (later : ℕ) → at < later → IsDepartureAt j later ident → ⊥

-- what has the identifier is resident, and locked
abbrev pub IsIdentLocked : List Resident → Ident → Type 0
IsIdentLocked rs ident = (r : Resident) × Contains rs r × (r.ident ≡ ident) × (r.locked ≡ true)

-- ---- how often

abbrev pub is_departure : Entry → Bool
is_departure (WrittenBack ident cause cpu) = true
is_departure _ = false
