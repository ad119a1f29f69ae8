-- What stands in the slots of a kind.
use Rattle.std.specs.Prelude.{◌≡◌, ◌≢◌, ℕ, ◌<◌, ◌≤◌, Bool, false, List, length, slice_index_or, slice_set, Option, Some, None, option_map, IsSome, AllPairs, Contains, filter_map, ◌↔◌}
use Rattle.cache_ident.specs.declared.idents.Ident.{Ident}
use Rattle.cache_ident.specs.declared.names.Name.{Name}
use Rattle.slot_cache.specs.declared.loaded.Loaded.{Loaded}

module _ {T : Type 0} where
  -- what stands at a slot
  abbrev pub cell_at : List (Option (Loaded T)) → ℕ → Option (Loaded T)
  cell_at cells slot = slice_index_or cells slot None

  -- a descriptor as it is when it is loaded: not locked
  abbrev pub just_loaded : Ident → T → Loaded T
  just_loaded ident value = record { ident = ident; value = value; locked = false }

  -- the cells once that descriptor stands in the slot of its identifier
  abbrev pub filled : List (Option (Loaded T)) → Loaded T → List (Option (Loaded T))
  filled cells loaded = slice_set cells loaded.ident.slot (Some loaded)

  -- the cells once what stands at a slot is changed
  abbrev pub changed : List (Option (Loaded T)) → ℕ → (Loaded T → Loaded T) → List (Option (Loaded T))
  changed cells slot change = slice_set cells slot (option_map change (cell_at cells slot))

  -- what is loaded, in order of slot
  abbrev pub loaded_in : List (Option (Loaded T)) → List (Loaded T)
  loaded_in cells = filter_map (λ cell. cell) cells

  -- the list has each descriptor that stands in the slot of its identifier, and nothing else
  abbrev pub HasExactlyLoaded : List (Option (Loaded T)) → List (Loaded T) → Type 0
  HasExactlyLoaded cells list = (loaded : Loaded T) → Contains list loaded ↔ (cell_at cells loaded.ident.slot ≡ Some loaded)

  -- each is in a slot below those of all behind it, so none is listed twice
  abbrev pub IsInOrderOfSlot : List (Loaded T) → Type 0
  IsInOrderOfSlot list = AllPairs (λ a b. a.ident.slot < b.ident.slot) list

  -- the same descriptor with another content
  abbrev pub with_value : T → Loaded T → Loaded T
  with_value value loaded = record { ident = loaded.ident; value = value; locked = loaded.locked }

  -- the same descriptor with its lock set or clear
  abbrev pub with_lock : Bool → Loaded T → Loaded T
  with_lock on loaded = record { ident = loaded.ident; value = loaded.value; locked = on }

  -- the identifier is that of what stands in its slot
  abbrev pub IsLoaded : List (Option (Loaded T)) → Ident → Type 0
  IsLoaded cells ident = (loaded : Loaded T) × (cell_at cells ident.slot ≡ Some loaded) × (loaded.ident ≡ ident)

  -- the identifier is loaded with that content
  abbrev pub IsContent : List (Option (Loaded T)) → Ident → T → Type 0
  IsContent cells ident value = (loaded : Loaded T) × (cell_at cells ident.slot ≡ Some loaded) × (loaded.ident ≡ ident) × (loaded.value ≡ value)

  -- what stands at the slot, if anything, has that lock
  abbrev pub LockIs : List (Option (Loaded T)) → ℕ → Bool → Type 0
  LockIs cells slot locked = (loaded : Loaded T) → cell_at cells slot ≡ Some loaded → loaded.locked ≡ locked

  -- the slot is free, and each one below is taken
  pub record IsLowestFree (cells : List (Option (Loaded T))) (slot : ℕ) : Type 0 where
    pub below : slot < length cells
    pub free : cell_at cells slot ≡ None
    pub lowest : (other : ℕ) → other < slot → IsSome (cell_at cells other)

  -- each slot is taken
  abbrev pub IsFull : List (Option (Loaded T)) → Type 0
  IsFull cells = (slot : ℕ) → slot < length cells → IsSome (cell_at cells slot)

  -- nothing that is loaded has the serial
  abbrev pub HasNoSerial : List (Option (Loaded T)) → ℕ → Type 0
  HasNoSerial cells serial = (slot : ℕ) (loaded : Loaded T) → cell_at cells slot ≡ Some loaded → loaded.ident.serial ≢ serial

  -- each serial is below the number
  abbrev pub IsOlder : List (Option (Loaded T)) → ℕ → Type 0
  IsOlder cells serial = (slot : ℕ) (loaded : Loaded T) → cell_at cells slot ≡ Some loaded → loaded.ident.serial < serial

  -- a descriptor that a victim may be: it is neither locked nor kept
  pub record IsCandidate (keep : List Ident) (loaded : Loaded T) : Type 0 where
    pub unlocked : loaded.locked ≡ false
    pub not_kept : Contains keep loaded.ident → ⊥

  -- the cell holds a candidate of that identifier
  abbrev pub MayGo : Option (Loaded T) → List Ident → Ident → Type 0
  MayGo cell keep ident = (loaded : Loaded T) × (cell ≡ Some loaded) × (loaded.ident ≡ ident) × IsCandidate keep loaded

  -- the cell holds no candidate
  abbrev pub MayNotGo : Option (Loaded T) → List Ident → Type 0
  MayNotGo cell keep = (loaded : Loaded T) → cell ≡ Some loaded → IsCandidate keep loaded → ⊥

  -- each loaded descriptor is locked or kept
  abbrev pub NoneMayGo : List (Option (Loaded T)) → List Ident → Type 0
  NoneMayGo cells keep = (slot : ℕ) → MayNotGo (cell_at cells slot) keep

  -- the victim: of the candidates, the one with the smallest serial
  pub record IsVictim (cells : List (Option (Loaded T))) (keep : List Ident) (ident : Ident) : Type 0 where
    pub candidate : MayGo (cell_at cells ident.slot) keep ident
    pub smallest : (slot : ℕ) (loaded : Loaded T) → cell_at cells slot ≡ Some loaded → IsCandidate keep loaded → ident.serial ≤ loaded.ident.serial

module _ {T : Type 0} (called : T → Name) where
  -- nothing that is loaded has the name
  abbrev pub HasNoName : List (Option (Loaded T)) → Name → Type 0
  HasNoName cells name = (slot : ℕ) (loaded : Loaded T) → cell_at cells slot ≡ Some loaded → called loaded.value ≢ name

  -- what stands at the slot, if anything, has that name
  abbrev pub NameIs : List (Option (Loaded T)) → ℕ → Name → Type 0
  NameIs cells slot name = (loaded : Loaded T) → cell_at cells slot ≡ Some loaded → called loaded.value ≡ name

  -- the identifier is that of the loaded descriptor of that name
  abbrev pub IsFoundAs : List (Option (Loaded T)) → Name → Ident → Type 0
  IsFoundAs cells name ident = (loaded : Loaded T) × (cell_at cells ident.slot ≡ Some loaded) × (loaded.ident ≡ ident) × (called loaded.value ≡ name)
