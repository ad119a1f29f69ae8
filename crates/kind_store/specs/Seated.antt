-- The descriptors of a kind in their seats, and what is seen of them.
use Rattle.std.specs.Prelude.{◌≡◌, ◌⊎◌, ℕ, ◌+◌, ◌≤◌, true, false, if◌then◌else◌, List, length, count_by, filter_map, is_some, slice_set, All, Contains, Option, Some, None}
use Rattle.std.specs.Ordering.{nat_cmp}
use Rattle.cache_ident.specs.declared.idents.Ident.{Ident}
use Rattle.cache_ident.specs.declared.idents.Kind.{Kind}
use Rattle.cache_ident.specs.declared.names.KernelNo.{KernelNo}
use Rattle.cache_ident.specs.declared.names.Name.{Name}
use Rattle.cache_ident.specs.contracts.names.NameOrd.TheImpl as order
use Rattle.sorted_list.specs.Sorted.{IsAdded, Sorted}
use Rattle.growing_list.specs.Index.{IsIndex}
use Rattle.slab.specs.Slab.{Slab, slab_len}
use Rattle.slot_cache.specs.declared.loaded.Loaded.{Loaded}
use Rattle.slot_cache.specs.declared.seats.Seat.{Seat}
use Rattle.slot_cache.specs.Cells.{cell_at, filled, just_loaded, HasNoName, IsContent}
use Rattle.slot_cache.specs.Seats.{cells_in, seat_at}
use Rattle.slot_cache.specs.Slots.{slot_at}
use Rattle.slot_cache.specs.Table.{is_unlocked, IsOncePerSerial, IsUnlocked, Lists}
use Rattle.owner_shelf.specs.declared.shelved.Shelved.{Shelved}
use Rattle.owner_shelf.specs.Rows.{content_under, row_under, rows_with, rows_without, OnShelf}
use Rattle.kind_store.specs.Changes.{cells_with, HasContent}
use Rattle.kind_store.specs.Kept.{content_of, kept_in}

-- what stands at each slot, and what stands on the shelf, with how many there can be
pub record Seen (T : Type 0) : Type 0 where
  pub cells : List (Option (Loaded T))
  pub shelf : OnShelf T

module _ {T : Type 0} where
  -- the row of the shelf that a seat is
  abbrev pub row_of : Option (Seat T) → Option (Shelved T)
  row_of None = None
  row_of (Some seat) = if seat.is_loaded then None else Some (record { owner = seat.owner; content = seat.loaded.value })

  -- the rows among the seats at these keys, in their order
  abbrev pub rows_in : List (Option (Seat T)) → List (Name × ℕ) → List (Shelved T)
  rows_in seats entries = filter_map (λ entry. row_of (seat_at seats entry.1)) entries

  -- what is seen of seats and of the slots and names that lead there
  abbrev pub seen_in : List (Option ℕ) → Slab (Seat T) → Sorted Name ℕ → Seen T
  seen_in slots records index = record { cells = cells_in records.slots slots; shelf = record { room = index.room; rows = rows_in records.slots index.entries } }

  -- no serial stands twice, and the list by serial has what is loaded and not locked
  pub record AreBySerial (cells : List (Option (Loaded T))) (by_serial : Sorted ℕ ℕ) : Type 0 where
    pub once : IsOncePerSerial cells
    pub lists : Lists nat_cmp (IsUnlocked cells) by_serial.entries
    pub len : length by_serial.entries ≡ count_by is_unlocked cells
    pub room : by_serial.room ≡ length cells

  -- what is loaded sits in the seat that its slot holds
  pub record IsSeatFor (kind : Kind) (seats : List (Option (Seat T))) (slot key : ℕ) : Type 0 where
    pub seat : Seat T
    pub at : seat_at seats key ≡ Some seat
    pub loaded : seat.is_loaded ≡ true
    pub slot_is : seat.loaded.ident.slot ≡ slot
    pub kind_is : seat.loaded.ident.kind ≡ kind

module _ {T : Type 0} (called : T → Name) where
  -- the seat at the key has the name
  abbrev pub HasName : List (Option (Seat T)) → Name → ℕ → Type 0
  HasName seats name key = (seat : Seat T) × (seat_at seats key ≡ Some seat) × (called seat.loaded.value ≡ name)

  -- so it has, or the name leads to the key
  abbrev pub LeadsTo : List (Option (Seat T)) → List (Name × ℕ) → Name → ℕ → Type 0
  LeadsTo seats entries name key = HasName seats name key ⊎ Contains entries (name, key)

  -- what holds of slots, seats and names together
  pub record IsSeated (kind : Kind) (slots : List (Option ℕ)) (by_serial : Sorted ℕ ℕ) (records : Slab (Seat T)) (index : Sorted Name ℕ) : Type 0 where
    -- a slot holds the key of what is loaded in it, and each that is loaded stands in its slot
    pub seated : (slot key : ℕ) → slot_at slots slot ≡ Some key → IsSeatFor kind records.slots slot key
    pub slotted : (key : ℕ) (seat : Seat T) → seat_at records.slots key ≡ Some seat → seat.is_loaded ≡ true → slot_at slots seat.loaded.ident.slot ≡ Some key
    pub serials : AreBySerial (cells_in records.slots slots) by_serial
    -- each name leads to its seat, and there is no other
    pub index_is : IsIndex (order.ghosts).cmp index
    pub kept : All (λ entry. HasName records.slots entry.0 entry.1) index.entries
    pub listed : (key : ℕ) (seat : Seat T) → seat_at records.slots key ≡ Some seat → Contains index.entries (called seat.loaded.value, key)
    pub counted : slab_len records ≡ length index.entries
    pub all : count_by is_some (cells_in records.slots slots) + length (rows_in records.slots index.entries) ≡ length index.entries
    pub roomy : index.room ≤ records.capacity

  -- the seat is the row of that name, and nothing that is loaded has the name
  pub record IsShelvedAs (seen : Seen T) (name : Name) (seat : Seat T) : Type 0 where
    pub row : row_under called seen.shelf.rows name ≡ Some (record { owner = seat.owner; content = seat.loaded.value })
    pub unloaded : HasNoName called seen.cells name

  -- the seat is that of the name, and shown by its slot or as a row of the shelf
  pub record IsSeatOf (seen : Seen T) (name : Name) (seat : Seat T) : Type 0 where
    pub named : called seat.loaded.value ≡ name
    pub loaded : seat.is_loaded ≡ true → cell_at seen.cells seat.loaded.ident.slot ≡ Some seat.loaded
    pub shelved : seat.is_loaded ≡ false → IsShelvedAs seen name seat

  -- the content of a name went from the shelf to the slot of the identifier
  pub record IsTakenIn (old new : Seen T) (name : Name) (ident : Ident) : Type 0 where
    pub value : T
    pub was : content_under called old.shelf.rows name ≡ Some value
    pub cells : new.cells ≡ filled old.cells (just_loaded ident value)
    pub shelf : new.shelf ≡ record old.shelf { rows = rows_without called old.shelf.rows name }

  -- a call with the content of the name gave that result, and what it left of it stands in its place
  pub record IsUpdated {R : Type 0} (call : T → R → T → Type 0) (old new : Seen T) (name : Name) (result : R) : Type 0 where
    pub value : T
    pub was : content_of called (kept_in old.cells old.shelf) name ≡ Some value
    pub left : T
    pub called_with : call value result left
    pub named : called left ≡ name
    pub is : new ≡ record { cells = cells_with called old.cells name left; shelf = record old.shelf { rows = rows_with called old.shelf.rows name left } }
    pub contents : HasContent called (kept_in old.cells old.shelf) (kept_in new.cells new.shelf) name left

-- what was loaded with the identifier went to the shelf, under the owner
pub record IsPutBack {T : Type 0} (old new : Seen T) (ident : Ident) (owner : KernelNo) : Type 0 where
  pub value : T
  pub was : IsContent old.cells ident value
  pub cells : new.cells ≡ slice_set old.cells ident.slot None
  pub room : new.shelf.room ≡ old.shelf.room
  pub rows : IsAdded old.shelf.rows new.shelf.rows (record { owner = owner; content = value })
