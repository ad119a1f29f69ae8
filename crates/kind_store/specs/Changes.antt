-- What a call leaves.
use Rattle.std.specs.Prelude.{◌≡◌, Bool, if◌then◌else◌, slice_set, List, map, Option, Some, None}
use Rattle.std.specs.Option.{option_map}
use Rattle.cache_ident.specs.declared.idents.Ident.{Ident}
use Rattle.cache_ident.specs.declared.names.KernelNo.{KernelNo}
use Rattle.cache_ident.specs.declared.names.Name.{Name}
use Rattle.cache_ident.specs.contracts.names.NamePartialEq.TheImpl as names
use Rattle.sorted_list.specs.Sorted.{IsAdded}
use Rattle.slot_cache.specs.declared.loaded.Loaded.{Loaded}
use Rattle.slot_cache.specs.Cells.{filled, just_loaded, with_value, IsContent}
use Rattle.owner_shelf.specs.Rows.{content_under, row_under, rows_with, rows_without}
use Rattle.kind_store.specs.Kept.{content_of, is_called, Kept}

abbrev pub is_name : Name → Name → Bool
is_name = (names.ghosts).eq

module _ {T : Type 0} where
  -- what was loaded with the identifier went to the shelf, under the owner, with the content that it then had
  pub record IsLeaving (old new : Kept T) (ident : Ident) (owner : KernelNo) : Type 0 where
    pub value : T
    pub was : IsContent old.cells ident value
    pub cells : new.cells ≡ slice_set old.cells ident.slot None
    pub rows : IsAdded old.rows new.rows (record { owner = owner; content = value })
    pub room : new.room ≡ old.room

module _ {T : Type 0} (called : T → Name) where
  -- each name has the content that it had
  abbrev pub KeepsContents : Kept T → Kept T → Type 0
  KeepsContents old new = (name : Name) → content_of called new name ≡ content_of called old name

  -- that name has that content, and each other name the one that it had
  abbrev pub HasContent : Kept T → Kept T → Name → T → Type 0
  HasContent old new name value = (other : Name) → content_of called new other ≡ (if is_name name other then Some value else content_of called old other)

  -- that name has no content, and each other name the one that it had
  abbrev pub HasNoContent : Kept T → Kept T → Name → Type 0
  HasNoContent old new name = (other : Name) → content_of called new other ≡ (if is_name name other then None else content_of called old other)

  -- the content of the name went from the shelf to the slot of the identifier, not locked
  pub record IsLoading (old new : Kept T) (name : Name) (ident : Ident) : Type 0 where
    pub value : T
    pub was : content_under called old.rows name ≡ Some value
    pub cells : new.cells ≡ filled old.cells (just_loaded ident value)
    pub rows : new.rows ≡ rows_without called old.rows name
    pub room : new.room ≡ old.room

  -- what is loaded, with that content if it has the name
  abbrev pub loaded_with : Name → T → Loaded T → Loaded T
  loaded_with name value loaded = if is_called called name loaded then with_value value loaded else loaded

  -- the cells, with that content in the place of that of the name
  abbrev pub cells_with : List (Option (Loaded T)) → Name → T → List (Option (Loaded T))
  cells_with cells name value = map (option_map (loaded_with name value)) cells

  -- what stands, with that content in the place of that of the name, wherever it is
  abbrev pub with_content : Kept T → Name → T → Kept T
  with_content kept name value = record kept { cells = cells_with kept.cells name value; rows = rows_with called kept.rows name value }

  -- a call with the content of the name gave that result, and what it left of the content stands in its place
  pub record IsUpdatingNamed {R : Type 0} (call : T → R → T → Type 0) (old new : Kept T) (name : Name) (result : R) : Type 0 where
    pub value : T
    pub was : content_of called old name ≡ Some value
    pub left : T
    pub called_with : call value result left
    pub is : new ≡ with_content old name left
    pub contents : HasContent old new name left

  -- a content on the shelf gave way to another one, under the same owner
  pub record IsExchanging (old new : Kept T) (value result : T) : Type 0 where
    pub owner : KernelNo
    pub was : row_under called old.rows (called value) ≡ Some (record { owner = owner; content = result })
    pub cells : new.cells ≡ old.cells
    pub rows : IsAdded (rows_without called old.rows (called value)) new.rows (record { owner = owner; content = value })
    pub room : new.room ≡ old.room
