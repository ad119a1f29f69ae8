-- The descriptors of a kind, wherever they stand.
use Rattle.std.specs.Prelude.{◌≡◌, ◌≢◌, ℕ, ◌+◌, ◌-◌, ◌≤◌, Bool, List, ◌++◌, length, map, count_by, is_some, All, AllPairs, Option, Some}
use Rattle.std.specs.List.{find}
use Rattle.std.specs.Option.{option_map, option_or}
use Rattle.cache_ident.specs.declared.idents.Kind.{Kind}
use Rattle.cache_ident.specs.declared.names.KernelNo.{KernelNo}
use Rattle.cache_ident.specs.declared.names.Name.{Name}
use Rattle.cache_ident.specs.contracts.names.NamePartialEq.TheImpl as names
use Rattle.slot_cache.specs.declared.loaded.Loaded.{Loaded}
use Rattle.slot_cache.specs.Cells.{cell_at, loaded_in}
use Rattle.slot_cache.specs.Table.{IsProper}
use Rattle.owner_shelf.specs.declared.shelved.Shelved.{Shelved}
use Rattle.owner_shelf.specs.Rows.{OnShelf, content_under, HasNoRow}
use Rattle.owner_shelf.specs.Rows.{IsProper as IsProperShelf}

-- what stands at each slot of the cache, what stands under which owner, and how many more there can be without memory
pub record Kept (T : Type 0) : Type 0 where
  pub cells : List (Option (Loaded T))
  pub rows : List (Shelved T)
  pub room : ℕ

module _ {T : Type 0} where
  -- how many there are
  abbrev pub count_of : List (Option (Loaded T)) → List (Shelved T) → ℕ
  count_of cells rows = count_by is_some cells + length rows

  -- what a cache and a shelf hold together, if the shelf has room for all
  abbrev pub kept_in : List (Option (Loaded T)) → OnShelf T → Kept T
  kept_in cells shelf = record { cells = cells; rows = shelf.rows; room = shelf.room - count_of cells shelf.rows }

module _ {T : Type 0} (called : T → Name) where
  -- whether that is the name of what is loaded
  abbrev pub is_called : Name → Loaded T → Bool
  is_called name loaded = (names.ghosts).eq (called loaded.value) name

  -- the content that is loaded under a name, if there is one
  abbrev pub loaded_under : List (Option (Loaded T)) → Name → Option T
  loaded_under cells name = option_map (λ loaded. loaded.value) (find (is_called name) (loaded_in cells))

  -- the content of a name, wherever it is
  unfoldable pub content_of : Kept T → Name → Option T
  content_of kept name = option_or (loaded_under kept.cells name) (content_under called kept.rows name)

  -- the names of all, those of what is loaded first
  abbrev pub names_of : Kept T → List Name
  names_of kept = map (λ loaded. called loaded.value) (loaded_in kept.cells) ++ map (λ row. called row.content) kept.rows

  -- Each name stands in one place at most: in one slot, or in one row of the shelf. What is loaded stands in the slot
  -- of its identifier, and no serial stands twice.
  pub record IsExactlyOne (kind : Kind) (kept : Kept T) : Type 0 where
    pub slots : IsProper called kind kept.cells
    pub once : AllPairs (λ a b. a ≢ b) (names_of kept)

  -- each row of the shelf stands under the kernel that owns its content
  abbrev pub AreOwned : (Name → Option KernelNo) → List (Shelved T) → Type 0
  AreOwned owner rows = All (λ row. owner (called row.content) ≡ Some row.owner) rows

  -- what holds of a cache and a shelf together
  pub record IsSound (kind : Kind) (cells : List (Option (Loaded T))) (shelf : OnShelf T) : Type 0 where
    pub slots : IsProper called kind cells
    pub rows : IsProperShelf called shelf
    pub apart : (slot : ℕ) (loaded : Loaded T) → cell_at cells slot ≡ Some loaded → HasNoRow called shelf.rows (called loaded.value)
    pub roomy : count_of cells shelf.rows ≤ shelf.room
