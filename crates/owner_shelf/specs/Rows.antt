-- What a contract sees of a shelf.
use Rattle.std.specs.Prelude.{◌≡◌, ◌≢◌, ℕ, ◌≤◌, ◌^◌, ◌<◌, Bool, not, if◌then◌else◌, List, length, map, filter, All, AllPairs, Option, Some}
use Rattle.std.specs.List.{find}
use Rattle.std.specs.Option.{option_map}
use Rattle.cache_ident.specs.declared.names.Name.{Name}
use Rattle.cache_ident.specs.contracts.names.NamePartialEq.TheImpl as names
use Rattle.owner_shelf.specs.declared.shelved.Shelved.{Shelved}

-- how many rows there can be without memory, and the rows, each under its owner, in order of their names
pub record OnShelf (R : Type 0) : Type 0 where
  pub room : ℕ
  pub rows : List (Shelved R)

module _ {R : Type 0} (called : R → Name) where
  -- whether that is the row's name
  abbrev pub is_named : Name → Shelved R → Bool
  is_named name row = (names.ghosts).eq (called row.content) name

  -- the row of that name, if there is one
  abbrev pub row_under : List (Shelved R) → Name → Option (Shelved R)
  row_under rows name = find (is_named name) rows

  -- and its content
  abbrev pub content_under : List (Shelved R) → Name → Option R
  content_under rows name = option_map (λ row. row.content) (row_under rows name)

  -- the rows but the one of that name
  abbrev pub rows_without : List (Shelved R) → Name → List (Shelved R)
  rows_without rows name = filter (λ row. not (is_named name row)) rows

  -- the row, with that content if it has the name
  abbrev pub row_with : Name → R → Shelved R → Shelved R
  row_with name content row = if is_named name row then record row { content = content } else row

  -- the rows, with that content in the place of that of the name
  abbrev pub rows_with : List (Shelved R) → Name → R → List (Shelved R)
  rows_with rows name content = map (row_with name content) rows

  -- no row has the name
  abbrev pub HasNoRow : List (Shelved R) → Name → Type 0
  HasNoRow rows name = All (λ row. called row.content ≢ name) rows

  -- what holds of each shelf: no name stands twice, and there are no more rows than there is room for
  pub record IsProper (shelf : OnShelf R) : Type 0 where
    pub once : AllPairs (λ a b. called a.content ≢ called b.content) shelf.rows
    pub few : length shelf.rows ≤ shelf.room
    pub small : shelf.room < 2 ^ 32

  -- a call with that content, if there is one, leaves its name
  abbrev pub LeavesName : {S : Type 0} → (R → S → R → Type 0) → Option R → Type 0
  LeavesName {S} call content = (value : R) (result : S) (left : R) → content ≡ Some value → call value result left → called left ≡ called value
