-- The name of a row, its marks, and rows of which each page has one.
use Rattle.std.specs.Prelude.{◌≡◌, ℕ, Bool, true, ◌||◌, if◌then◌else◌, List, Some, slice_get}
use Rattle.cache_ident.specs.declared.names.Name.{Name}
use Rattle.cache_ident.specs.declared.names.Name.TheVariants.{Mapping}
use Rattle.cache_ident.specs.declared.names.SpaceNo.{SpaceNo}
use Rattle.phys_groups.specs.declared.rows.Row.{Row}
use Rattle.phys_groups.specs.Translation.{is_row_of}

-- its space and its page
abbrev pub row_name : Row → Name
row_name row = Mapping row.space row.vpn

-- a row once a step or a store has gone through the row of that page
abbrev pub marked : SpaceNo → ℕ → Bool → Row → Row
marked space vpn written row = if is_row_of space vpn row then record row { referenced = true; modified = row.modified || written } else row

-- no page has two rows
abbrev pub HasOneRowAPage : List Row → Type 0
HasOneRowAPage rows = (i j : ℕ) (a b : Row) → slice_get rows i ≡ Some a → slice_get rows j ≡ Some b → is_row_of a.space a.vpn.0 b ≡ true → i ≡ j
