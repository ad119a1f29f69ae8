-- The loaded rows of a frame, and the index that lists them, message rows apart from others.
use Rattle.std.specs.Prelude.{◌≡◌, ◌↔◌, ℕ, Bool, List, length, Option, Some, count_by, is_some, Contains}
use Rattle.cache_ident.specs.contracts.idents.IdentOrd.TheImpl as ident
use Rattle.cache_ident.specs.declared.idents.Ident.{Ident}
use Rattle.cache_ident.specs.declared.names.Frame.{Frame}
use Rattle.sorted_list.specs.Sorted.{by_parts, IsRising, Sorted}
use Rattle.phys_groups.specs.declared.rows.Flags.{Flags}
use Rattle.phys_groups.specs.declared.rows.Row.{Row}
use Rattle.slot_cache.specs.declared.loaded.Loaded.{Loaded}
use Rattle.slot_cache.specs.Cells.{cell_at}
use Rattle.row_store.specs.declared.frames.RowsOf.{RowsOf}
use Rattle.row_store.specs.contracts.frames.RowsOfOrd.TheImpl as rows

-- the rows of its frame among which a row is
abbrev pub rows_of : Row → RowsOf
rows_of row = record { frame = row.frame; message = row.flags.m }

-- the identifier is that of a loaded row of the frame, which is a message row or isn't, as is said
abbrev pub IsRowOf : List (Option (Loaded Row)) → Frame → Bool → Ident → Type 0
IsRowOf cells of_frame message own = (loaded : Loaded Row) × (cell_at cells own.slot ≡ Some loaded) × (loaded.ident ≡ own) × (loaded.value.frame ≡ of_frame) × (loaded.value.flags.m ≡ message)

-- what stands at the slot, if anything, is a row of the frame
abbrev pub FrameIs : List (Option (Loaded Row)) → ℕ → Frame → Type 0
FrameIs cells slot of_frame = (loaded : Loaded Row) → cell_at cells slot ≡ Some loaded → loaded.value.frame ≡ of_frame

-- and has those flags
abbrev pub FlagsAre : List (Option (Loaded Row)) → ℕ → Flags → Type 0
FlagsAre cells slot flags = (loaded : Loaded Row) → cell_at cells slot ≡ Some loaded → loaded.value.flags ≡ flags

-- the index has the identifier of each loaded row among those where it is, and nothing else
abbrev pub IsByFrame : List (Option (Loaded Row)) → List (RowsOf × Ident) → Type 0
IsByFrame cells index = (entry : RowsOf × Ident) → Contains index entry ↔ IsRowOf cells entry.0.frame entry.0.message entry.1

-- the index lists what is loaded and has room for all
pub record IsIndexed (cells : List (Option (Loaded Row))) (index : Sorted RowsOf Ident) : Type 0 where
  pub listed : IsByFrame cells index.entries
  pub rising : IsRising (by_parts (rows.ghosts).cmp (ident.ghosts).cmp) index.entries
  pub len : length index.entries ≡ count_by is_some cells
  pub room : index.room ≡ length cells
