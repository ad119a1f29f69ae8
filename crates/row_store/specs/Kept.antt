-- What a contract sees of the rows.
use Rattle.std.specs.Prelude.{◌≡◌, ◌≢◌, ◌↔◌, ℕ, Bool, false, List, filter, AllPairs, Contains, Option, Some, None, IsSome}
use Rattle.cache_ident.specs.declared.names.Frame.{Frame}
use Rattle.cache_ident.specs.declared.names.Name.{Name}
use Rattle.cache_ident.specs.declared.names.ThreadNo.{ThreadNo}
use Rattle.phys_groups.specs.declared.rows.Row.{Row}
use Rattle.signal_pages.specs.Signals.{is_signal_row_of}
use Rattle.slot_cache.specs.declared.loaded.Loaded.{Loaded}
use Rattle.slot_cache.specs.Cells.{cell_at}
use Rattle.slot_cache.specs.Rows.{row_name}
use Rattle.kind_store.specs.Kept.{Kept, content_of}

-- the rows in the cache and on the shelf, the names of all in declared order, and how many more there can be without
-- memory
pub record KeptRows : Type 0 where
  pub kept : Kept Row
  pub names : List Name
  pub room : ℕ

-- whether there is a content, and it is a signal row of the frame
abbrev pub is_signal : Frame → Option Row → Bool
is_signal frame None = false
is_signal frame (Some row) = is_signal_row_of frame row

-- whether the name is that of a signal row of the frame, loaded or not
abbrev pub is_signal_of : Kept Row → Frame → Name → Bool
is_signal_of kept frame name = is_signal frame (content_of row_name kept name)

-- the names of the signal rows of a frame, in declared order
abbrev pub signal_names : KeptRows → Frame → List Name
signal_names all frame = filter (is_signal_of all.kept frame) all.names

-- each name that has a content is declared, once, and no other
pub record AreNamed (all : KeptRows) : Type 0 where
  pub once : AllPairs (λ a b. a ≢ b) all.names
  pub named : (name : Name) → Contains all.names name ↔ IsSome (content_of row_name all.kept name)

-- what stands at the slot, if anything, is a row with that receiver
abbrev pub ReceiverIs : List (Option (Loaded Row)) → ℕ → Option ThreadNo → Type 0
ReceiverIs cells slot receiver = (loaded : Loaded Row) → cell_at cells slot ≡ Some loaded → loaded.value.receiver ≡ receiver

-- a call with that row, if there is one, leaves its frame
abbrev pub LeavesFrame : {R : Type 0} → (Row → R → Row → Type 0) → Option Row → Type 0
LeavesFrame {R} call row = (was : Row) (result : R) (left : Row) → row ≡ Some was → call was result left → left.frame ≡ was.frame

-- and its flags
abbrev pub LeavesFlags : {R : Type 0} → (Row → R → Row → Type 0) → Option Row → Type 0
LeavesFlags {R} call row = (was : Row) (result : R) (left : Row) → row ≡ Some was → call was result left → left.flags ≡ was.flags

-- and its receiver
abbrev pub LeavesReceiver : {R : Type 0} → (Row → R → Row → Type 0) → Option Row → Type 0
LeavesReceiver {R} call row = (was : Row) (result : R) (left : Row) → row ≡ Some was → call was result left → left.receiver ≡ was.receiver
