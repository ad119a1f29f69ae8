-- What the lists beside the rows say.
use Rattle.std.specs.Prelude.{◌≡◌, ◌↔◌, ℕ, ◌+◌, ◌≤◌, true, List, length, Contains, IsSome}
use Rattle.cache_ident.specs.contracts.names.FrameOrd.TheImpl as frames
use Rattle.cache_ident.specs.declared.idents.Ident.{Ident}
use Rattle.cache_ident.specs.declared.names.Frame.{Frame}
use Rattle.cache_ident.specs.declared.names.Name.{Name}
use Rattle.phys_groups.specs.declared.rows.Row.{Row}
use Rattle.sorted_list.specs.Sorted.{Sorted}
use Rattle.sorted_list.specs.Sorted.{IsProper as IsProperList}
use Rattle.slot_cache.specs.Rows.{row_name}
use Rattle.kind_store.specs.Kept.{Kept, content_of}
use Rattle.declared_names.specs.Order.{names_in, AreInOrder, InOrder}
use Rattle.row_store.specs.declared.frames.RowsOf.{RowsOf}
use Rattle.row_store.specs.Frames.{IsIndexed}
use Rattle.row_store.specs.Kept.{is_signal_of}
use Rattle.row_store.specs.Signals.{stamped_cmp}

-- the index has each declared name of a signal row, with its stamp, under the row's frame, and nothing else
abbrev pub IsSignalIndex : Kept Row → List (ℕ × Name) → List (Frame × (ℕ × Name)) → Type 0
IsSignalIndex kept entries index = (entry : Frame × (ℕ × Name)) → Contains index entry ↔ (Contains entries entry.1 × (is_signal_of kept entry.0 entry.1.1 ≡ true))

-- the names are those of all contents, both indexes list what they are for, and each list has room for so many more
pub record IsSound (room : ℕ) (kept : Kept Row) (order : InOrder) (signals : Sorted Frame (ℕ × Name)) (by_frame : Sorted RowsOf Ident) : Type 0 where
  pub in_order : AreInOrder order.entries
  pub named : (name : Name) → Contains (names_in order) name ↔ IsSome (content_of row_name kept name)
  pub signals_listed : IsSignalIndex kept order.entries signals.entries
  pub signals_proper : IsProperList (frames.ghosts).cmp stamped_cmp signals
  pub frames_listed : IsIndexed kept.cells by_frame
  pub rows_room : room ≤ kept.room
  pub order_room : room ≤ order.room
  pub signals_room : room + length signals.entries ≤ signals.room
