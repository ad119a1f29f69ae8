-- The machine of which dependence is read, and what holds of its rows.
use Rattle.std.specs.Prelude.{◌<◌, ◌≤◌, None, [], Contains, count_by}
use Rattle.cache_ident.specs.declared.names.Frame.{Frame}
use Rattle.phys_groups.specs.declared.rows.Row.{Row}
use Rattle.group_laws.specs.signal_pages.specs.Signals.{is_signal_row_of}
use Rattle.group_laws.specs.flat_state.specs.State.{FlatState}
use Rattle.store_residents.specs.desc_stores.specs.Contents.{Contents}
use Rattle.shown_state.specs.Shown.{shown}
use Rattle.group_laws.specs.Leaving.{AreAgreed}

-- The machine with unlimited tables that contents show, but for its memory. What depends on what, and who owns what, can
-- be read off it.
abbrev pub seen : Contents → FlatState
seen c = shown None [] c

-- No message row has a receiver, each row is of a frame that a memory can have, and no frame has more than four signal
-- rows.
pub record HasPlainRows (s : FlatState) : Type 0 where
  pub agreed : AreAgreed s
  pub framed : (row : Row) → Contains s.rows row → row.frame.0 < 2048
  pub few : (frame : Frame) → count_by (is_signal_row_of frame) s.rows ≤ 4
