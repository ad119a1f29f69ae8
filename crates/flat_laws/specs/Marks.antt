-- Through which rows a step goes, and which bits it leaves there.
use Rattle.std.specs.Prelude.{Bool, false, ◌&&◌, ◌||◌, Option, Some, None}
use Rattle.phys_groups.specs.declared.rows.Row.{Row}
use Rattle.phys_groups.specs.Translation.{is_row_of}
use Rattle.flat_state.specs.declared.records.FlatThread.{FlatThread}
use Rattle.flat_state.specs.State.{FlatState}
use Rattle.flat_state.specs.Pages.{pages_of}
use Rattle.flat_state.specs.Signals.{next_action}
use Rattle.flat_state.specs.NextSteps.{fetch_row, data_row, stores}

-- the row is the one that an access goes through
abbrev pub is_through : Option Row → Row → Bool
is_through None row = false
is_through (Some found) row = is_row_of found.space found.vpn.0 row

-- The row as the thread's next step leaves it where it doesn't fault: the rows of its fetch and of its data access are
-- referenced, and the latter is modified where the step stores. No other bit changes.
abbrev pub marked_by : FlatState → FlatThread → Row → Row
marked_by s t row =
    record row {
      referenced = row.referenced || (is_through (fetch_row s t) row || is_through (data_row s t) row);
      modified = row.modified || (stores (next_action t.context (pages_of s t.space)) && is_through (data_row s t) row);
    }
