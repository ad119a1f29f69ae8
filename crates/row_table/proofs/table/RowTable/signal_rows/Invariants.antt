use Rattle.std.proofs.Common.{◌≡◌, filter, take}
use Rattle.std.specs.Map.{values_of}
use Rattle.signal_pages.specs.Signals.{is_signal_row_of}
use Rattle.row_table.proofs.table.RowTable.signal_rows.Given as goal

abbrev pub invariant-loop-page : goal.invariant-loop-page
invariant-loop-page l = l.rows.items ≡ take l.page-index (filter (is_signal_row_of l.fn.frame) (values_of l.self-inside.rows))
