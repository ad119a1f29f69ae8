-- What holds of the rows and of the index of signal rows beside them.
use Rattle.std.specs.Prelude.{List}
use Rattle.phys_groups.specs.declared.rows.Row.{Row}
use Rattle.row_table.specs.declared.signals.SignalIndex.{SignalIndex}
use Rattle.row_table.specs.Rows.{IsProper}
use Rattle.row_table.specs.SignalPages.{IsSignalIndexOf}

-- the rows are proper, and the index is theirs
pub record IsSound (rows : List Row) (signals : SignalIndex) : Type 0 where
  pub proper : IsProper rows
  pub signal_pages : IsSignalIndexOf rows signals
