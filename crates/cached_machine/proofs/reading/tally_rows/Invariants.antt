use Rattle.std.proofs.Common.{filter_map}
use Rattle.flat_report.specs.Counts.{AreCounts}
use Rattle.cached_machine.proofs.ReadLaws.{row_in}
use Rattle.cached_machine.proofs.reading.tally_rows.Given as goal

-- what is counted of the rows of the names before this one
abbrev pub invariant-loop-name : goal.invariant-loop-name
invariant-loop-name l = AreCounts (filter_map (row_in l.tables.contents) l.yielded) l.tables.contents.space_count l.tally
