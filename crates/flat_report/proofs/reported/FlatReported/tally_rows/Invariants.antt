use Rattle.std.proofs.Common.{length}
use Rattle.flat_report.proofs.Counting.{IsTallied}
use Rattle.flat_report.proofs.reported.FlatReported.tally_rows.Given as goal

-- what is counted so far, and what is left
abbrev pub invariant-loop-row : goal.invariant-loop-row
invariant-loop-row l = IsTallied l.self.rows l.row-iterator (length l.self.spaces) l.tally
