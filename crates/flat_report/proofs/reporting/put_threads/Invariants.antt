use Rattle.std.proofs.Common.{◌≡◌, ◌++◌, drop}
use Rattle.std.specs.List.{flat_map}
use Rattle.report_text.specs.Reports.{line_of_thread}
use Rattle.flat_report.proofs.reporting.put_threads.Given as goal

-- the lines so far and those of the rest are all lines
abbrev pub invariant-loop-no : goal.invariant-loop-no
invariant-loop-no g l = l.lines ++ flat_map line_of_thread (drop l.no (g.M.Records.state l.machine).threads) ≡ l.fn.lines ++ flat_map line_of_thread (g.M.Records.state l.machine).threads
