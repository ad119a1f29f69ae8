use Rattle.std.proofs.Common.{◌≡◌, ◌++◌, drop}
use Rattle.report_text.specs.Reports.{lines_of_spaces}
use Rattle.flat_report.proofs.reporting.put_spaces.Given as goal

-- the lines so far and those of the rest are all lines
abbrev pub invariant-loop-no : goal.invariant-loop-no
invariant-loop-no g l =
    let s = g.M.Records.state l.machine in
    l.lines ++ lines_of_spaces s.rows l.no (drop l.no s.spaces) ≡ l.fn.lines ++ lines_of_spaces s.rows 0 s.spaces
