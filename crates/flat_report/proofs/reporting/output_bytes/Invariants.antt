use Rattle.std.proofs.Common.{◌≡◌, ◌+◌, drop, length}
use Rattle.std.specs.Prelude.{sum_by}
use Rattle.flat_report.specs.Outputs.{output_bytes}
use Rattle.flat_report.proofs.reporting.output_bytes.Given as goal

-- the bytes so far and those of the rest are all
abbrev pub invariant-loop-no : goal.invariant-loop-no
invariant-loop-no g l =
    let s = g.M.Records.state l.machine in
    l.bytes + sum_by (λ t. length t.output) (drop l.no s.threads) ≡ output_bytes s
