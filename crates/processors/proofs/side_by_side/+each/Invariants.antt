use Rattle.std.proofs.Common.{◌+◌, ◌*◌, length}
use Rattle.processors.proofs.side_by_side.+each.Given as goal

abbrev pub decreases-run_each : goal.decreases-run_each
decreases-run_each g l = 2 * length l.passes.items

abbrev pub decreases-others : goal.decreases-others
decreases-others g l = 2 * length l.passes.items + 1
