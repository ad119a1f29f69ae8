use Rattle.std.proofs.Common.{◌-◌, ◌^◌}
use Rattle.board_threads.specs.Tests.{goes_on}
use Rattle.board_threads.proofs.TestLemmas.{NoneBelow}
use Rattle.board_threads.proofs.standing.is_one_runnable.Given as goal

abbrev pub invariant-loop-no : goal.invariant-loop-no
invariant-loop-no l = NoneBelow (goes_on l.core) l.from

abbrev pub decreases-loop-no : goal.decreases-loop-no
decreases-loop-no l = 2 ^ 32 - l.from
