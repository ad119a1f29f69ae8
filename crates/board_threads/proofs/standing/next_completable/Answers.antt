use Rattle.std.proofs.Common.{None, Some}
use Rattle.board_threads.proofs.TestLemmas.{first_completable}
use Rattle.board_threads.proofs.standing.next_completable.Goals as goal

pub returns-in_err-number : goal.returns-in_err-number
returns-in_err-number c = rw c.from_residual.ensures (first_completable c.args.core.now c.machine.result.now c.machine.result.now.sets c.sets.result.now c.machine.ensures c.sets.ensures.sets c.sets.ensures.of None c.in_err-number.ensures)

pub returns : goal.returns
returns c = first_completable c.args.core.now c.machine.result.now c.machine.result.now.sets c.sets.result.now c.machine.ensures c.sets.ensures.sets c.sets.ensures.of (Some c.in_ok-number.number) c.in_ok-number.ensures
