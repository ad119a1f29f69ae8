use Rattle.std.proofs.Common.{None, Some}
use Rattle.board_threads.proofs.TestLemmas.{first_ready}
use Rattle.board_threads.proofs.known.next_ready.Goals as goal

pub returns-in_err-number-clause-first : goal.returns-in_err-number-clause-first
returns-in_err-number-clause-first c = rw c.from_residual.ensures (first_ready c.args.core.now c.machine.result.now c.machine.result.now.sets c.sets-sets.result.now c.machine.ensures c.sets-sets.ensures.sets c.sets-sets.ensures.of c.args.from None c.in_err-number.ensures)

pub returns-clause-first : goal.returns-clause-first
returns-clause-first c = first_ready c.args.core.now c.machine.result.now c.machine.result.now.sets c.sets-sets.result.now c.machine.ensures c.sets-sets.ensures.sets c.sets-sets.ensures.of c.args.from (Some c.in_ok-number.number) c.in_ok-number.ensures
