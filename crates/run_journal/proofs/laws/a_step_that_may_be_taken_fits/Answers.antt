use Rattle.run_journal.proofs.Stepping.{step_taken, step_allowed}
use Rattle.run_journal.proofs.laws.a_step_that_may_be_taken_fits.Goals as goal

pub returns : goal.returns
returns c = record { fits = step_taken; may = step_allowed }
