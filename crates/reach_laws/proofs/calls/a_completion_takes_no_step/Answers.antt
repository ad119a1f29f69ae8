use Rattle.reach_laws.proofs.Calling.{completion_steps}
use Rattle.reach_laws.proofs.calls.a_completion_takes_no_step.Goals as goal

pub returns : goal.returns
returns c = completion_steps
