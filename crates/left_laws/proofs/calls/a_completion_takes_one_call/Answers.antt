use Rattle.left_laws.proofs.EventsLeft.{completion_takes_one}
use Rattle.left_laws.proofs.calls.a_completion_takes_one_call.Goals as goal

pub returns : goal.returns
returns c = completion_takes_one
