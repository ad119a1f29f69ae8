use Rattle.left_laws.proofs.EventsLeft.{events_bring}
use Rattle.left_laws.proofs.calls.events_bring_as_many_calls_as_steps.Goals as goal

pub returns : goal.returns
returns c = events_bring
