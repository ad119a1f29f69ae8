use Rattle.reach_laws.proofs.Calling.{completes, confirms}
use Rattle.reach_laws.proofs.calls.a_reached_thread_is_called_for.Goals as goal

pub returns : goal.returns
returns c = record { completes = completes; confirms = confirms }
