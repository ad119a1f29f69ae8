use Rattle.reach_laws.proofs.Calling.{has_ended}
use Rattle.reach_laws.proofs.calls.a_confirmed_fault_ends_the_thread.Goals as goal

pub returns : goal.returns
returns c = has_ended
