use Rattle.reach_laws.proofs.Loading.{space_got}
use Rattle.reach_laws.proofs.loads.a_space_is_got.Goals as goal

pub returns : goal.returns
returns c = space_got
