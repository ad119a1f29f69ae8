use Rattle.reach_laws.proofs.Keeping.{reached_still}
use Rattle.reach_laws.proofs.Owning.{reached_learnt, reached_noted}
use Rattle.reach_laws.proofs.owned.what_is_reached_stays.Goals as goal

pub returns : goal.returns
returns c = record { room = reached_still; noted = reached_noted; learnt = reached_learnt }
