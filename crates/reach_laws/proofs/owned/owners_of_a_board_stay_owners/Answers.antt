use Rattle.reach_laws.proofs.Owning.{owned_learnt, owned_noted, owned_receiver, still_owned}
use Rattle.reach_laws.proofs.owned.owners_of_a_board_stay_owners.Goals as goal

pub returns : goal.returns
returns c = record { grown = still_owned; noted = owned_noted; space = owned_learnt; receiver = owned_receiver }
