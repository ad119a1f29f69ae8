use Rattle.shown_state.proofs.OwnerLemmas.{stays_owned}
use Rattle.shown_state.proofs.owners.what_is_owned_stays_owned.Goals as goal

pub returns : goal.returns
returns c = λ c before after alike owned. stays_owned c before after alike owned
