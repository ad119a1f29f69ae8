use Rattle.shown_state.proofs.OwnerLemmas.{owner_found}
use Rattle.shown_state.proofs.owners.an_owner_is_found_by_name.Goals as goal

pub returns : goal.returns
returns c = λ machine memory c one name. owner_found machine memory c one name
