use Rattle.reach_laws.proofs.Filling.{nothing_told}
use Rattle.reach_laws.proofs.rows.an_unfillable_page_is_told.Goals as goal

pub returns : goal.returns
returns c = nothing_told
