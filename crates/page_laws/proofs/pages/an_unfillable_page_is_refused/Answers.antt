use Rattle.page_laws.proofs.Filled.{nothing_noted}
use Rattle.page_laws.proofs.pages.an_unfillable_page_is_refused.Goals as goal

pub returns : goal.returns
returns c = nothing_noted
