use Rattle.page_views.proofs.Parts.{alike_in_all}
use Rattle.page_views.proofs.part.Part.all.Goals as goal

pub returns-clause-alike : goal.returns-clause-alike
returns-clause-alike c = alike_in_all
