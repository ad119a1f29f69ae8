use Rattle.page_views.proofs.Parts.{none_differs}
use Rattle.page_views.proofs.part.Part.is_none.Goals as goal

pub returns : goal.returns
returns c = none_differs c.args.self
