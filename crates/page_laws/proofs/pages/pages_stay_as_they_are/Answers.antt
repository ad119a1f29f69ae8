use Rattle.page_laws.proofs.Filled.{fillable_kept, unfillable_kept}
use Rattle.page_laws.proofs.pages.pages_stay_as_they_are.Goals as goal

pub returns : goal.returns
returns c = record { fillable = fillable_kept; unfillable = unfillable_kept }
