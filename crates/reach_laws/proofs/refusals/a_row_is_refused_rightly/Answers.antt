use Rattle.reach_laws.proofs.Telling.{loaded_fit, space_noted, told_absent, told_loaded, told_unfit}
use Rattle.reach_laws.proofs.refusals.a_row_is_refused_rightly.Goals as goal

pub returns : goal.returns
returns c = record { space = space_noted; loaded = told_loaded; absent = told_absent; unfit = told_unfit; fit = loaded_fit }
