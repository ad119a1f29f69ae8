use Rattle.flat_laws.proofs.Unfit.{unfit_event, unfit_declaration, unfit_step, unfit_completion}
use Rattle.flat_laws.proofs.events.an_event_that_does_not_fit_changes_nothing.Goals as goal

pub returns : goal.returns
returns c = record { event = unfit_event; declaration = unfit_declaration; step = unfit_step; completion = unfit_completion }
