use Rattle.legal_laws.proofs.Fits.{each_fits}
use Rattle.legal_laws.proofs.events.each_event_fits.Goals as goal

pub returns : goal.returns
returns c j legal = each_fits j legal
