use Rattle.legal_laws.proofs.AtPlaces.{may_come_at}
use Rattle.legal_laws.proofs.events.each_entry_may_come.Goals as goal

pub returns : goal.returns
returns c j at e legal there = may_come_at j legal at e there
