use Rattle.legal_laws.proofs.LockedLaws.{locks}
use Rattle.legal_laws.proofs.Residence.{residence}
use Rattle.legal_laws.proofs.places.what_is_resident_was_loaded_and_has_not_left.Goals as goal

pub returns : goal.returns
returns c = record { resident = residence; locked = locks }
