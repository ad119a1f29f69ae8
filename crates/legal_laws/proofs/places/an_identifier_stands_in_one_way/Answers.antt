use Rattle.legal_laws.proofs.Once.{one_standing}
use Rattle.legal_laws.proofs.places.an_identifier_stands_in_one_way.Goals as goal

pub returns : goal.returns
returns c j ident a b legal first second = one_standing j legal ident a b first second
