use Rattle.owner_laws.proofs.Naming.{names_it}
use Rattle.owner_laws.proofs.noting.what_is_noted_names_what_is_loaded.Goals as goal

pub returns : goal.returns
returns c b o ident name other sound are noted there = names_it b sound o ident name other are noted there
