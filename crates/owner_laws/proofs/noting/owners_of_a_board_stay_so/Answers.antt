use Rattle.owner_laws.proofs.Naming.{owners_stay}
use Rattle.owner_laws.proofs.noting.owners_of_a_board_stay_so.Goals as goal

pub returns : goal.returns
returns c = owners_stay
