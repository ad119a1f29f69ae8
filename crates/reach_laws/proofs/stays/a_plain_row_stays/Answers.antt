use Rattle.reach_laws.proofs.Plain.{plain_stays}
use Rattle.reach_laws.proofs.stays.a_plain_row_stays.Goals as goal

pub returns : goal.returns
returns c = plain_stays
