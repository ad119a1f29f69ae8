use Rattle.flat_laws.proofs.RightsLaws.{depends_on_what_it_may_read}
use Rattle.flat_laws.proofs.rights.a_step_depends_on_what_it_may_read.Goals as goal

pub returns : goal.returns
returns c = depends_on_what_it_may_read
