use Rattle.flat_laws.proofs.RightsLaws.{keeps_size, writes_where_it_may}
use Rattle.flat_laws.proofs.rights.a_step_writes_where_it_may.Goals as goal

pub returns : goal.returns
returns c = record { bytes = writes_where_it_may; size = keeps_size }
