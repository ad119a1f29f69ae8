use Rattle.answer_laws.proofs.KeptParents.{all_kept, all_loaded}
use Rattle.answer_laws.proofs.keeping.a_load_keeps_all_that_it_depends_on.Goals as goal

pub returns : goal.returns
returns c = record { loaded = all_loaded; kept = all_kept }
