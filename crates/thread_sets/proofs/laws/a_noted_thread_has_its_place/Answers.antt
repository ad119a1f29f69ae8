use Rattle.thread_sets.proofs.SetsLemmas.{sets_noted}
use Rattle.thread_sets.proofs.laws.a_noted_thread_has_its_place.Goals as goal

pub returns : goal.returns
returns c = sets_noted
