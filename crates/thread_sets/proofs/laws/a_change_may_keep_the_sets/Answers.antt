use Rattle.thread_sets.proofs.SetsLemmas.{sets_stay}
use Rattle.thread_sets.proofs.laws.a_change_may_keep_the_sets.Goals as goal

pub returns : goal.returns
returns c = sets_stay
