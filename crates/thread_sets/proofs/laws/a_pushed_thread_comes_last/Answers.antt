use Rattle.thread_sets.proofs.SetsLemmas.{sets_pushed}
use Rattle.thread_sets.proofs.laws.a_pushed_thread_comes_last.Goals as goal

pub returns : goal.returns
returns c = sets_pushed
