use Rattle.shown_state.specs.flat_state.specs.Call.{is_completable}
use Rattle.thread_sets.specs.SetsOf.{takes_steps}
use Rattle.thread_sets.proofs.SetsLemmas.{passing_in}
use Rattle.thread_sets.proofs.laws.who_is_in_a_set_stands.Goals as goal

pub returns-clause-completable : goal.returns-clause-completable
returns-clause-completable c threads sets number of on = passing_in is_completable threads sets.completable number of.completable on

pub returns-clause-ready : goal.returns-clause-ready
returns-clause-ready c threads sets number of on = passing_in takes_steps threads sets.ready number of.ready on
