use Rattle.shown_state.specs.flat_state.specs.Call.{is_completable}
use Rattle.thread_sets.specs.SetsOf.{takes_steps}
use Rattle.thread_sets.proofs.SetsLemmas.{none_passes}
use Rattle.thread_sets.proofs.laws.no_number_is_no_thread.Goals as goal

pub returns-clause-completable : goal.returns-clause-completable
returns-clause-completable c threads sets of none = none_passes is_completable threads sets.completable of.completable none

pub returns-clause-ready : goal.returns-clause-ready
returns-clause-ready c threads sets of none = none_passes takes_steps threads sets.ready of.ready none
