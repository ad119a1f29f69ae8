-- Sets as those of a list of threads.
use Rattle.std.specs.Prelude.{◌≡◌, ℕ, Bool, List, map, Some, slice_get, IsTrue}
use Rattle.shown_state.specs.flat_state.specs.declared.records.FlatThread.{FlatThread}
use Rattle.shown_state.specs.flat_state.specs.Call.{is_completable}
use Rattle.shown_state.specs.flat_state.specs.State.{is_ready}
use Rattle.thread_sets.specs.Sets.{Sets}

-- whether a thread takes steps
abbrev pub takes_steps : FlatThread → Bool
takes_steps thread = is_ready thread.status

-- the sets are those of the threads
pub record AreSetsOf (threads : List FlatThread) (sets : Sets) : Type 0 where
  pub completable : sets.completable ≡ map is_completable threads
  pub ready : sets.ready ≡ map takes_steps threads

-- the thread of the number stands, and passes the test
pub record IsThread (threads : List FlatThread) (number : ℕ) (test : FlatThread → Bool) : Type 0 where
  pub thread : FlatThread
  pub stands : slice_get threads number ≡ Some thread
  pub passes : IsTrue (test thread)
