-- Which threads can go on.
use Rattle.std.specs.Prelude.{◌≡◌, ℕ, ◌<◌, Bool, true, false, List, Some, slice_get}
use Rattle.flat_state.specs.declared.records.FlatThread.{FlatThread}
use Rattle.flat_state.specs.State.{FlatState, is_ready}
use Rattle.flat_state.specs.Call.{is_completable}

-- there is such a thread, it is ready, and it wasn't found held
pub record IsCandidate (tables : FlatState) (held : List Bool) (n : ℕ) : Type 0 where
  pub thread : FlatThread
  pub there : slice_get tables.threads n ≡ Some thread
  pub ready : is_ready thread.status ≡ true
  pub free : slice_get held n ≡ Some false

-- there is such a thread, and its call can be completed
pub record HasCall (tables : FlatState) (n : ℕ) : Type 0 where
  pub thread : FlatThread
  pub there : slice_get tables.threads n ≡ Some thread
  pub completable : is_completable thread ≡ true

-- each of the first so many threads that is ready was found held
abbrev pub AllHeld : FlatState → List Bool → ℕ → Type 0
AllHeld tables held count = (n : ℕ) (t : FlatThread) → n < count → slice_get tables.threads n ≡ Some t → is_ready t.status ≡ true → slice_get held n ≡ Some true
