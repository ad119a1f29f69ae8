-- Who is known to be held, and by which pages.
use Rattle.std.specs.Prelude.{◌≡◌, ◌≢◌, ℕ, ◌⊎◌, Bool, true, false, List, map, Contains, is_some, Some, slice_get}
use Rattle.rv32_exec.specs.declared.statuses.Status.TheVariants.{Ready}
use Rattle.flat_state.specs.declared.records.FlatThread.{FlatThread}
use Rattle.flat_state.specs.declared.records.Signal.{Signal}
use Rattle.flat_state.specs.State.{is_ended, FlatState}
use Rattle.flat_state.specs.Signals.{full_among, receivers_of}
use Rattle.quantum.specs.page_views.specs.Views.{View, AreCopies}
use Rattle.quantum.specs.declared.paused.SignalStore.{SignalStore}
use Rattle.quantum.specs.Ahead.{signal_store, Ahead}
use Rattle.quantum.specs.LocalRun.{status_by}
use Rattle.paged_steps.specs.Aheads.{IsAheadOf, IsSentBy}
use Rattle.paged_steps.specs.declared.order.Order.{Order}

-- A thread's next step, as copies of its pages tell, is a store that signals, and a receiver has no room.
pub record IsHeldAhead (tables : FlatState) (t : FlatThread) (a : Ahead) : Type 0 where
  pub ready : t.status ≡ Ready
  pub ahead : IsAheadOf tables t a
  pub first : a.steps ≡ 0
  pub store : SignalStore
  pub told : signal_store a ≡ Some store
  pub signal : Signal
  pub sent : IsSentBy tables t store signal
  pub full : is_some (full_among tables.threads (map (λ r. r.0) (receivers_of tables signal.frame))) ≡ true

-- the frames that were copied are watched
abbrev pub AreWatched : List Bool → List View → Type 0
AreWatched watched vs = (v : View) → Contains vs v → slice_get watched v.frame.0 ≡ Some true

-- the thread is held, and the bytes of watched frames tell it
pub record IsKnownHeld (s : FlatState) (t : FlatThread) (notes : List Bool) : Type 0 where
  pub by : Ahead
  pub held : IsHeldAhead s t by
  pub copies : AreCopies s.memory by.views
  pub watched : AreWatched notes by.views

-- who is noted as held is
abbrev pub Knows : FlatState → Order → Type 0
Knows s order = (n : ℕ) (t : FlatThread) → slice_get order.held.items n ≡ Some true → slice_get s.threads n ≡ Some t → IsKnownHeld s t order.watched.items

-- none is noted
abbrev pub KnowsNobody : List Bool → Type 0
KnowsNobody notes = (n : ℕ) → slice_get notes n ≢ Some true

-- what is noted stays
abbrev pub AreKept : Order → Order → Type 0
AreKept before after = (after.held.items ≡ before.held.items) × (after.watched.items ≡ before.watched.items)

-- nothing more is noted than before
abbrev pub KnowsNoMore : Order → Order → Type 0
KnowsNoMore before after = AreKept before after ⊎ KnowsNobody after.held.items

-- steps left the watched frames, and their thread goes on
pub record AreSpared (watched : List Bool) (a : Ahead) : Type 0 where
  pub goes_on : is_ended (status_by a.paused) ≡ false
  pub views : (v : View) → Contains a.views v → slice_get watched v.frame.0 ≡ Some true → v.present ≡ v.first
