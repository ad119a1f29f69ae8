-- The promise of the healing step: when it holds, and what it is.
use Rattle.std.specs.Prelude.{◌≡◌, ◌+◌, ◌<◌, true, false, [], ◌∷◌, ◌++◌, Contains, Some, None, slice_get}
use Rattle.cache_ident.specs.declared.names.Name.{Name}
use Rattle.cache_ident.specs.declared.names.ThreadNo.{ThreadNo}
use Rattle.cache_ident.specs.Residents.{Resident, IsNameResident}
use Rattle.thread_cache.specs.rv32_exec.specs.declared.statuses.Status.TheVariants.{Ready}
use Rattle.flat_state.specs.declared.events.Event.TheVariants.{Step}
use Rattle.flat_state.specs.declared.records.FlatThread.{FlatThread}
use Rattle.flat_state.specs.Events.{after_event}
use Rattle.flat_state.specs.Signals.{is_held}
use Rattle.board_core.specs.run_journal.specs.Entries.{erase}
use Rattle.board_core.specs.desc_stores.specs.Contents.{residents_of}
use Rattle.board_core.specs.cached_machine.specs.Cached.{state_of}
use Rattle.board_core.specs.cached_machine.specs.Posts.{mark_of}
use Rattle.board_chains.specs.Chains.{chain_at}
use Rattle.board_core.specs.Core.{contents_of, Recorded}

-- The board is sealed and a step is left; and the thread stands, declared or made since, is ready, on no processor and not held.
-- Nothing is asked of what is loaded.
pub record IsHealable (b : Recorded) (whom : ThreadNo) : Type 0 where
  pub sealed : b.sealed ≡ true
  pub left : b.steps < b.limit
  pub thread : FlatThread
  pub there : slice_get (state_of b.machine).threads whom.0 ≡ Some thread
  pub ready : thread.status ≡ Ready
  pub away : mark_of (contents_of b) whom ≡ None
  pub not_held : is_held (state_of b.machine) thread ≡ false

-- Exactly one step was taken, of that thread: it fits, the machine is as it leaves it, and the journal has that event more and no
-- other. Of what its chain names nothing left, and all is loaded.
pub record HasStepped (whom : ThreadNo) (old new : Recorded) : Type 0 where
  pub fits : after_event (state_of old.machine) (Step whom) ≡ Some (state_of new.machine)
  pub only : erase new.journal.entries ≡ erase old.journal.entries ++ Step whom ∷ []
  pub steps : new.steps ≡ old.steps + 1
  pub stay : (r : Resident) → Contains (residents_of (contents_of old)) r → Contains (chain_at (state_of old.machine) whom.0) r.name → Contains (residents_of (contents_of new)) r
  pub there : (name : Name) → Contains (chain_at (state_of old.machine) whom.0) name → IsNameResident (residents_of (contents_of new)) name
