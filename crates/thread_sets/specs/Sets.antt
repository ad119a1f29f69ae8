-- What a contract sees of the sets of threads.
use Rattle.std.specs.Prelude.{◌≡◌, ℕ, ◌-◌, Bool, List, [], ◌∷◌, ◌++◌, length, slice_set}
use Rattle.shown_state.specs.flat_state.specs.Call.{is_completable}
use Rattle.shown_state.specs.flat_state.specs.State.{is_ready}
use Rattle.thread_cache.specs.declared.ThreadRec.{ThreadRec}
use Rattle.shown_state.specs.Shown.{flat_thread}

-- whether the call that the thread is in can be completed
abbrev pub can_be_completed : ThreadRec → Bool
can_be_completed thread = is_completable (flat_thread thread)

-- of all threads that stand, by number: whose call can be completed, and which are ready; and how many can come without memory
pub record Sets : Type 0 where
  pub completable : List Bool
  pub ready : List Bool
  pub room : ℕ

-- the sets with one thread as its record says
abbrev pub noted : Sets → ThreadRec → Sets
noted sets thread =
    record {
      completable = slice_set sets.completable thread.no.0 (can_be_completed thread);
      ready = slice_set sets.ready thread.no.0 (is_ready thread.status);
      room = sets.room;
    }

-- the sets with one thread more, as its record says
abbrev pub pushed : Sets → ThreadRec → Sets
pushed sets thread =
    record {
      completable = sets.completable ++ can_be_completed thread ∷ [];
      ready = sets.ready ++ is_ready thread.status ∷ [];
      room = sets.room - 1;
    }

-- what holds of all sets of threads: they are as long as each other
abbrev pub AreAlike : Sets → Type 0
AreAlike sets = length sets.ready ≡ length sets.completable

-- the sets stay, whatever room there is
pub record SameButRoom (old new : Sets) : Type 0 where
  pub completable : new.completable ≡ old.completable
  pub ready : new.ready ≡ old.ready
