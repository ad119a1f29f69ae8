-- What is tested of a thread by its number, and who wants to be served.
use Rattle.std.specs.Prelude.{◌≡◌, ℕ, Bool, false, not, ◌&&◌, Option, Some, None, slice_get, ◌⊎◌}
use Rattle.cache_ident.specs.declared.names.Name.TheVariants as name
use Rattle.cache_ident.specs.declared.names.ThreadNo.{ThreadNo}
use Rattle.flat_state.specs.declared.records.FlatThread.{FlatThread}
use Rattle.flat_state.specs.Call.{is_completable}
use Rattle.flat_state.specs.Signals.{is_runnable}
use Rattle.board_core.specs.thread_sets.specs.SetsOf.{takes_steps}
use Rattle.number_set.specs.First.{IsFirst}
use Rattle.board_core.specs.cached_machine.specs.Cached.{is_loaded, state_of}
use Rattle.board_core.specs.Core.{contents_of, Recorded}

-- there is a thread, and it passes
abbrev pub passes : (FlatThread → Bool) → Option FlatThread → Bool
passes test None = false
passes test (Some t) = test t

-- the call of the thread of that number can be completed
abbrev pub completes : Recorded → ℕ → Bool
completes b n = passes is_completable (slice_get (state_of b.machine).threads n)

-- it is ready
abbrev pub is_ready_at : Recorded → ℕ → Bool
is_ready_at b n = passes takes_steps (slice_get (state_of b.machine).threads n)

-- its next step can be taken
abbrev pub goes_on : Recorded → ℕ → Bool
goes_on b n = passes (is_runnable (state_of b.machine)) (slice_get (state_of b.machine).threads n)

-- and it isn't loaded
abbrev pub wants_load : Recorded → ℕ → Bool
wants_load b n = not (is_loaded (contents_of b) (name.Thread (record { 0 = n }))) && goes_on b n

-- The lowest-numbered thread whose call can be completed; where there is none, the lowest-numbered runnable one that isn't
-- loaded; none where there is neither.
abbrev pub IsWanted : Recorded → Option ThreadNo → Type 0
IsWanted b None = ((n : ℕ) → completes b n ≡ false) × ((n : ℕ) → wants_load b n ≡ false)
IsWanted b (Some whom) = IsFirst (completes b) 0 whom.0 ⊎ (((n : ℕ) → completes b n ≡ false) × IsFirst (wants_load b) 0 whom.0)
