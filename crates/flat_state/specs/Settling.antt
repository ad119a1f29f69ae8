-- Whether a run is over.
use Rattle.std.specs.Prelude.{ℕ, Bool, ◌&&◌, ◌||◌, not, ◌==◌, if◌then◌else◌}
use Rattle.std.specs.List.{list_all, list_any}
use Rattle.flat_state.specs.declared.records.FlatThread.{FlatThread}
use Rattle.flat_state.specs.declared.records.Settled.{Settled}
use Rattle.flat_state.specs.declared.records.Settled.TheVariants.{Done, Stalled, Spent, Running}
use Rattle.flat_state.specs.State.{FlatState, is_ended}
use Rattle.flat_state.specs.Signals.{is_held}
use Rattle.flat_state.specs.Call.{waits, is_completable}

-- the thread has ended, or it is held, or it waits for a signal
abbrev pub is_stuck : FlatState → FlatThread → Bool
is_stuck s t = is_ended t.status || (is_held s t || waits t)

-- Done: each thread has ended. Stalled: not so, and each that hasn't is held or waits for a signal. Spent: neither,
-- no thread's call can be completed, and the steps taken are the limit.
unfoldable pub settled_of : FlatState → ℕ → ℕ → Settled
settled_of s steps limit =
    if list_all (λ t. is_ended t.status) s.threads then Done
    else (if list_all (is_stuck s) s.threads then Stalled
    else (if not (list_any is_completable s.threads) && (steps == limit) then Spent else Running))
