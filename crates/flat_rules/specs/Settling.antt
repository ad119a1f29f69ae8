-- How a run stands as far as one thread goes.
use Rattle.std.specs.Prelude.{Bool, ◌&&◌, not, if◌then◌else◌}
use Rattle.flat_state.specs.declared.records.FlatThread.{FlatThread}
use Rattle.flat_state.specs.declared.records.Settled.{Settled}
use Rattle.flat_state.specs.declared.records.Settled.TheVariants.{Done, Stalled, Spent, Running}
use Rattle.flat_state.specs.State.{FlatState, is_ended}
use Rattle.flat_state.specs.Call.{is_completable}
use Rattle.flat_state.specs.Settling.{is_stuck}

-- Done: the thread has ended. Stalled: not so, and it is held or waits for a signal. Spent: neither, its call can't be
-- completed, and all steps are taken.
abbrev pub settled_by : FlatState → FlatThread → Bool → Settled
settled_by s t spent =
    if is_ended t.status then Done
    else (if is_stuck s t then Stalled
    else (if not (is_completable t) && spent then Spent else Running))
