-- The status of a run.
use Rattle.flat_state.specs.declared.records.Settled.{Settled}
use Rattle.flat_state.specs.declared.records.Settled.TheVariants as settled
use Rattle.proc_run.specs.declared.outcome.RunStatus.{RunStatus}
use Rattle.proc_run.specs.declared.outcome.RunStatus.TheVariants.{Done, Stalled, Spent, NoMemory}

-- the status of a run that is settled so
abbrev pub status_of : Settled → RunStatus
status_of settled.Done = Done
status_of settled.Stalled = Stalled
status_of settled.Spent = Spent
status_of settled.Running = NoMemory
