-- Why a processor stopped.
use Rattle.std.proofs.Common.{ℕ, ◌≤◌, List}
use Rattle.std.specs.Prelude.{IfSome}
use Rattle.alone_run.specs.run_journal.specs.declared.entries.Entry.{Entry}
use Rattle.alone_run.specs.run_journal.specs.Entries.{steps_in}
use Rattle.alone_run.specs.board_turns.specs.Looks.{IsIdle}
use Rattle.processors.specs.declared.run.Stop.{Stop}
use Rattle.processors.specs.declared.run.Stop.TheVariants.{Idle, Spent, NoMemory}
use Rattle.processors.specs.Sharing.{IsSoOf}
use Rattle.processors.specs.Stops.{found_at, OnIdle, OnSpent}

-- what is so of what its last look found
pub stopped_idle : (stop : Stop) (cpu limit : ℕ) (j : List Entry) → IfSome (found_at stop) (IsSoOf cpu limit j) → OnIdle stop (IsIdle j)
stopped_idle Idle cpu limit j so = so
stopped_idle Spent cpu limit j so = tt
stopped_idle NoMemory cpu limit j so = tt

pub stopped_spent : (stop : Stop) (cpu limit : ℕ) (j : List Entry) → IfSome (found_at stop) (IsSoOf cpu limit j) → OnSpent stop (limit ≤ steps_in j)
stopped_spent Idle cpu limit j so = tt
stopped_spent Spent cpu limit j so = so
stopped_spent NoMemory cpu limit j so = tt
