-- Why a processor stopped.
use Rattle.std.specs.Prelude.{Option, Some, None}
use Rattle.alone_run.specs.board_turns.specs.declared.found.Found.{Found}
use Rattle.alone_run.specs.board_turns.specs.declared.found.Found.TheVariants.{Nothing, Over}
use Rattle.processors.specs.declared.run.Stop.{Stop}
use Rattle.processors.specs.declared.run.Stop.TheVariants.{Idle, Spent, NoMemory}

-- what its last look found, where it stopped by that
abbrev pub found_at : Stop → Option Found
found_at Idle = Some Nothing
found_at Spent = Some Over
found_at NoMemory = None

abbrev pub OnIdle : Stop → Type 0 → Type 0
OnIdle Idle P = P
OnIdle Spent P = Unit {0}
OnIdle NoMemory P = Unit {0}

abbrev pub OnSpent : Stop → Type 0 → Type 0
OnSpent Idle P = Unit {0}
OnSpent Spent P = P
OnSpent NoMemory P = Unit {0}
