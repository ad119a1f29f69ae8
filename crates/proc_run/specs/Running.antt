-- The run of a scenario on a board.
use Rattle.std.specs.Prelude.{◌≡◌, ◌≢◌, ℕ, ◌<◌, List, ◌++◌, length}
use Rattle.flat_state.specs.declared.events.Decl.{Decl}
use Rattle.flat_state.specs.declared.records.Settled.TheVariants.{Running}
use Rattle.flat_state.specs.Events.{after_declarations}
use Rattle.flat_state.specs.State.{nothing_declared}
use Rattle.run_journal.specs.declared.entries.Entry.{Entry}
use Rattle.run_journal.specs.Points.{opening}
use Rattle.board_opening.specs.board_core.specs.Core.{IsSound, Recorded}
use Rattle.processors.specs.board_turns.specs.Looks.{settled_on}

-- they declare a kernel
abbrev pub HasKernel : List Decl → Type 0
HasKernel ds = 0 < length (after_declarations nothing_declared ds).kernels

-- The board of a run of these declarations to its end, at a limit of steps. That the journal is legal, and tells what the machine
-- shows, is part of the board's soundness.
pub record IsRun (ds : List Decl) (limit : ℕ) (b : Recorded) : Type 0 where
  -- it begins with the declarations and the seal
  pub rest : List Entry
  pub begins : b.journal.entries ≡ opening ds ++ rest
  pub sound : IsSound b
  pub its_limit : b.limit ≡ limit
  pub over : settled_on b ≢ Running
