-- What calls leave of the board behind a port, of which so many brought a step or a completion.
use Rattle.std.specs.Prelude.{ℕ, ◌+◌, ◌≤◌, Result, Ok, Err}
use Rattle.left_laws.specs.Left.{left}
use Rattle.cache_board.specs.board_core.specs.Core.{IsSound, Recorded}
use Rattle.cache_board.specs.board_core.specs.Going.{GoesOn}
use Rattle.cache_board.specs.board_core.specs.Growth.{one_more}
use Rattle.cache_board.specs.board_ops.specs.declared.refusals.Refused.{Refused}

-- how many brought one, once one more was answered: a refused call brings none
abbrev pub brought_by : {T : Type 0} → Result T Refused → ℕ → ℕ
brought_by (Ok value) n = one_more n
brought_by (Err why) n = n

-- more calls brought one, and what is left of the run on the board fell by at least as many
pub record HasGained (old : Recorded) (before : ℕ) (new : Recorded) (after : ℕ) : Type 0 where
  pub rose : before ≤ after
  pub fell : left new + after ≤ left old + before

-- processor 0 called the board: it goes on, and is sound if it was
pub record IsCalledOn (old new : Recorded) : Type 0 where
  pub on : GoesOn 0 old new
  pub sound : IsSound old → IsSound new
