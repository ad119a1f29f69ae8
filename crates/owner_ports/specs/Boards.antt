-- What the calls of a port make of the board behind it.
use Rattle.std.specs.Prelude.{◌≡◌, ◌≢◌, Option, Some, None, Result, IfErr, IfOk, OnOk, slice_get}
use Rattle.std.specs.Option.{option_map}
use Rattle.cache_ident.specs.declared.names.ThreadNo.{ThreadNo}
use Rattle.rv32_exec.specs.declared.statuses.Status.{Status}
use Rattle.left_laws.specs.flat_state.specs.declared.records.FlatThread.{FlatThread}
use Rattle.cache_board.specs.board_core.specs.Answers.{HasCallRoom, IsRefused}
use Rattle.cache_board.specs.board_core.specs.Core.{Recorded}
use Rattle.cache_board.specs.board_core.specs.Going.{GoesOn, IsOneEvent}
use Rattle.cache_board.specs.cached_machine.specs.Cached.{state_of}
use Rattle.cache_board.specs.board_ops.specs.declared.refusals.Refused.{Refused}
use Rattle.cache_board.specs.board_ops.specs.declared.refusals.Refused.TheVariants.{NoMemory}

-- where the board was told it is told still, and so it changed; where it wasn't it isn't
abbrev pub OnTold : Option Recorded → Option Recorded → (Recorded → Recorded → Type 0) → Type 0
OnTold None new change = new ≡ None
OnTold (Some old) None change = ⊥
OnTold (Some old) (Some new) change = change old new

-- A call of processor 0 was refused for this reason, if there is one, and else done; and the board goes on by it.
pub record IsCall {T : Type 0} (refusal : Option Refused) (does : T → Type 0) (old new : Recorded) (answer : Result T Refused) : Type 0 where
  pub refused : IfErr answer (IsRefused refusal old new)
  pub done : OnOk answer (refusal ≡ None)
  pub made : IfOk answer does
  pub on : GoesOn 0 old new
  pub event : IsOneEvent 0 old new

-- the same, of a call that with this much room takes no memory
pub record IsRoomyCall {T : Type 0} (refusal : Option Refused) (does : T → Type 0) (old new : Recorded) (answer : Result T Refused) : Type 0 where
  pub call : IsCall refusal does old new answer
  pub enough : HasCallRoom old → IfErr answer (λ why. why ≢ NoMemory)

-- the status of a thread, if there is one
abbrev pub status_in : Recorded → ThreadNo → Option Status
status_in b thread = option_map (λ (t : FlatThread). t.status) (slice_get (state_of b.machine).threads thread.0)
