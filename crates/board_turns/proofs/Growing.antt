-- What an event leaves of what is left.
use Rattle.std.proofs.Common.{ℕ, ◌+◌, ◌≤◌}
use Rattle.cache_board.specs.board_core.specs.Core.{Recorded}
use Rattle.cache_board.specs.board_core.specs.Going.{IsOneEvent}
use Rattle.app_kernel.specs.owner_ports.proofs.Gaining.{call_gains, event_gains}
use Rattle.board_turns.specs.Turning.{HasGrown}

module _ (old new : Recorded) (event : IsOneEvent 0 old new) where
  -- nothing that it brought is counted
  pub grown_event : (n : ℕ) → HasGrown old n new n
  grown_event n = record { grew = event.grew; sound = λ sound. event.sound; gained = call_gains old new event n }

  -- no more is counted than steps were taken
  pub grown_by : (before after : ℕ) → before ≤ after → after + old.steps ≤ before + new.steps → HasGrown old before new after
  grown_by before after rose more = record { grew = event.grew; sound = λ sound. event.sound; gained = event_gains 0 old new before after event rose more }
