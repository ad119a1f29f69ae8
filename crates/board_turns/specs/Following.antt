-- How whoever has the board alone goes on.
use Rattle.std.specs.Prelude.{ℕ}
use Rattle.std.proofs.Common.{sym}
use mathlib.Core.List.{IsPrefix}
use Rattle.cache_board.specs.board_core.specs.Core.{Recorded}
use Rattle.cache_board.specs.board_core.proofs.GoingLaws.{grew_more}
use Rattle.app_kernel.specs.owner_ports.specs.Brought.{HasGained, IsCalledOn}
use Rattle.app_kernel.specs.owner_ports.specs.Following.{gains_more}
use Rattle.board_turns.specs.Turning.{HasGrown}

pub begins_with_seen : (old new : Recorded) (before after : ℕ) → HasGrown old before new after → IsPrefix old.journal.entries new.journal.entries
begins_with_seen old new before after grown = (grown.grew.entries, sym grown.grew.grows.entries)

pub grown_as_called : (old new : Recorded) (before after : ℕ) → IsCalledOn old new → HasGained old before new after → HasGrown old before new after
grown_as_called old new before after called gained = record { grew = called.on.grew; sound = called.sound; gained = gained }

pub grown_more : (a b c : Recorded) (i j k : ℕ) → HasGrown a i b j → HasGrown b j c k → HasGrown a i c k
grown_more a b c i j k first second = record {
  grew = grew_more 0 a b c first.grew second.grew;
  sound = λ sound. second.sound (first.sound sound);
  gained = gains_more a b c i j k first.gained second.gained;
}
