-- Which board may come of a board, by calls of processor 0, and what is left of its run then.
use Rattle.std.specs.Prelude.{ℕ, ◌+◌}
use Rattle.std.proofs.Math.Nat.{le_refl, le_trans}
use Rattle.left_laws.specs.Left.{left}
use Rattle.cache_board.specs.board_core.specs.Core.{Recorded}
use Rattle.cache_board.specs.board_core.proofs.GoingLaws.{goes_further, goes_nowhere}
use Rattle.owner_ports.specs.Brought.{HasGained, IsCalledOn}

pub gains_nothing : (b : Recorded) (n : ℕ) → HasGained b n b n
gains_nothing b n = record { rose = le_refl n; fell = le_refl (left b + n) }

pub gains_more : (a b c : Recorded) (i j k : ℕ) → HasGained a i b j → HasGained b j c k → HasGained a i c k
gains_more a b c i j k first second = record { rose = le_trans first.rose second.rose; fell = le_trans second.fell first.fell }

pub called_nowhere : (b : Recorded) → IsCalledOn b b
called_nowhere b = record { on = goes_nowhere 0 b; sound = λ sound. sound }

pub called_further : (a b c : Recorded) → IsCalledOn a b → IsCalledOn b c → IsCalledOn a c
called_further a b c first second = record { on = goes_further 0 a b c first.on second.on; sound = λ sound. second.sound (first.sound sound) }
