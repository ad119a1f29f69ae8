-- When a line remembers a word.
use Rattle.std.proofs.Common.{◌≡◌, ℕ, zero, suc, ◌<◌, List, [], ◌∷◌, length, set, Some, refl, arith}
use Rattle.std.specs.Prelude.{slice_get}
use Rattle.rv32_exec.specs.declared.lines.Line.{Line}
use Rattle.rv32_exec.specs.Decoded.{HasWord}

set_there : (ls : List Line) (i : ℕ) (l : Line) → i < length ls → slice_get (set ls i l) i ≡ Some l
set_there [] i l below = absurd (omega (arith, below))
set_there (x ∷ ls) zero l below = refl
set_there (x ∷ ls) (suc i) l below = set_there ls i l (omega (arith, below))

-- one that was written
pub written_has_word : (ls : List Line) (i word : ℕ) (l : Line) → i < length ls → l.word ≡ word → HasWord (set ls i l) i word
written_has_word ls i word l below same = record { line = l; there = set_there ls i l below; same = same }
