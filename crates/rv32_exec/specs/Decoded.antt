-- Lines of decoded words.
use Rattle.std.specs.Prelude.{◌≡◌, ℕ, List, Some, slice_get}
use Rattle.rv32_exec.specs.declared.lines.Line.{Line}

-- the line at a place remembers the word
pub record HasWord (lines : List Line) (place word : ℕ) : Type 0 where
  pub line : Line
  pub there : slice_get lines place ≡ Some line
  pub same : line.word ≡ word
