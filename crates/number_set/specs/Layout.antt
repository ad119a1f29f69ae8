-- A set of numbers in words.
use Rattle.std.specs.Prelude.{◌≡◌, ℕ, ◌*◌, ◌<◌, ◌≤◌, ◌^◌, Bool, false, List, length, map}
use Rattle.std.specs.List.{range_with_len}
use Rattle.number_set.specs.Bits.{bit_in, IsMarked}

-- whether each number below the length is in
abbrev pub flags_in : ℕ → List ℕ → List Bool
flags_in len words = map (bit_in words) (range_with_len 0 len)

-- the words reach the length and have no one behind it, and each that isn't zero is marked above
pub record IsSound (len : ℕ) (words marks : List ℕ) : Type 0 where
  pub within : len ≤ 64 * length words
  pub small : 64 * length words < 2 ^ 32
  pub behind : (number : ℕ) → len ≤ number → bit_in words number ≡ false
  pub marked : IsMarked words marks
  pub marks_reach : length words ≤ 64 * length marks
  pub marks_small : length marks < 2 ^ 32
