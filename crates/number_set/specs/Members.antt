-- What a contract sees of a set of numbers.
use Rattle.std.specs.Prelude.{ℕ, Bool, false, List, slice_index_or}

-- for each number below the length whether it is in, and how many more can be pushed without memory
pub record Members : Type 0 where
  pub flags : List Bool
  pub room : ℕ

-- whether the number is in; none is from the length on
abbrev pub is_in : List Bool → ℕ → Bool
is_in flags number = slice_index_or flags number false
