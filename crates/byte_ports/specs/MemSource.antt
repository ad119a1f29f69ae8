-- What a source over memory is.
use Rattle.std.specs.Prelude.{ℕ, List, length, min}

-- what such a source has left, and how it gives it
pub record Supply : Type 0 where
  -- the bytes left
  pub left : List ℕ
  -- how many bytes a read gives at most
  pub step : ℕ
  -- the numbers of the reads that fail
  pub failing : List ℕ
  -- the number of the next read
  pub reads : ℕ
  -- how many reads have failed
  pub faults : ℕ

-- one from which nothing was read
abbrev pub new_supply : List ℕ → ℕ → List ℕ → Supply
new_supply bytes step failing = record { left = bytes; step = step; failing = failing; reads = 0; faults = 0 }

-- how many bytes a read into a piece of `room` bytes gives
abbrev pub given_count : Supply → ℕ → ℕ
given_count supply room = min room (min supply.step (length supply.left))
