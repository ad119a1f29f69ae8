-- What a sink over memory is.
use Rattle.std.specs.Prelude.{ℕ, List, length, min, ◌-◌, ◌<◌, ◌≤◌, ◌⊎◌, Contains, []}

-- what such a sink holds, and how it takes more
pub record Hold : Type 0 where
  -- the bytes held
  pub held : List ℕ
  -- how many bytes it holds at most
  pub room : ℕ
  -- how many bytes a write takes at most
  pub step : ℕ
  -- the numbers of the writes that fail
  pub failing : List ℕ
  -- the number of the next write
  pub writes : ℕ
  -- how many writes have failed
  pub faults : ℕ

-- one to which nothing was written
abbrev pub new_hold : ℕ → ℕ → List ℕ → Hold
new_hold room step failing = record { held = []; room = room; step = step; failing = failing; writes = 0; faults = 0 }

-- a write fails: it is one of those that fail, or there is no room for a byte of the piece
abbrev pub Refuses : Hold → List ℕ → Type 0
Refuses hold piece = Contains hold.failing hold.writes ⊎ ((0 < length piece) × (hold.room ≤ length hold.held))

-- how many bytes of a piece of `size` bytes a write takes
abbrev pub taken_count : Hold → ℕ → ℕ
taken_count hold size = min size (min hold.step (hold.room - length hold.held))
