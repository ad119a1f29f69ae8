-- Counts of faults.
use Rattle.std.specs.Prelude.{◌<◌, ◌≤◌, ◌+◌, ◌-◌, ◌^◌, ℕ, min}

-- where a count of faults stays once it has come there
abbrev pub last_count : ℕ
last_count = 2 ^ 64 - 1

-- a count of faults rose, where one that stands at its last value counts as risen
pub record HasRisen (before after : ℕ) : Type 0 where
  pub never_fell : before ≤ after
  pub rose : before < last_count → before < after

-- one more, up to the last value
abbrev pub next_count : ℕ → ℕ
next_count count = min (count + 1) last_count
