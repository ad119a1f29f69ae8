-- The first number that is in.
use Rattle.std.specs.Prelude.{◌≡◌, ℕ, ◌<◌, ◌≤◌, Bool, false, Option, Some, None, IsTrue}

-- the number is in, and none is that is below it, from another on
pub record IsFirst (is_in : ℕ → Bool) (from first : ℕ) : Type 0 where
  pub from_there : from ≤ first
  pub in_it : IsTrue (is_in first)
  pub none_before : (number : ℕ) → from ≤ number → number < first → is_in number ≡ false

-- the first number from one on that is in, or none where none is
abbrev pub IsFirstFrom : (ℕ → Bool) → ℕ → Option ℕ → Type 0
IsFirstFrom is_in from None = (number : ℕ) → from ≤ number → is_in number ≡ false
IsFirstFrom is_in from (Some first) = IsFirst is_in from first
