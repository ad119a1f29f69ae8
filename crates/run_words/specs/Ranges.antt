-- Which numbers the options take.
use Rattle.std.specs.Prelude.{ℕ, ◌≤◌, ◌&&◌, Bool, nat_le}
use Rattle.run_words.specs.declared.ranges.NumberRange.{NumberRange}

-- is it one of the numbers from the lowest to the highest?
abbrev pub is_in : NumberRange → ℕ → Bool
is_in numbers n = nat_le numbers.lowest n && nat_le n numbers.highest

-- the same as a fact
abbrev pub IsIn : NumberRange → ℕ → Type 0
IsIn numbers n = (numbers.lowest ≤ n) × (n ≤ numbers.highest)

-- any number that an option can have
abbrev pub any_number : NumberRange
any_number = record { lowest = 0; highest = 4294967295 }

-- how many processors there may be
abbrev pub cpus_range : NumberRange
cpus_range = record { lowest = 1; highest = 8 }

-- how many steps may be asked for
abbrev pub steps_range : NumberRange
steps_range = record { lowest = 1; highest = 1000000 }

-- how many frames a pager may have
abbrev pub frames_range : NumberRange
frames_range = record { lowest = 2; highest = 2048 }
