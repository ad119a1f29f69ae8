-- Which values an option takes, where it stands alone, in one word with its value.
use Rattle.std.specs.Prelude.{◌≡◌, ℕ, [], ◌∷◌, ◌++◌, Some, None, codes, if◌then◌else◌, option_map}
use Rattle.std.specs.Str.Parse.{digits_value, without_leading_plus}
use Rattle.clap.specs.Words.{Text}
use Rattle.clap.specs.ValueTests.{is_unsigned_in}
use Rattle.run_words.specs.declared.options.Options.{Options}
use Rattle.run_words.specs.declared.ranges.NumberRange.{NumberRange}
use Rattle.run_words.specs.Options.{options, by_default, mode_named}
use Rattle.run_words.specs.Ranges.{any_number, cpus_range, frames_range, steps_range}

-- what the one word `--mode=name` asks for
abbrev pub ModesAreNamed : Type 0
ModesAreNamed = (name : Text) → options ((codes "--mode=" ++ name) ∷ []) ≡ option_map (λ mode. record by_default { mode = mode }) (mode_named name)

-- behind the front of the word stands a number in decimal digits, perhaps behind a plus, in this range; any other word with
-- that front isn't taken
abbrev pub TakesNumbers : Text → NumberRange → (ℕ → Options) → Type 0
TakesNumbers front numbers set =
    (value : Text) → options ((front ++ value) ∷ []) ≡ (if is_unsigned_in numbers.lowest numbers.highest value then Some (set (digits_value 10 (without_leading_plus value))) else None)

abbrev pub NumbersHaveRanges : Type 0
NumbersHaveRanges =
    TakesNumbers (codes "--cpus=") cpus_range (λ n. record by_default { cpus = n })
    × TakesNumbers (codes "--steps=") steps_range (λ n. record by_default { steps = n })
    × TakesNumbers (codes "--seed=") any_number (λ n. record by_default { seed = n })
    × TakesNumbers (codes "--frames=") frames_range (λ n. record by_default { frames = n })
