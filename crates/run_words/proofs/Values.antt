-- An option alone, with its value in the same word.
use Rattle.std.proofs.Common.{◌≡◌, ℕ, ◌≤◌, Bool, true, false, List, [], ◌∷◌, ◌++◌, Some, None, refl, sym, ap, ◌∙◌, subst, inl, arith}
use Rattle.std.specs.Prelude.{codes, if◌then◌else◌, nat_le, option_and_then, option_map}
use Rattle.std.specs.Bool.{then_some}
use Rattle.std.proofs.lemmas.Bool.{le-leb}
use Rattle.std.specs.Str.Parse.{digits_value, without_leading_plus}
use Rattle.clap.specs.Words.{IsAmong, Kinds, Text, fault_of, matches_of}
use Rattle.clap.specs.Kinds.{or_else}
use Rattle.clap.specs.ValueTests.{is_unsigned_in}
use Rattle.clap.specs.declared.error.kind.ErrorKind.TheVariants.{ValueValidation}
use Rattle.clap.specs.declared.builder.value_parser.ValueParser.TheVariants.{Unsigned}
use Rattle.clap.proofs.OnLiterals.{clap_on_literals}
use Rattle.clap.proofs.ValueTestLemmas.{accepts-Accepts, Accepts-accepts}
use Rattle.run_words.specs.declared.options.Options.{Options}
use Rattle.run_words.specs.declared.ranges.NumberRange.{NumberRange}
use Rattle.run_words.specs.Command.{command}
use Rattle.run_words.specs.Options.{options, options_in, by_default, number}
use Rattle.run_words.specs.Values.{ModesAreNamed, NumbersHaveRanges}
use Rattle.run_words.specs.Ranges.{any_number, cpus_range, frames_range, is_in, steps_range}
use Rattle.run_words.proofs.Taken.{asked_so, is_fault, no_fault, not_asked}

-- the fault in a word, by whether its value passes
abbrev by_value : Bool → Kinds
by_value passes = or_else (or_else (or_else (or_else (if passes then [] else ValueValidation ∷ []) []) []) []) []

-- a value in a range that numbers have is that number
ranged_number : (numbers : NumberRange) (text : Text) → numbers.highest ≤ 4294967295 → is_unsigned_in numbers.lowest numbers.highest text ≡ true
    → option_and_then (λ n. then_some (is_in numbers n) n) (number text) ≡ Some (digits_value 10 (without_leading_plus text))
ranged_number numbers text small passes =
    let is = accepts-Accepts false (Unsigned numbers.lowest numbers.highest) text passes in
    let n = digits_value 10 (without_leading_plus text) in
    let wider : is_unsigned_in 0 4294967295 text ≡ true = Accepts-accepts false (Unsigned 0 4294967295) text (is.0, is.1, omega arith, omega (arith, is.3, small)) in
    let low : nat_le numbers.lowest n ≡ true = le-leb numbers.lowest n is.2 in
    let high : nat_le n numbers.highest ≡ true = le-leb n numbers.highest is.3 in
    rw wider (rw (low, high) refl)

-- what one word asks for, by whether its value is in the range
by_range : (words : List Text) (numbers : NumberRange) (text : Text) (set : ℕ → Options) → numbers.highest ≤ 4294967295
    → fault_of command words ≡ by_value (is_unsigned_in numbers.lowest numbers.highest text)
    → options_in (matches_of command words) ≡ option_map set (option_and_then (λ n. then_some (is_in numbers n) n) (number text))
    → options words ≡ (if is_unsigned_in numbers.lowest numbers.highest text then Some (set (digits_value 10 (without_leading_plus text))) else None)
unfolding options
by_range words numbers text set small fault found = go (is_unsigned_in numbers.lowest numbers.highest text) refl
  where
    go : (b : Bool) → is_unsigned_in numbers.lowest numbers.highest text ≡ b → options words ≡ (if is_unsigned_in numbers.lowest numbers.highest text then Some (set (digits_value 10 (without_leading_plus text))) else None)
    go true e = rw e (asked_so command options_in words (no_fault command words (fault ∙ ap by_value e)) ∙ (found ∙ ap (option_map set) (ranged_number numbers text small e)))
    go false e =
        let among : IsAmong ValueValidation (fault_of command words) = subst (λ (kinds : Kinds). IsAmong ValueValidation kinds) (sym (fault ∙ ap by_value e)) (inl refl) in
        rw e (not_asked command options_in words (is_fault command words ValueValidation among))

cpus_fault : (text : Text) → fault_of command ((codes "--cpus=" ++ text) ∷ []) ≡ by_value (is_unsigned_in cpus_range.lowest cpus_range.highest text)
unfolding clap_on_literals
cpus_fault text = refl

cpus_found : (text : Text) → options_in (matches_of command ((codes "--cpus=" ++ text) ∷ [])) ≡ option_map (λ n. record by_default { cpus = n }) (option_and_then (λ n. then_some (is_in cpus_range n) n) (number text))
unfolding options_in clap_on_literals
cpus_found text = refl

steps_fault : (text : Text) → fault_of command ((codes "--steps=" ++ text) ∷ []) ≡ by_value (is_unsigned_in steps_range.lowest steps_range.highest text)
unfolding clap_on_literals
steps_fault text = refl

steps_found : (text : Text) → options_in (matches_of command ((codes "--steps=" ++ text) ∷ [])) ≡ option_map (λ n. record by_default { steps = n }) (option_and_then (λ n. then_some (is_in steps_range n) n) (number text))
unfolding options_in clap_on_literals
steps_found text = refl

seed_fault : (text : Text) → fault_of command ((codes "--seed=" ++ text) ∷ []) ≡ by_value (is_unsigned_in any_number.lowest any_number.highest text)
unfolding clap_on_literals
seed_fault text = refl

seed_found : (text : Text) → options_in (matches_of command ((codes "--seed=" ++ text) ∷ [])) ≡ option_map (λ n. record by_default { seed = n }) (option_and_then (λ n. then_some (is_in any_number n) n) (number text))
unfolding options_in clap_on_literals
seed_found text = refl

frames_fault : (text : Text) → fault_of command ((codes "--frames=" ++ text) ∷ []) ≡ by_value (is_unsigned_in frames_range.lowest frames_range.highest text)
unfolding clap_on_literals
frames_fault text = refl

frames_found : (text : Text) → options_in (matches_of command ((codes "--frames=" ++ text) ∷ [])) ≡ option_map (λ n. record by_default { frames = n }) (option_and_then (λ n. then_some (is_in frames_range n) n) (number text))
unfolding options_in clap_on_literals
frames_found text = refl

pub numbers_have_ranges : NumbersHaveRanges
numbers_have_ranges = (
  λ text. by_range ((codes "--cpus=" ++ text) ∷ []) cpus_range text (λ n. record by_default { cpus = n }) (omega arith) (cpus_fault text) (cpus_found text),
  λ text. by_range ((codes "--steps=" ++ text) ∷ []) steps_range text (λ n. record by_default { steps = n }) (omega arith) (steps_fault text) (steps_found text),
  λ text. by_range ((codes "--seed=" ++ text) ∷ []) any_number text (λ n. record by_default { seed = n }) (omega arith) (seed_fault text) (seed_found text),
  λ text. by_range ((codes "--frames=" ++ text) ∷ []) frames_range text (λ n. record by_default { frames = n }) (omega arith) (frames_fault text) (frames_found text),
)

pub modes_are_named : ModesAreNamed
unfolding options options_in clap_on_literals
modes_are_named name = refl
