-- Numbers that were read are in their options' ranges.
use Rattle.std.proofs.Common.{◌≡◌, ℕ, Bool, true, false, List, Option, Some, None, refl, Result, Ok, Err, subst}
use Rattle.std.specs.Prelude.{codes, IfOk, nat_le, option_and_then, option_map}
use Rattle.std.specs.Bool.{then_some}
use Rattle.std.proofs.lemmas.Bool.{and_parts, leb-true}
use Rattle.std.proofs.lemmas.Option.{same_Some}
use Rattle.clap.specs.Words.{App, Row, Text, matches_of}
use Rattle.run_words.specs.declared.options.Options.{Options}
use Rattle.run_words.specs.declared.options.WordsFault.{WordsFault}
use Rattle.run_words.specs.declared.ranges.NumberRange.{NumberRange}
use Rattle.run_words.specs.Command.{command}
use Rattle.run_words.specs.Options.{are_taken, asked, IsReading, mode_in, number_in, number_within, options, options_in}
use Rattle.run_words.specs.Ranges.{any_number, cpus_range, frames_range, is_in, IsIn, steps_range}

-- ---- what was answered has its parts

some_part : {A B : Type 0} (f : A → Option B) (o : Option A) (b : B) → option_and_then f o ≡ Some b → (a : A) × (o ≡ Some a) × (f a ≡ Some b)
some_part f None b e = absurd cc
some_part f (Some a) b e = (a, refl, e)

some_image : {A B : Type 0} (f : A → B) (o : Option A) (b : B) → option_map f o ≡ Some b → (a : A) × (o ≡ Some a) × (f a ≡ b)
some_image f None b e = absurd cc
some_image f (Some a) b e = (a, refl, same_Some (f a) b e)

asked_part : {A : Type 0} (app : App) (read : List Row → Option A) (words : List Text) (a : A) → asked app read words ≡ Some a → read (matches_of app words) ≡ Some a
asked_part {A} app read words a e = go (are_taken app words) refl
  where
    go : (taken : Bool) → are_taken app words ≡ taken → read (matches_of app words) ≡ Some a
    go true t = rw t at e
    go false t = let none : None ≡ Some a = rw t at e in cc

-- ---- a number

in_range : (numbers : NumberRange) (n m : ℕ) → then_some (is_in numbers n) n ≡ Some m → IsIn numbers m
in_range numbers n m e = go (is_in numbers n) refl
  where
    go : (b : Bool) → is_in numbers n ≡ b → IsIn numbers m
    go true t =
        let same : Some n ≡ Some m = rw t at e in
        let parts = and_parts (nat_le numbers.lowest n) (nat_le n numbers.highest) t in
        subst (IsIn numbers) (same_Some n m same) (leb-true numbers.lowest n parts.0, leb-true n numbers.highest parts.1)
    go false t = let none : None ≡ Some m = rw t at e in absurd cc

number_in_range : (name : Text) (numbers : NumberRange) (rows : List Row) (m : ℕ) → number_within name numbers rows ≡ Some m → IsIn numbers m
number_in_range name numbers rows m e =
    let part = some_part (λ n. then_some (is_in numbers n) n) (number_in name rows) m e in
    in_range numbers part.0 m part.2

-- ---- options

pub record AreIn (o : Options) : Type 0 where
  pub cpus : IsIn cpus_range o.cpus
  pub steps : IsIn steps_range o.steps
  pub frames : IsIn frames_range o.frames

options_in_ranges : (rows : List Row) (o : Options) → options_in rows ≡ Some o → AreIn o
unfolding options_in
options_in_ranges rows o e =
    let mode = some_part _ (mode_in rows) o e in
    let cpus = some_part _ (number_within (codes "cpus") cpus_range rows) o mode.2 in
    let steps = some_part _ (number_within (codes "steps") steps_range rows) o cpus.2 in
    let seed = some_part _ (number_within (codes "seed") any_number rows) o steps.2 in
    let frames = some_image _ (number_within (codes "frames") frames_range rows) o seed.2 in
    subst AreIn frames.2 (record {
      cpus = number_in_range (codes "cpus") cpus_range rows cpus.0 cpus.1;
      steps = number_in_range (codes "steps") steps_range rows steps.0 steps.1;
      frames = number_in_range (codes "frames") frames_range rows frames.0 frames.1;
    })

pub read_in_ranges : (words : List Text) (r : Result Options WordsFault) → IsReading (options words) r → IfOk r AreIn
unfolding options
read_in_ranges words (Ok o) meant = options_in_ranges (matches_of command words) o (asked_part command options_in words o meant)
read_in_ranges words (Err fault) meant = tt
