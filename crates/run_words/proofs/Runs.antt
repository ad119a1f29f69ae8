-- What the words of a run ask for, by literals.
use Rattle.std.proofs.Common.{◌≡◌, List, [], Some, true, refl, sym, ap, ◌∙◌, Result, Ok, Err}
use Rattle.std.proofs.lemmas.Option.{same_Some}
use Rattle.std.specs.Prelude.{IfOk}
use Rattle.clap.specs.Words.{Text, is_simple_and_free}
use Rattle.clap.proofs.OnLiterals.{clap_on_literals}
use Rattle.run_words.specs.declared.options.Options.{Options}
use Rattle.run_words.specs.declared.options.WordsFault.{WordsFault}
use Rattle.run_words.specs.Command.{command, drive_command}
use Rattle.run_words.specs.Examples.{AreTaken, AreRefused}
use Rattle.run_words.specs.Options.{by_default, options, options_in, IsReading}

pub command_is_free : is_simple_and_free command ≡ true
unfolding clap_on_literals
command_is_free = refl

pub drive_command_is_free : is_simple_and_free drive_command ≡ true
unfolding clap_on_literals
drive_command_is_free = refl

-- ---- no words

no_words : options [] ≡ Some by_default
unfolding options options_in clap_on_literals
no_words = refl

pub by_default_so : (words : List Text) (r : Result Options WordsFault) → words ≡ [] → IsReading (options words) r → IfOk r (λ o. o ≡ by_default)
by_default_so words (Ok o) none meant = same_Some o by_default (sym meant ∙ (ap options none ∙ no_words))
by_default_so words (Err fault) none meant = tt

-- ---- examples

pub examples_are_taken : AreTaken
unfolding options options_in clap_on_literals
examples_are_taken = refl

pub examples_are_refused : AreRefused
unfolding options options_in clap_on_literals
examples_are_refused = refl
