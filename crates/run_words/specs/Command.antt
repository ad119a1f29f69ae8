-- The commands of two programs: which words they take, as clap reads them.
use Rattle.std.specs.Prelude.{[], ◌∷◌, Some, true, codes}
use Rattle.clap.specs.Words.{App, Rule, Text, new_rule, with_rule}
use Rattle.clap.specs.Simple.{new_shape}
use Rattle.clap.specs.declared.builder.action.ArgAction.TheVariants.{Set}
use Rattle.clap.specs.declared.builder.value_parser.ValueParser.{ValueParser}
use Rattle.clap.specs.declared.builder.value_parser.ValueParser.TheVariants.{String, Unsigned}
use Rattle.run_words.specs.declared.ranges.NumberRange.{NumberRange}
use Rattle.run_words.specs.Ranges.{any_number, cpus_range, steps_range, frames_range}

-- an option with one value: its name, its value where it isn't given, and what its value has to be
abbrev pub option : Text → Text → ValueParser → Rule
option name default parser = record (new_rule name) { long = Some name; action = Some Set; defaults = default ∷ []; parser = Some parser }

-- an option whose value has to be one of these numbers
abbrev pub number_option : Text → Text → NumberRange → Rule
number_option name default numbers = option name default (Unsigned numbers.lowest numbers.highest)

-- a program's command without its options: no name of a program among the words, no help flag, no subcommand
abbrev pub bare : Text → App
bare name = record { top = record (new_shape name) { no_binary_name = true; disable_help_flag = true }; subs = [] }

-- how many steps may be taken
abbrev pub steps_option : Rule
steps_option = number_option (codes "steps") (codes "1000000") steps_range

-- v_run's
abbrev pub command : App
command = with_rule (with_rule (with_rule (with_rule (with_rule (bare (codes "v_run"))
    (option (codes "mode") (codes "run") String))
    (number_option (codes "cpus") (codes "1") cpus_range))
    steps_option)
    (number_option (codes "seed") (codes "0") any_number))
    (number_option (codes "frames") (codes "64") frames_range)

-- v_drive's
abbrev pub drive_command : App
drive_command = with_rule (bare (codes "v_drive")) steps_option
