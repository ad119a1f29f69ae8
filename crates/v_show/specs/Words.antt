-- What the words ask for, and which are taken.
use Rattle.std.specs.Prelude.{List, Option, codes, option_and_then, option_map}
use Rattle.clap.specs.Words.{App, Row, Text, with_rule}
use Rattle.run_words.specs.Command.{bare, number_option, steps_option}
use Rattle.run_words.specs.Options.{asked, number_within}
use Rattle.run_words.specs.Ranges.{any_number, steps_range}
use Rattle.v_show.specs.declared.options.Options.{Options}

abbrev pub command : App
command = with_rule (with_rule (with_rule (bare (codes "v_show"))
    (number_option (codes "from") (codes "0") any_number))
    (number_option (codes "to") (codes "4294967295") any_number))
    steps_option

-- what the values ask for that were found for the options
unfoldable pub options_in : List Row → Option Options
options_in rows =
    option_and_then (λ from.
    option_and_then (λ to.
    option_map (λ steps. record { part = record { from = from; to = to }; steps = steps })
    (number_within (codes "steps") steps_range rows))
    (number_within (codes "to") any_number rows))
    (number_within (codes "from") any_number rows)

-- What the words ask for, where the command finds no fault in them.
unfoldable pub options : List Text → Option Options
options words = asked command options_in words
