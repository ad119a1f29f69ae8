-- What a board is made of.
use Rattle.std.specs.Prelude.{Option}
use Rattle.std.specs.Option.{option_map}
use Rattle.flat_state.specs.declared.events.Machine.{Machine}
use Rattle.flat_state.specs.Declaration.{rule_of_machine}
use Rattle.board_core.specs.board_ops.specs.declared.refusals.Refused.{Refused}
use Rattle.board_core.specs.board_ops.specs.declared.refusals.Refused.TheVariants.{BadDecl}

-- why there is no board of the machine, if so
abbrev pub refusal_of_machine : Machine → Option Refused
refusal_of_machine m = option_map (λ rule. BadDecl rule) (rule_of_machine m)
