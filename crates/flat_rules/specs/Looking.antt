-- What a look at a thread's next step asks.
use Rattle.std.specs.Prelude.{Bool, false, List, Option, Some, None}
use Rattle.rv32_exec.specs.declared.contexts.Context.{Context}
use Rattle.rv32_exec.specs.declared.actions.Action.{Action}
use Rattle.rv32_exec.specs.Pages.{Page}
use Rattle.rv32_exec.specs.Steps.{after_action}
use Rattle.flat_state.specs.NextSteps.{is_miss}

-- an access to data of the action doesn't translate
abbrev pub does_miss : Context → List Page → Action → Bool
does_miss c ps action = is_miss (after_action action c ps).answer

abbrev pub does_any_miss : Context → List Page → Option Action → Bool
does_any_miss c ps None = false
does_any_miss c ps (Some action) = does_miss c ps action
