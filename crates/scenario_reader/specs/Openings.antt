-- Which texts are openings, the declarations with which a machine begins: they are read as scenarios are, but need no kernel.
use Rattle.std.specs.Prelude.{◌≢◌, ℕ, ◌+◌, Bool, true, false, if◌then◌else◌, List, [], ◌∷◌, Result, Ok, Err}
use Rattle.flat_machine.specs.flat_state.specs.declared.events.TheConstants.{GREATEST_CAPS}
use Rattle.flat_machine.specs.flat_state.specs.declared.events.Decl.{Decl}
use Rattle.flat_machine.specs.flat_state.specs.declared.events.Decl.TheVariants as decls
use Rattle.text_fields.specs.Lines.{lines}
use Rattle.scenario_lines.specs.Forms.{Line}
use Rattle.scenario_lines.specs.Forms as forms
use Rattle.scenario_lines.specs.Lines.{line_of}
use Rattle.scenario_reader.specs.declared.fault.ScenarioFault.{ScenarioFault}
use Rattle.scenario_reader.specs.declared.fault.ScenarioFault.TheVariants as faults
use Rattle.scenario_reader.specs.Readings.{◌>>=◌, Place, Start, Memory, Body, Code, Image, Ended, Reading, start, declare, in_place}
use Rattle.scenario_reader.specs.Scenarios.{at_place, numbered, finish}

-- is the line `end`?
abbrev pub ends_it : Result Line ℕ → Bool
ends_it (Ok forms.End) = true
ends_it _ = false

-- right behind mem, the machine stands before the end
abbrev pub ends_behind_memory : Reading → ℕ → Result Reading ScenarioFault
ends_behind_memory r groups = declare (in_place r Body) (decls.Machine (record { groups = groups; caps = GREATEST_CAPS })) >>= λ next. Ok (in_place next Ended)

-- Behind mem, outside of blocks, a line `end` ends it, whether there is a kernel or not. All else is as in a scenario.
abbrev pub at_place_of_opening : Place → Reading → List ℕ → Result Reading ScenarioFault
at_place_of_opening Start r line = at_place Start r line
at_place_of_opening (Memory groups) r line = if ends_it (line_of line) then ends_behind_memory r groups else at_place (Memory groups) r line
at_place_of_opening Body r line = if ends_it (line_of line) then Ok (in_place r Ended) else at_place Body r line
at_place_of_opening (Code frame offset) r line = at_place (Code frame offset) r line
at_place_of_opening (Image space frame thread) r line = at_place (Image space frame thread) r line
at_place_of_opening Ended r line = at_place Ended r line

-- the line of that number
unfoldable pub step_of_opening : ℕ → Reading → List ℕ → Result Reading ScenarioFault
step_of_opening number r line = at_place_of_opening r.place (numbered r number) line

-- the lines one after another, of which the first has that number
unfoldable pub reads_opening : ℕ → Reading → List (List ℕ) → Result (List Decl) ScenarioFault
reads_opening number r [] = finish r
reads_opening number r (line ∷ more) = step_of_opening number r line >>= λ next. reads_opening (number + 1) next more

-- What a text declares, where it is an opening; else its first fault, by line and then by rule.
unfoldable pub opening : List ℕ → Result (List Decl) ScenarioFault
opening text = reads_opening 1 start (lines text)

-- a text isn't refused for want of a kernel, which is rule 25
abbrev pub WantsNoKernel : {A : Type 0} → Result A ScenarioFault → Type 0
WantsNoKernel (Ok x) = Unit {0}
WantsNoKernel (Err faults.NoMemory) = Unit {0}
WantsNoKernel (Err (faults.Bad line rule)) = rule ≢ 25
