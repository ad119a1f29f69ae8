-- What is due to be written, and what each ending of the whole run says.
use Rattle.std.specs.Prelude.{◌≡◌, ℕ, ◌+◌, List, ◌++◌, codes, count_by, Option, Some, None, Result, Ok, Err}
use Rattle.std.specs.Fmt.{decimal}
use Rattle.std.specs.Io.KnownBytes.{Keeps}
use Rattle.due_text.specs.Inputs.{IsWhole, IsTooLong}
use Rattle.due_text.specs.Lines.{scenario_fault_line, too_long_line}
use Rattle.flat_state.specs.declared.events.Decl.{Decl}
use Rattle.text_fields.specs.Lines.{is_feed}
use Rattle.scenario_reader.specs.declared.fault.ScenarioFault.{ScenarioFault}
use Rattle.scenario_reader.specs.declared.fault.ScenarioFault.TheVariants as faults
use Rattle.scenario_reader.specs.Openings.{opening}
use Rattle.check_mode.specs.Parts.{scenario_part, journal_part}
use Rattle.run_words.specs.Options.{steps_allowed}
use Rattle.cache_board.specs.board_core.specs.Core.{Recorded}
use Rattle.cache_board.specs.Desks.{Desktop, IsClear}
use Rattle.v_drive.specs.declared.endings.Ending.{Ending}
use Rattle.v_drive.specs.declared.endings.Ending.TheVariants.{Done, ReadFault, WriteFault, BadScenario, BadOperation, NoMemory, Usage, TooLong}
use Rattle.board_opening.specs.Openings.{IsBoardOf}
use Rattle.v_drive.specs.Lines.{IsTaken}

abbrev pub usage_line : List ℕ
usage_line = codes "usage: v_drive [--steps N]\n"

abbrev pub operation_fault_line : ℕ → List ℕ
operation_fault_line line = codes "operation fault line " ++ (decimal line ++ codes "\n")

abbrev pub exit_status : Ending → ℕ
exit_status Done = 0
exit_status ReadFault = 3
exit_status WriteFault = 4
exit_status (BadScenario line rule) = 5
exit_status (BadOperation line) = 5
exit_status NoMemory = 6
exit_status Usage = 7
exit_status TooLong = 8

-- ---- what is due

-- the number of the input's first line behind its opening, from 1 on
abbrev pub first_number : List ℕ → ℕ
first_number input = count_by is_feed (scenario_part input) + 1

-- The part up to the first line whose only field is end is an opening. On the board of its declarations, which takes at most so
-- many steps, and with nothing on the desk, the lines behind it were done up to the end or to the first that is none; that is
-- what was written of them.
pub record IsDriven (limit : ℕ) (input : List ℕ) (fault : Option ℕ) (text : List ℕ) : Type 0 where
  pub decls : List Decl
  pub is_opening : opening (scenario_part input) ≡ Ok decls
  pub board : Recorded
  pub made : IsBoardOf decls limit board
  pub desk : Desktop
  pub clear : IsClear desk
  pub last : Recorded
  pub laid : Desktop
  pub taken : IsTaken (journal_part input) (first_number input) fault board desk text last laid

-- this ending and what is written are the answer to an input
abbrev pub IsAnswer : ℕ → List ℕ → Ending → List ℕ → Type 0
IsAnswer limit input Done text = IsDriven limit input None text
IsAnswer limit input (BadOperation line) text = (done : List ℕ) × IsDriven limit input (Some line) done × (text ≡ done ++ operation_fault_line line)
IsAnswer limit input (BadScenario line rule) text = (opening (scenario_part input) ≡ Err (faults.Bad line rule)) × (text ≡ scenario_fault_line line rule)
IsAnswer limit input _ text = ⊥

-- what is due for what was written of the lines, and the number of the one that is none, if there is one
abbrev pub IsEnded : Option ℕ → List ℕ → Ending → List ℕ → Type 0
IsEnded None done ending text = (ending ≡ Done) × (text ≡ done)
IsEnded (Some line) done ending text = (ending ≡ BadOperation line) × (text ≡ done ++ operation_fault_line line)

-- This text is due with this ending at a limit of steps, where the source had these bytes and has those left.
abbrev pub IsDueBy : ℕ → Option (List ℕ) → Option (List ℕ) → Ending → List ℕ → Type 0
IsDueBy limit bytes left TooLong text = IsTooLong bytes left × (text ≡ too_long_line)
IsDueBy limit bytes left ending text = (input : List ℕ) × IsWhole bytes left input × IsAnswer limit input ending text

-- The same by words. Those that aren't taken are answered with the usage line.
abbrev pub IsDue : List (List ℕ) → Option (List ℕ) → Option (List ℕ) → Ending → List ℕ → Type 0
IsDue words bytes left Usage text = (steps_allowed words ≡ None) × Keeps bytes left × (text ≡ usage_line)
IsDue words bytes left ending text = (limit : ℕ) × (steps_allowed words ≡ Some limit) × IsDueBy limit bytes left ending text

-- ---- facts for some endings alone

-- P where a text was written whole
abbrev pub OnWritten : Ending → Type 0 → Type 0
OnWritten ReadFault P = Unit {0}
OnWritten WriteFault P = Unit {0}
OnWritten NoMemory P = Unit {0}
OnWritten _ P = P

abbrev pub OnWriteFault : Ending → Type 0 → Type 0
OnWriteFault WriteFault P = P
OnWriteFault _ P = Unit {0}

abbrev pub OnReadFault : Ending → Type 0 → Type 0
OnReadFault ReadFault P = P
OnReadFault _ P = Unit {0}

-- P where no text was due
abbrev pub OnNothingDue : Ending → Type 0 → Type 0
OnNothingDue ReadFault P = P
OnNothingDue NoMemory P = P
OnNothingDue _ P = Unit {0}

abbrev pub UnlessReadFault : Ending → Type 0 → Type 0
UnlessReadFault ReadFault P = Unit {0}
UnlessReadFault _ P = P

abbrev pub UnlessWriteFault : Ending → Type 0 → Type 0
UnlessWriteFault WriteFault P = Unit {0}
UnlessWriteFault _ P = P

-- the lines behind an opening were done, up to the end or to the first that is none
abbrev pub IsThrough : Ending → Type 0
IsThrough Done = Unit {0}
IsThrough (BadOperation line) = Unit {0}
IsThrough _ = ⊥

-- what is read as an opening was driven, and any other text was answered by its first fault
abbrev pub ComesOut : Result (List Decl) ScenarioFault → Ending → Type 0
ComesOut (Ok ds) ending = IsThrough ending
ComesOut (Err (faults.Bad line rule)) ending = ending ≡ BadScenario line rule
ComesOut (Err faults.NoMemory) ending = ⊥

-- the same, or memory ran out
abbrev pub ComesOutOrNoMemory : Result (List Decl) ScenarioFault → Ending → Type 0
ComesOutOrNoMemory read NoMemory = Unit {0}
ComesOutOrNoMemory read ending = ComesOut read ending

-- the words were refused, but where the line that says so couldn't be written or made
abbrev pub IsRefusal : Ending → Type 0
IsRefusal Usage = Unit {0}
IsRefusal WriteFault = Unit {0}
IsRefusal NoMemory = Unit {0}
IsRefusal _ = ⊥
