-- What is due to be written, and what each ending of the whole run says.
use Rattle.std.specs.Prelude.{◌≡◌, ℕ, List, codes, Option, Some, None, Result, Ok, Err}
use Rattle.std.specs.Io.KnownBytes.{Keeps}
use Rattle.due_text.specs.Inputs.{IsWhole, IsTooLong}
use Rattle.due_text.specs.Lines.{scenario_fault_line, too_long_line}
use Rattle.run_journal.specs.flat_state.specs.declared.events.Decl.{Decl}
use Rattle.scenario_reader.specs.declared.fault.ScenarioFault.{ScenarioFault}
use Rattle.scenario_reader.specs.declared.fault.ScenarioFault.TheVariants as faults
use Rattle.scenario_reader.specs.Scenarios.{scenario}
use Rattle.check_mode.specs.declared.answers.Checked.{Checked}
use Rattle.check_mode.specs.declared.answers.Checked.TheVariants as found
use Rattle.check_mode.specs.Answers.{IsChecked}
use Rattle.check_mode.specs.Parts.{scenario_part}
use Rattle.run_journal.specs.declared.entries.Entry.{Entry}
use Rattle.journal_picture.specs.declared.whole.Judged.{Judged}
use Rattle.journal_picture.specs.declared.whole.Judged.TheVariants as judged
use Rattle.journal_picture.specs.declared.whole.Part.{Part}
use Rattle.journal_picture.specs.Pictures.{IsPicture}
use Rattle.v_show.specs.declared.endings.Ending.{Ending}
use Rattle.v_show.specs.declared.endings.Ending.TheVariants.{Legal, Broken, ReadFault, WriteFault, BadScenario, BadJournal, NoMemory, Usage, TooLong}
use Rattle.v_show.specs.declared.options.Options.{Options}
use Rattle.v_show.specs.Words.{options}

abbrev pub usage_line : List ℕ
usage_line = codes "usage: v_show [--from N] [--to N] [--steps N]\n"

abbrev pub exit_status : Ending → ℕ
exit_status Legal = 0
exit_status ReadFault = 3
exit_status WriteFault = 4
exit_status (BadScenario line rule) = 5
exit_status NoMemory = 6
exit_status Usage = 7
exit_status TooLong = 8
exit_status Broken = 11
exit_status (BadJournal line) = 12

-- ---- what is due

-- how a run comes out that writes a picture
abbrev pub ending_of : Judged → Ending
ending_of (judged.Legal settled) = Legal
ending_of (judged.Broken at point) = Broken

-- the picture of entries, and how the run that writes it comes out
abbrev pub IsDrawn : Part → List Entry → Judged → Ending → List ℕ → Type 0
IsDrawn part j how ending text = (ending ≡ ending_of how) × IsPicture j how part text

-- What is due for what the check found: the picture of a legal journal, that of one that isn't as far as it is, or the line that
-- is no entry's.
abbrev pub IsDueFor : Part → Checked → Ending → List ℕ → Type 0
IsDueFor part (found.Yes settled journal said) ending text = IsDrawn part journal.entries (judged.Legal settled) ending text
IsDueFor part (found.No at point journal said) ending text = IsDrawn part journal.entries (judged.Broken at point) ending text
IsDueFor part (found.BadJournal line said) ending text = (ending ≡ BadJournal line) × (text ≡ said.items)

-- The input is a scenario with something behind it, which was checked, and that is due for what was found.
pub record IsShown (o : Options) (input : List ℕ) (ending : Ending) (text : List ℕ) : Type 0 where
  pub found : Checked
  pub checked : IsChecked input o.steps found
  pub due : IsDueFor o.part found ending text

-- this ending and what is written are the answer to an input
abbrev pub IsAnswer : Options → List ℕ → Ending → List ℕ → Type 0
IsAnswer o input Legal text = IsShown o input Legal text
IsAnswer o input Broken text = IsShown o input Broken text
IsAnswer o input (BadJournal line) text = IsShown o input (BadJournal line) text
IsAnswer o input (BadScenario line rule) text = (scenario (scenario_part input) ≡ Err (faults.Bad line rule)) × (text ≡ scenario_fault_line line rule)
IsAnswer o input _ text = ⊥

-- This text is due with this ending for options, where the source had these bytes and has those left.
abbrev pub IsDueBy : Options → Option (List ℕ) → Option (List ℕ) → Ending → List ℕ → Type 0
IsDueBy o bytes left TooLong text = IsTooLong bytes left × (text ≡ too_long_line)
IsDueBy o bytes left ending text = (input : List ℕ) × IsWhole bytes left input × IsAnswer o input ending text

-- The same by words. Those that aren't taken are answered with the usage line.
abbrev pub IsDue : List (List ℕ) → Option (List ℕ) → Option (List ℕ) → Ending → List ℕ → Type 0
IsDue words bytes left Usage text = (options words ≡ None) × Keeps bytes left × (text ≡ usage_line)
IsDue words bytes left ending text = (o : Options) × (options words ≡ Some o) × IsDueBy o bytes left ending text

-- ---- facts for some endings alone

-- P where a text was written whole
abbrev pub OnWritten : Ending → Type 0 → Type 0
OnWritten ReadFault P = Unit {0}
OnWritten WriteFault P = Unit {0}
OnWritten NoMemory P = Unit {0}
OnWritten _ P = P

abbrev pub OnWriteFault : Ending → Type 0 → Type 0
OnWriteFault WriteFault P = P
OnWriteFault _ P = Unit {0}

abbrev pub OnReadFault : Ending → Type 0 → Type 0
OnReadFault ReadFault P = P
OnReadFault _ P = Unit {0}

-- P where no text was due
abbrev pub OnNothingDue : Ending → Type 0 → Type 0
OnNothingDue ReadFault P = P
OnNothingDue NoMemory P = P
OnNothingDue _ P = Unit {0}

abbrev pub UnlessReadFault : Ending → Type 0 → Type 0
UnlessReadFault ReadFault P = Unit {0}
UnlessReadFault _ P = P

abbrev pub UnlessWriteFault : Ending → Type 0 → Type 0
UnlessWriteFault WriteFault P = Unit {0}
UnlessWriteFault _ P = P

-- what stands behind a scenario was checked
abbrev pub IsThrough : Ending → Type 0
IsThrough Legal = Unit {0}
IsThrough Broken = Unit {0}
IsThrough (BadJournal line) = Unit {0}
IsThrough _ = ⊥

-- what stands behind a scenario was checked, and a text that is none was answered by its first fault
abbrev pub ComesOut : Result (List Decl) ScenarioFault → Ending → Type 0
ComesOut (Ok ds) ending = IsThrough ending
ComesOut (Err (faults.Bad line rule)) ending = ending ≡ BadScenario line rule
ComesOut (Err faults.NoMemory) ending = ⊥

-- the same, or memory ran out
abbrev pub ComesOutOrNoMemory : Result (List Decl) ScenarioFault → Ending → Type 0
ComesOutOrNoMemory read NoMemory = Unit {0}
ComesOutOrNoMemory read ending = ComesOut read ending

-- the words were refused, but where the line that says so couldn't be written or made
abbrev pub IsRefusal : Ending → Type 0
IsRefusal Usage = Unit {0}
IsRefusal WriteFault = Unit {0}
IsRefusal NoMemory = Unit {0}
IsRefusal _ = ⊥
