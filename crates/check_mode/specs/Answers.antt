-- What mode check answers to an input.
use Rattle.std.specs.Prelude.{◌≡◌, ℕ, List, ◌++◌, Ok, Err}
use Rattle.flat_machine.specs.flat_state.specs.declared.events.Decl.{Decl}
use Rattle.flat_machine.specs.flat_state.specs.declared.records.Settled.{Settled}
use Rattle.flat_machine.specs.flat_state.specs.Events.{flat}
use Rattle.flat_machine.specs.flat_state.specs.Settling.{settled_of}
use Rattle.scenario_reader.specs.declared.fault.ScenarioFault.{ScenarioFault}
use Rattle.scenario_reader.specs.declared.fault.ScenarioFault.TheVariants as scenario_faults
use Rattle.scenario_reader.specs.Scenarios.{scenario}
use Rattle.run_journal.specs.declared.entries.Entry.{Entry}
use Rattle.run_journal.specs.Entries.{erase, steps_in}
use Rattle.run_journal.specs.Legal.{IsLegal}
use Rattle.run_journal.specs.Points.{opening, IsFirstBroken}
use Rattle.journal_text.specs.Lines.{journal_text}
use Rattle.journal_text.specs.Ranges.{AreInRange, IsFirstFault}
use Rattle.check_mode.specs.declared.answers.Checked.{Checked}
use Rattle.check_mode.specs.declared.answers.Checked.TheVariants.{Yes, No, BadJournal}
use Rattle.check_mode.specs.Parts.{scenario_part, journal_part}
use Rattle.check_mode.specs.Texts.{yes_text, no_line, fault_line}

-- ---- by the declarations of the scenario, and by what stands behind it

-- the bytes are the text of this journal, and of no other
pub record IsJournal (bytes : List ℕ) (j : List Entry) : Type 0 where
  pub its : bytes ≡ journal_text j
  pub only : (other : List Entry) → AreInRange other → bytes ≡ journal_text other → j ≡ other

-- It is a journal, which is legal and begins with the declarations and the seal. At the limit of steps its run stands so, and this is
-- the text on it.
pub record IsYesOn (ds : List Decl) (behind : List ℕ) (limit : ℕ) (settled : Settled) (j : List Entry) (text : List ℕ) : Type 0 where
  pub is_journal : IsJournal behind j
  pub legal : IsLegal j
  pub rest : List Entry
  pub begins : j ≡ opening ds ++ rest
  pub settled_so : settled ≡ settled_of (flat (erase j)) (steps_in j) limit
  pub written : text ≡ yes_text (flat (erase j)) settled (steps_in j)

-- It is a journal. This is the first place of it that breaks a rule, and the first rule there.
pub record IsNoOn (ds : List Decl) (behind : List ℕ) (at point : ℕ) (j : List Entry) (text : List ℕ) : Type 0 where
  pub is_journal : IsJournal behind j
  pub broken : IsFirstBroken ds j at point
  pub written : text ≡ no_line at point

-- It is no journal. This line of it is the first that isn't an entry's.
pub record IsNoJournal (behind : List ℕ) (line : ℕ) (text : List ℕ) : Type 0 where
  pub none : (j : List Entry) → AreInRange j → behind ≡ journal_text j → ⊥
  pub fault : IsFirstFault behind line
  pub written : text ≡ fault_line line

abbrev pub IsCheckedOn : List Decl → List ℕ → ℕ → Checked → Type 0
IsCheckedOn ds behind limit (Yes settled journal text) = IsYesOn ds behind limit settled journal.entries text.items
IsCheckedOn ds behind limit (No at point journal text) = IsNoOn ds behind at point journal.entries text.items
IsCheckedOn ds behind limit (BadJournal line text) = IsNoJournal behind line text.items

-- ---- by the input

-- The part up to the first line whose only field is end is a scenario, and on its declarations and what stands behind it this is
-- answered.
pub record IsChecked (input : List ℕ) (limit : ℕ) (checked : Checked) : Type 0 where
  pub decls : List Decl
  pub is_scenario : scenario (scenario_part input) ≡ Ok decls
  pub answer : IsCheckedOn decls (journal_part input) limit checked

-- the part up to that line is no scenario, and this is its first fault; or memory ran out
abbrev pub IsFaultOf : List ℕ → ScenarioFault → Type 0
IsFaultOf input scenario_faults.NoMemory = Unit {0}
IsFaultOf input (scenario_faults.Bad line rule) = scenario (scenario_part input) ≡ Err (scenario_faults.Bad line rule)

-- the input is a scenario of these declarations, and behind it the text of a legal journal that begins with them and the seal
pub record HasLegalJournal (input : List ℕ) (ds : List Decl) (j : List Entry) : Type 0 where
  pub is_scenario : scenario (scenario_part input) ≡ Ok ds
  pub is_journal : journal_part input ≡ journal_text j
  pub in_range : AreInRange j
  pub legal : IsLegal j
  pub rest : List Entry
  pub begins : j ≡ opening ds ++ rest
