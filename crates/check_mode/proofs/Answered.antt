-- What an answer says of its input.
use Rattle.std.proofs.Common.{◌≡◌, ℕ, List, ◌++◌, Ok, Err, Result, sym, ap, ◌∙◌, subst, ◌⊎◌, inl, inr}
use Rattle.flat_machine.specs.flat_state.specs.declared.events.Decl.{Decl}
use Rattle.flat_machine.specs.flat_state.specs.declared.records.Settled.{Settled}
use Rattle.flat_machine.specs.flat_state.specs.Events.{flat}
use Rattle.flat_machine.specs.flat_state.specs.Settling.{settled_of}
use Rattle.scenario_reader.specs.declared.fault.ScenarioFault.{ScenarioFault}
use Rattle.scenario_reader.specs.declared.fault.ScenarioFault.TheVariants as scenario_faults
use Rattle.scenario_reader.specs.Scenarios.{scenario}
use Rattle.run_journal.specs.declared.entries.Entry.{Entry}
use Rattle.run_journal.specs.Entries.{erase, steps_in}
use Rattle.run_journal.specs.Legal.{IsLegal}
use Rattle.run_journal.specs.Points.{opening}
use Rattle.run_journal.proofs.PointLaws.{legal_keeps}
use Rattle.journal_text.specs.declared.fault.JournalFault.TheVariants as journal_faults
use Rattle.check_mode.specs.Parts.{scenario_part, journal_part}
use Rattle.check_mode.specs.Answers.{IsYesOn, IsNoOn, IsNoJournal, IsFaultOf, HasLegalJournal}

-- a reading that failed at a line is no journal's
pub line_is_no_memory : {P : Type 0} (line : ℕ) → journal_faults.Line line ≡ journal_faults.NoMemory → P
line_is_no_memory line e = absurd cc

pub fault_of : (input bytes : List ℕ) (e : ScenarioFault) → bytes ≡ scenario_part input → (e ≡ scenario_faults.NoMemory) ⊎ (scenario bytes ≡ Err e) → IsFaultOf input e
fault_of input bytes scenario_faults.NoMemory part meant = tt
fault_of input bytes (scenario_faults.Bad line rule) part (inl none) = absurd cc
fault_of input bytes (scenario_faults.Bad line rule) part (inr meant) = subst (λ (bs : List ℕ). scenario bs ≡ Err (scenario_faults.Bad line rule)) part meant

-- ---- a legal journal is found legal

same_decls : (a b : List Decl) (read : Result (List Decl) ScenarioFault) → read ≡ Ok a → read ≡ Ok b → a ≡ b
same_decls a b read one other = cc

pub yes_so : (input : List ℕ) (ds ds' : List Decl) (j j' : List Entry) (limit : ℕ) (how : Settled) (text : List ℕ) → HasLegalJournal input ds j → IsYesOn ds' (journal_part input) limit how j' text
    → how ≡ settled_of (flat (erase j)) (steps_in j) limit
yes_so input ds ds' j j' limit how text has is =
    is.settled_so ∙ ap (λ (es : List Entry). settled_of (flat (erase es)) (steps_in es) limit) (is.is_journal.only j has.in_range has.is_journal)

pub never_no : (input : List ℕ) (ds ds' : List Decl) (j j' : List Entry) (at point : ℕ) (text : List ℕ) → HasLegalJournal input ds j → scenario (scenario_part input) ≡ Ok ds' → IsNoOn ds' (journal_part input) at point j' text → ⊥
never_no input ds ds' j j' at point text has found is =
    let same : j ≡ j' = sym (is.is_journal.only j has.in_range has.is_journal) in
    let decls : ds ≡ ds' = same_decls ds ds' (scenario (scenario_part input)) has.is_scenario found in
    let legal : IsLegal j' = subst IsLegal same has.legal in
    let begins : j' ≡ opening ds' ++ has.rest = sym same ∙ has.begins ∙ ap (λ (x : List Decl). opening x ++ has.rest) decls in
    is.broken.broken (legal_keeps ds' j' has.rest legal begins at is.broken.rule is.broken.within)

pub never_bad : (input : List ℕ) (ds : List Decl) (j : List Entry) (line : ℕ) (text : List ℕ) → HasLegalJournal input ds j → IsNoJournal (journal_part input) line text → ⊥
never_bad input ds j line text has is = is.none j has.in_range has.is_journal

pub never_faulty : (input : List ℕ) (ds : List Decl) (j : List Entry) (line rule : ℕ) → HasLegalJournal input ds j → scenario (scenario_part input) ≡ Err (scenario_faults.Bad line rule) → ⊥
never_faulty input ds j line rule has bad = ok_is_err (sym has.is_scenario ∙ bad)
  where
    ok_is_err : Ok ds ≡ Err (scenario_faults.Bad line rule) → ⊥
    ok_is_err e = cc
