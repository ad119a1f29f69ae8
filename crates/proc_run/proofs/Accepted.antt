-- The checker accepts what the program writes.
use Rattle.std.proofs.Common.{◌≡◌, ℕ, List, [], ◌∷◌, ◌++◌, Option, Some, Result, Ok, refl, sym, ap, subst, ◌∙◌, inl, inr}
use Rattle.std.specs.List.{AllByRecursion}
use Rattle.flat_state.specs.declared.events.Decl.{Decl}
use Rattle.flat_state.specs.declared.records.Settled.{Settled}
use Rattle.flat_state.specs.declared.records.Settled.TheVariants as settled
use Rattle.flat_state.specs.Events.{flat}
use Rattle.flat_state.specs.Settling.{settled_of}
use Rattle.run_journal.specs.declared.entries.Entry.{Entry}
use Rattle.run_journal.specs.Entries.{erase, steps_in}
use Rattle.run_journal.specs.Points.{opening}
use Rattle.journal_text.specs.Lines.{journal_text}
use Rattle.journal_text.specs.Ranges.{AreInRange, IsDeclInRange}
use Rattle.scenario_reader.specs.declared.fault.ScenarioFault.{ScenarioFault}
use Rattle.scenario_reader.specs.Scenarios.{scenario}
use Rattle.scenario_reader.proofs.Kernels.{answer_kernel}
use Rattle.seed_scenarios.specs.scenario_print.specs.Texts.{scenario_text}
use Rattle.seed_scenarios.specs.scenario_print.proofs.Again.{scenario_again}
use Rattle.check_mode.specs.Answers.{HasLegalJournal}
use Rattle.check_mode.proofs.Printed.{journal_behind, scenario_before}
use Rattle.board_opening.specs.board_core.specs.Core.{Recorded}
use Rattle.run_words.specs.declared.options.Mode.{Mode}
use Rattle.run_words.specs.declared.options.Mode.TheVariants.{Run, Journal, Gen, Check, Page}
use Rattle.run_words.specs.declared.options.Options.{Options}
use Rattle.proc_run.specs.declared.outcome.Kept.{Kept}
use Rattle.proc_run.specs.declared.outcome.Kept.TheVariants as kept
use Rattle.proc_run.specs.declared.outcome.RunStatus.{RunStatus}
use Rattle.proc_run.specs.declared.text.Account.{Account}
use Rattle.proc_run.specs.declared.text.Account.TheVariants as accounts
use Rattle.proc_run.specs.Dues.{status_of}
use Rattle.proc_run.specs.Outcomes.{IsAnswerIn, IsCheckAnswer, IsPageAnswer, IsDue, IsDueBy, IsLegalAt, IsRunAnswer, IsRunOf, IsScenario, IsTold, IsToldIn}
use Rattle.proc_run.specs.Printed.{printed_run, AskForCheck, IsReturned, IsShortEnough}
use Rattle.proc_run.proofs.Answered.{due_by_these, due_parts, legal_so, never_too_long, same_text}
use Rattle.proc_run.proofs.Opened.{fits_and_begins}

-- ---- the run behind an answer

run_answer : (account : Account) (limit : ℕ) (bs : List ℕ) (how : Settled) (b : Recorded) (text : List ℕ) → IsRunAnswer account limit bs (status_of how) (kept.Board b) text → IsRunOf account limit bs how b text
run_answer account limit bs settled.Done b text answer = answer
run_answer account limit bs settled.Stalled b text answer = answer
run_answer account limit bs settled.Spent b text answer = answer
run_answer account limit bs settled.Running b text answer = absurd answer

-- no board is kept of a check
no_board : (limit : ℕ) (bs : List ℕ) (how : Settled) (b : Recorded) (text : List ℕ) → IsCheckAnswer limit bs (status_of how) (kept.Board b) text → ⊥
no_board limit bs settled.Done b text answer = answer
no_board limit bs settled.Stalled b text answer = answer
no_board limit bs settled.Spent b text answer = answer
no_board limit bs settled.Running b text answer = answer

-- nor of a run with few frames
no_board_paged : (limit : ℕ) (bs : List ℕ) (how : Settled) (b : Recorded) (text : List ℕ) → IsPageAnswer limit bs (status_of how) (kept.Board b) text → ⊥
no_board_paged limit bs settled.Done b text answer = answer
no_board_paged limit bs settled.Stalled b text answer = answer
no_board_paged limit bs settled.Spent b text answer = answer
no_board_paged limit bs settled.Running b text answer = answer

run_in : (mode : Mode) (o : Options) (bs : List ℕ) (how : Settled) (b : Recorded) (text : List ℕ) → IsAnswerIn mode o bs (status_of how) (kept.Board b) text → (account : Account) × IsRunOf account o.steps bs how b text
run_in Run o bs how b text answer = (accounts.Report, run_answer accounts.Report o.steps bs how b text answer)
run_in Journal o bs how b text answer = (accounts.Journal, run_answer accounts.Journal o.steps bs how b text answer)
run_in Gen o bs how b text answer = (accounts.Summary o.seed, run_answer (accounts.Summary o.seed) o.steps bs how b text answer)
run_in Check o bs how b text answer = absurd (no_board o.steps bs how b text answer)
run_in Page o bs how b text answer = absurd (no_board_paged o.steps bs how b text answer)

run_by : (o : Options) (bytes left : Option (List ℕ)) (told : List ℕ) (how : Settled) (b : Recorded) (text : List ℕ) → IsTold o bytes told → IsDueBy o bytes left (status_of how) (kept.Board b) text → (account : Account) × IsRunOf account o.steps told how b text
run_by o bytes left told how b text is due =
    elim (due_parts o bytes left (status_of how) (kept.Board b) text due) [
      | inl long ↦ absurd (never_too_long o.mode o.seed bytes left told is long.0 long.1)
      | inr h ↦
          let ran = run_in o.mode o h.0 how b text h.2 in
          (ran.0, subst (λ (bs : List ℕ). IsRunOf ran.0 o.steps bs how b text) (same_text o.mode o.seed bytes left h.0 told is h.1) ran.1)
    ]

run_of_returned : (words : List (List ℕ)) (o : Options) (ds : List Decl) (how : Settled) (b : Recorded) (r : IsReturned words o ds how b) → (account : Account) × IsRunOf account o.steps r.input how b r.text
run_of_returned words o ds how b r = run_by o r.bytes r.left r.input how b r.text r.told (due_by_these words o r.bytes r.left (status_of how) (kept.Board b) r.text r.taken r.due)

-- ---- its texts

-- the declarations of a journal's opening are in range where the journal is
decls_in_range : (ds : List Decl) (rest : List Entry) → AreInRange (opening ds ++ rest) → AllByRecursion IsDeclInRange ds
decls_in_range [] rest small = tt
decls_in_range (d ∷ ds) rest small = (small.0, decls_in_range ds rest small.1)

same_read : (ds other : List Decl) (read : Result (List Decl) ScenarioFault) → read ≡ Ok ds → read ≡ Ok other → ds ≡ other
same_read ds other read is also = cc

-- the printed run is the printed scenario, and behind it the printed journal
is_behind : (account : Account) (limit : ℕ) (input text : List ℕ) (how : Settled) (ds : List Decl) (b : Recorded) → IsScenario input ds → AreInRange b.journal.entries → IsRunOf account limit input how b text
    → HasLegalJournal (printed_run ds b.journal.entries) ds b.journal.entries
is_behind account limit input text how ds b is small ran =
    let j = b.journal.entries in
    let same : ran.decls ≡ ds = same_read ran.decls ds (scenario input) ran.is_scenario is in
    let begins : j ≡ opening ds ++ ran.rest = ran.begins ∙ ap (λ (x : List Decl). opening x ++ ran.rest) same in
    let decls : AllByRecursion IsDeclInRange ds = decls_in_range ds ran.rest (subst AreInRange begins small) in
    let again : scenario (scenario_text ds) ≡ Ok ds = scenario_again ds (fits_and_begins input ds is).0 decls (answer_kernel input (Ok ds) is) in
    record {
      is_scenario = ap scenario (scenario_before ds (journal_text j) decls) ∙ again;
      is_journal = journal_behind ds (journal_text j) decls;
      in_range = small;
      legal = ran.legal;
      rest = ran.rest;
      begins = begins;
    }

-- ---- the laws

pub is_legal : (words : List (List ℕ)) (o : Options) (ds : List Decl) (how : Settled) (b : Recorded) → IsReturned words o ds how b → HasLegalJournal (printed_run ds b.journal.entries) ds b.journal.entries
is_legal words o ds how b r =
    let ran = run_of_returned words o ds how b r in
    is_behind ran.0 o.steps r.input r.text how ds b r.is_scenario r.in_range ran.1

pub is_settled : (words : List (List ℕ)) (o : Options) (ds : List Decl) (how : Settled) (b : Recorded) → IsReturned words o ds how b
    → settled_of (flat (erase b.journal.entries)) (steps_in b.journal.entries) o.steps ≡ how
is_settled words o ds how b r = sym (run_of_returned words o ds how b r).1.settled_so

pub is_accepted : (words again : List (List ℕ)) (o : Options) (ds : List Decl) (how : Settled) (b : Recorded) → IsReturned words o ds how b → AskForCheck again o.steps → IsShortEnough ds b.journal.entries
    → (left : Option (List ℕ)) (status : RunStatus) (k : Kept) (text : List ℕ) → IsDue again (Some (printed_run ds b.journal.entries)) left status k text → IsLegalAt how status
is_accepted words again o ds how b r asks short left status k text due =
    let j = b.journal.entries in
    let input = printed_run ds j in
    let told : IsTold asks.o (Some input) input = subst (λ (m : Mode). IsToldIn m asks.o.seed (Some input) input) (sym asks.checks) (refl, short) in
    let found : IsLegalAt (settled_of (flat (erase j)) (steps_in j) asks.o.steps) status =
    legal_so again asks.o (Some input) left status k text input ds j asks.taken asks.checks told (is_legal words o ds how b r) due in
    subst (λ (x : Settled). IsLegalAt x status) (ap (λ (n : ℕ). settled_of (flat (erase j)) (steps_in j) n) asks.steps ∙ is_settled words o ds how b r) found
