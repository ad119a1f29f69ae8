-- What is due to be written, and what each answer of the whole run says.
use Rattle.std.specs.Prelude.{◌≡◌, ℕ, ◌≤◌, Bool, true, false, List, ◌++◌, length, codes, Option, Some, None, Result, Ok, Err}
use Rattle.std.specs.Io.KnownBytes.{Keeps}
use Rattle.due_text.specs.Inputs.{IsTooLong, IsWhole, most_bytes}
use Rattle.due_text.specs.Lines.{scenario_fault_line, too_long_line}
use Rattle.flat_state.specs.declared.events.Decl.{Decl}
use Rattle.flat_state.specs.declared.records.Settled.{Settled}
use Rattle.flat_state.specs.declared.records.Settled.TheVariants as settled
use Rattle.flat_state.specs.Events.{flat}
use Rattle.flat_state.specs.Settling.{settled_of}
use Rattle.scenario_reader.specs.declared.fault.ScenarioFault.{ScenarioFault}
use Rattle.scenario_reader.specs.declared.fault.ScenarioFault.TheVariants as faults
use Rattle.scenario_reader.specs.Scenarios.{scenario}
use Rattle.run_journal.specs.declared.entries.Entry.{Entry}
use Rattle.proc_run.specs.declared.outcome.RunStatus.{RunStatus}
use Rattle.proc_run.specs.declared.outcome.RunStatus.TheVariants.{Done, Stalled, Spent, ReadFault, WriteFault, BadScenario, NoMemory, Usage, TooLong, Checked, NotLegal, BadJournal, Paged}
use Rattle.proc_run.specs.declared.outcome.Kept.{Kept}
use Rattle.proc_run.specs.declared.outcome.Kept.TheVariants as kept
use Rattle.run_journal.specs.Entries.{erase, steps_in}
use Rattle.run_journal.specs.Legal.{IsLegal}
use Rattle.run_journal.specs.Points.{opening}
use Rattle.board_opening.specs.board_core.specs.Core.{IsSound, Recorded}
use Rattle.check_mode.specs.Parts.{scenario_part, journal_part}
use Rattle.check_mode.specs.Answers.{IsYesOn, IsNoOn, IsNoJournal}
use Rattle.scenario_gen.specs.Generated.{text as generated}
use Rattle.run_words.specs.declared.options.Mode.{Mode}
use Rattle.run_words.specs.declared.options.Mode.TheVariants.{Run, Journal, Gen, Check, Page}
use Rattle.run_words.specs.declared.options.Options.{Options}
use Rattle.run_words.specs.Options.{options}
use Rattle.proc_run.specs.declared.text.Account.{Account}
use Rattle.proc_run.specs.declared.text.Account.TheVariants as accounts
use Rattle.paged_run.specs.Runs.{IsPagedRun}
use Rattle.proc_run.specs.Texts.{text_of}

abbrev pub usage_line : List ℕ
usage_line = codes "usage: v_run [--mode run|journal|gen|check|page] [--cpus N] [--steps N] [--seed N] [--frames N]\n"

abbrev pub exit_status : RunStatus → ℕ
exit_status Done = 0
exit_status Stalled = 1
exit_status Spent = 2
exit_status ReadFault = 3
exit_status WriteFault = 4
exit_status (BadScenario line rule) = 5
exit_status NoMemory = 6
exit_status Usage = 7
exit_status TooLong = 8
exit_status (Checked settled) = 10
exit_status (NotLegal at point) = 11
exit_status (BadJournal line) = 12
exit_status (Paged settled) = 13

-- the bytes are a scenario with these declarations
abbrev pub IsScenario : List ℕ → List Decl → Type 0
IsScenario bytes ds = scenario bytes ≡ Ok ds

-- the bytes are no scenario: the line is the first that breaks a rule, and this is the lowest that it breaks
abbrev pub HasFault : List ℕ → ℕ → ℕ → Type 0
HasFault bytes line rule = scenario bytes ≡ Err (faults.Bad line rule)

-- ---- what is due

-- The text is a scenario. The board is sound, and so its journal is legal; it begins with the declarations and the seal, and so many
-- steps may be taken on it. The run is settled so, as the machine with unlimited tables is on what is left of the journal, at the
-- limit of steps; and this is the text of the account of it.
pub record IsRunOf (account : Account) (limit : ℕ) (scenario_text : List ℕ) (how : Settled) (b : Recorded) (text : List ℕ) : Type 0 where
  pub decls : List Decl
  pub is_scenario : IsScenario scenario_text decls
  pub rest : List Entry
  pub begins : b.journal.entries ≡ opening decls ++ rest
  pub legal : IsLegal b.journal.entries
  pub sound : IsSound b
  pub its_limit : b.limit ≡ limit
  pub settled_so : how ≡ settled_of (flat (erase b.journal.entries)) (steps_in b.journal.entries) limit
  pub written : text ≡ text_of account b.journal.entries (flat (erase b.journal.entries)) how (steps_in b.journal.entries)

-- this status, what is kept and what is written are the answer to the text of a scenario that is run, at a limit of steps
abbrev pub IsRunAnswer : Account → ℕ → List ℕ → RunStatus → Kept → List ℕ → Type 0
IsRunAnswer account limit bs Done (kept.Board b) text = IsRunOf account limit bs settled.Done b text
IsRunAnswer account limit bs Stalled (kept.Board b) text = IsRunOf account limit bs settled.Stalled b text
IsRunAnswer account limit bs Spent (kept.Board b) text = IsRunOf account limit bs settled.Spent b text
IsRunAnswer account limit bs (BadScenario line rule) kept.Nothing text = HasFault bs line rule × (text ≡ scenario_fault_line line rule)
IsRunAnswer account limit bs status k text = ⊥

-- the part of the input up to its line end is a scenario, and of its declarations and what stands behind it that is so
abbrev pub IsFoundIn : List ℕ → (List Decl → List ℕ → Type 0) → Type 0
IsFoundIn bs P = (ds : List Decl) × IsScenario (scenario_part bs) ds × P ds (journal_part bs)

-- they are the answer to a scenario with a journal behind it, which is checked, at a limit of steps
abbrev pub IsCheckAnswer : ℕ → List ℕ → RunStatus → Kept → List ℕ → Type 0
IsCheckAnswer limit bs (Checked how) (kept.Journal j) text = IsFoundIn bs (λ ds behind. IsYesOn ds behind limit how j.entries text)
IsCheckAnswer limit bs (NotLegal at point) (kept.Journal j) text = IsFoundIn bs (λ ds behind. IsNoOn ds behind at point j.entries text)
IsCheckAnswer limit bs (BadJournal line) kept.Nothing text = IsFoundIn bs (λ ds behind. IsNoJournal behind line text)
IsCheckAnswer limit bs (BadScenario line rule) kept.Nothing text = HasFault (scenario_part bs) line rule × (text ≡ scenario_fault_line line rule)
IsCheckAnswer limit bs status k text = ⊥

-- The text is a scenario. The journal is that of its run with few frames, to its end at the limit of steps, which is settled so; and
-- this is its report.
abbrev pub IsPagedRunOf : ℕ → List ℕ → Settled → List Entry → List ℕ → Type 0
IsPagedRunOf limit bs how j text = (ds : List Decl) × IsScenario bs ds × IsPagedRun ds limit j how text (Some (flat (erase j)).memory)

-- they are the answer to the text of a scenario that is run with few frames, at a limit of steps
abbrev pub IsPageAnswer : ℕ → List ℕ → RunStatus → Kept → List ℕ → Type 0
IsPageAnswer limit bs (Paged how) (kept.Journal j) text = IsPagedRunOf limit bs how j.entries text
IsPageAnswer limit bs (BadScenario line rule) kept.Nothing text = HasFault bs line rule × (text ≡ scenario_fault_line line rule)
IsPageAnswer limit bs status k text = ⊥

-- they are the answer to an input, by the mode
abbrev pub IsAnswerIn : Mode → Options → List ℕ → RunStatus → Kept → List ℕ → Type 0
IsAnswerIn Run o bs status k text = IsRunAnswer accounts.Report o.steps bs status k text
IsAnswerIn Journal o bs status k text = IsRunAnswer accounts.Journal o.steps bs status k text
IsAnswerIn Gen o bs status k text = IsRunAnswer (accounts.Summary o.seed) o.steps bs status k text
IsAnswerIn Check o bs status k text = IsCheckAnswer o.steps bs status k text
IsAnswerIn Page o bs status k text = IsPageAnswer o.steps bs status k text

abbrev pub IsAnswer : Options → List ℕ → RunStatus → Kept → List ℕ → Type 0
IsAnswer o bs status k text = IsAnswerIn o.mode o bs status k text

-- is the input read from the source?
abbrev pub reads_in : Mode → Bool
reads_in Run = true
reads_in Journal = true
reads_in Gen = false
reads_in Check = true
reads_in Page = true

-- do the words ask to read the source?
abbrev pub reads_source : Option Options → Bool
reads_source None = false
reads_source (Some o) = reads_in o.mode

-- where the input comes from: the source, which it empties and had no more bytes than an input may have; or the seed
abbrev pub ComesFrom : Mode → ℕ → Option (List ℕ) → Option (List ℕ) → List ℕ → Type 0
ComesFrom Run seed bytes left bs = IsWhole bytes left bs
ComesFrom Journal seed bytes left bs = IsWhole bytes left bs
ComesFrom Check seed bytes left bs = IsWhole bytes left bs
ComesFrom Page seed bytes left bs = IsWhole bytes left bs
ComesFrom Gen seed bytes left bs = Keeps bytes left × (bs ≡ generated seed)

-- This text is due by these options with this status, and this is kept, where the source had these bytes and has those
-- left.
abbrev pub IsDueBy : Options → Option (List ℕ) → Option (List ℕ) → RunStatus → Kept → List ℕ → Type 0
IsDueBy o bytes left TooLong kept.Nothing text =
    (reads_in o.mode ≡ true) × IsTooLong bytes left × (text ≡ too_long_line)
IsDueBy o bytes left status k text = (bs : List ℕ) × ComesFrom o.mode o.seed bytes left bs × IsAnswer o bs status k text

-- The same by words. Those that aren't taken are answered with the usage line.
abbrev pub IsDue : List (List ℕ) → Option (List ℕ) → Option (List ℕ) → RunStatus → Kept → List ℕ → Type 0
IsDue words bytes left Usage kept.Nothing text = (options words ≡ None) × Keeps bytes left × (text ≡ usage_line)
IsDue words bytes left status k text = (o : Options) × (options words ≡ Some o) × IsDueBy o bytes left status k text

-- the input is told
abbrev pub IsToldIn : Mode → ℕ → Option (List ℕ) → List ℕ → Type 0
IsToldIn Run seed bytes text = (bytes ≡ Some text) × (length text ≤ most_bytes)
IsToldIn Journal seed bytes text = (bytes ≡ Some text) × (length text ≤ most_bytes)
IsToldIn Check seed bytes text = (bytes ≡ Some text) × (length text ≤ most_bytes)
IsToldIn Page seed bytes text = (bytes ≡ Some text) × (length text ≤ most_bytes)
IsToldIn Gen seed bytes text = text ≡ generated seed

abbrev pub IsTold : Options → Option (List ℕ) → List ℕ → Type 0
IsTold o bytes text = IsToldIn o.mode o.seed bytes text

-- no fault of the source is in the way
abbrev pub IsFaultlessIn : Mode → Type 0 → Type 0
IsFaultlessIn Run risen = risen → ⊥
IsFaultlessIn Journal risen = risen → ⊥
IsFaultlessIn Gen risen = Unit {0}
IsFaultlessIn Check risen = risen → ⊥
IsFaultlessIn Page risen = risen → ⊥

abbrev pub IsFaultless : Options → Type 0 → Type 0
IsFaultless o risen = IsFaultlessIn o.mode risen

-- ---- facts for some answers alone

-- P where a text was written whole
abbrev pub OnWritten : RunStatus → Type 0 → Type 0
OnWritten ReadFault P = Unit {0}
OnWritten WriteFault P = Unit {0}
OnWritten NoMemory P = Unit {0}
OnWritten _ P = P

abbrev pub OnWriteFault : RunStatus → Type 0 → Type 0
OnWriteFault WriteFault P = P
OnWriteFault _ P = Unit {0}

abbrev pub OnReadFault : RunStatus → Type 0 → Type 0
OnReadFault ReadFault P = P
OnReadFault _ P = Unit {0}

-- P where no text was due
abbrev pub OnNothingDue : RunStatus → Type 0 → Type 0
OnNothingDue ReadFault P = P
OnNothingDue NoMemory P = P
OnNothingDue _ P = Unit {0}

abbrev pub UnlessReadFault : RunStatus → Type 0 → Type 0
UnlessReadFault ReadFault P = Unit {0}
UnlessReadFault _ P = P

abbrev pub UnlessWriteFault : RunStatus → Type 0 → Type 0
UnlessWriteFault WriteFault P = Unit {0}
UnlessWriteFault _ P = P

-- the run of a machine came to its end
abbrev pub IsRan : RunStatus → Type 0
IsRan Done = Unit {0}
IsRan Stalled = Unit {0}
IsRan Spent = Unit {0}
IsRan _ = ⊥

-- a run with few frames came to its end
abbrev pub IsPaged : RunStatus → Type 0
IsPaged (Paged how) = Unit {0}
IsPaged _ = ⊥

-- what is read as a scenario ran to its end, and any other text was answered by its first fault
abbrev pub ComesOut : Result (List Decl) ScenarioFault → RunStatus → Type 0
ComesOut (Ok ds) status = IsRan status
ComesOut (Err (faults.Bad line rule)) status = status ≡ BadScenario line rule
ComesOut (Err faults.NoMemory) status = ⊥

-- what stands behind the scenario was checked, or isn't a journal
abbrev pub IsFound : RunStatus → Type 0
IsFound (Checked how) = Unit {0}
IsFound (NotLegal at point) = Unit {0}
IsFound (BadJournal line) = Unit {0}
IsFound _ = ⊥

-- the same of a scenario with something behind it, which was checked
abbrev pub ComesOutOfCheck : Result (List Decl) ScenarioFault → RunStatus → Type 0
ComesOutOfCheck (Ok ds) status = IsFound status
ComesOutOfCheck (Err (faults.Bad line rule)) status = status ≡ BadScenario line rule
ComesOutOfCheck (Err faults.NoMemory) status = ⊥

-- the same of a scenario that was run with few frames
abbrev pub ComesOutOfPage : Result (List Decl) ScenarioFault → RunStatus → Type 0
ComesOutOfPage (Ok ds) status = IsPaged status
ComesOutOfPage (Err (faults.Bad line rule)) status = status ≡ BadScenario line rule
ComesOutOfPage (Err faults.NoMemory) status = ⊥

-- an input comes out by the mode
abbrev pub ComesOutIn : Mode → List ℕ → RunStatus → Type 0
ComesOutIn Run bs status = ComesOut (scenario bs) status
ComesOutIn Journal bs status = ComesOut (scenario bs) status
ComesOutIn Gen bs status = ComesOut (scenario bs) status
ComesOutIn Check bs status = ComesOutOfCheck (scenario (scenario_part bs)) status
ComesOutIn Page bs status = ComesOutOfPage (scenario bs) status

-- the same, or memory ran out
abbrev pub ComesOutOrNoMemory : Mode → List ℕ → RunStatus → Type 0
ComesOutOrNoMemory mode bs NoMemory = Unit {0}
ComesOutOrNoMemory mode bs status = ComesOutIn mode bs status

-- this is no first fault
abbrev pub IsNoFault : RunStatus → Type 0
IsNoFault (BadScenario line rule) = ⊥
IsNoFault _ = Unit {0}

-- a journal was found legal, and its run stands so; or memory ran out
abbrev pub IsLegalAt : Settled → RunStatus → Type 0
IsLegalAt how (Checked found) = found ≡ how
IsLegalAt how NoMemory = Unit {0}
IsLegalAt how _ = ⊥

-- the words were refused, but where the line that says so couldn't be written or made
abbrev pub IsRefusal : RunStatus → Type 0
IsRefusal Usage = Unit {0}
IsRefusal WriteFault = Unit {0}
IsRefusal NoMemory = Unit {0}
IsRefusal _ = ⊥
