-- How a run is answered, and what is due by words and by the bytes of a source.
use Rattle.std.proofs.Common.{◌≡◌, ℕ, true, List, Option, Some, None, Ok, Err, refl, sym, ap, ap₂, ◌∙◌, subst, ◌⊎◌, inl, inr}
use Rattle.std.proofs.lemmas.Option.{same_Some}
use Rattle.std.proofs.KnownBytes.{Keeps-refl}
use Rattle.due_text.specs.Inputs.{IsTooLong, IsWhole}
use Rattle.due_text.proofs.Inputs.{not_too_long, same_input}
use Rattle.flat_state.specs.declared.events.Decl.{Decl}
use Rattle.flat_state.specs.declared.records.Settled.{Settled}
use Rattle.flat_state.specs.declared.records.Settled.TheVariants as settled
use Rattle.flat_state.specs.Events.{flat}
use Rattle.flat_state.specs.Settling.{settled_of}
use Rattle.scenario_reader.specs.declared.fault.ScenarioFault.{ScenarioFault}
use Rattle.scenario_reader.specs.declared.fault.ScenarioFault.TheVariants as faults
use Rattle.scenario_reader.specs.Scenarios.{scenario}
use Rattle.run_journal.specs.declared.entries.Entry.{Entry}
use Rattle.run_journal.specs.Entries.{erase, steps_in}
use Rattle.run_words.specs.declared.options.Mode.{Mode}
use Rattle.run_words.specs.declared.options.Mode.TheVariants.{Run, Journal, Gen, Check, Page}
use Rattle.run_words.specs.declared.options.Options.{Options}
use Rattle.run_words.specs.Options.{options}
use Rattle.proc_run.specs.declared.outcome.Kept.{Kept}
use Rattle.proc_run.specs.declared.outcome.Kept.TheVariants as kept
use Rattle.proc_run.specs.declared.outcome.RunStatus.{RunStatus}
use Rattle.proc_run.specs.declared.outcome.RunStatus.TheVariants.{Done, Stalled, Spent, ReadFault, WriteFault, BadScenario, NoMemory, Usage, TooLong, Checked, NotLegal, BadJournal, Paged}
use Rattle.check_mode.specs.Answers.{HasLegalJournal}
use Rattle.check_mode.specs.Parts.{scenario_part}
use Rattle.check_mode.proofs.Answered.{yes_so, never_no, never_bad, never_faulty}
use Rattle.seed_scenarios.proofs.Seeded.{is_scenario}
use Rattle.board_opening.specs.cached_machine.specs.Cached.{state_of}
use Rattle.board_opening.specs.board_core.specs.Core.{Recorded}
use Rattle.board_opening.specs.cache_board.proofs.PastLaws.{shows_flat}
use Rattle.processors.specs.board_turns.specs.Looks.{settled_on}
use Rattle.proc_run.specs.Running.{IsRun}
use Rattle.proc_run.specs.declared.text.Account.{Account}
use Rattle.proc_run.specs.declared.text.Account.TheVariants as accounts
use Rattle.proc_run.specs.Texts.{text_of}
use Rattle.proc_run.specs.Outcomes.{IsScenario, HasFault, ComesOut, ComesOutOrNoMemory, ComesOutOfCheck, ComesOutOfPage, ComesOutIn, IsLegalAt, IsNoFault, IsRunOf, IsRunAnswer, IsCheckAnswer, IsPageAnswer, IsAnswerIn, IsAnswer, reads_in, ComesFrom, IsDueBy, IsDue, IsToldIn, IsTold, IsFaultlessIn, IsFaultless, reads_source, IsRefusal}
use Rattle.proc_run.specs.Dues.{status_of}
use Rattle.scenario_gen.specs.Generated.{text as generated}

-- ---- answers to the text of a scenario

two_faults : (line rule : ℕ) → faults.Bad line rule ≡ faults.NoMemory → ⊥
two_faults line rule e = cc

-- a fault that isn't want of memory is the first of the text
pub first_fault : (bs : List ℕ) (e : ScenarioFault) (line rule : ℕ) → e ≡ faults.Bad line rule → (e ≡ faults.NoMemory) ⊎ (scenario bs ≡ Err e) → HasFault bs line rule
first_fault bs e line rule is (inl none) = absurd (two_faults line rule (sym is ∙ none))
first_fault bs e line rule is (inr meant) = meant ∙ ap (λ (x : ScenarioFault). Err x) is

-- the board of a run to its end, and its text, are those that are due
run_of : (account : Account) (limit : ℕ) (ds : List Decl) (bs : List ℕ) (b : Recorded) (how : Settled) (text : List ℕ) → IsRun ds limit b → how ≡ settled_on b → text ≡ text_of account b.journal.entries (state_of b.machine) how b.steps → IsScenario bs ds → IsRunOf account limit bs how b text
run_of account limit ds bs b how text ran is written is_scenario =
    let state : state_of b.machine ≡ flat (erase b.journal.entries) = shows_flat b ran.sound in
    let steps : b.steps ≡ steps_in b.journal.entries = ran.sound.steps in
    record {
      decls = ds;
      is_scenario = is_scenario;
      rest = ran.rest;
      begins = ran.begins;
      legal = ran.sound.told.legal;
      sound = ran.sound;
      its_limit = ran.its_limit;
      settled_so = is ∙ (ap₂ (λ t n. settled_of t n b.limit) state steps ∙ ap (λ n. settled_of (flat (erase b.journal.entries)) (steps_in b.journal.entries) n) ran.its_limit);
      written = written ∙ ap₂ (λ t n. text_of account b.journal.entries t how n) state steps;
    }

pub run_is_answer : (account : Account) (limit : ℕ) (ds : List Decl) (bs : List ℕ) (b : Recorded) (how : Settled) (text : List ℕ) → IsRun ds limit b → how ≡ settled_on b → text ≡ text_of account b.journal.entries (state_of b.machine) how b.steps → IsScenario bs ds → IsRunAnswer account limit bs (status_of how) (kept.Board b) text
run_is_answer account limit ds bs b settled.Done text ran is written is_scenario = run_of account limit ds bs b settled.Done text ran is written is_scenario
run_is_answer account limit ds bs b settled.Stalled text ran is written is_scenario = run_of account limit ds bs b settled.Stalled text ran is written is_scenario
run_is_answer account limit ds bs b settled.Spent text ran is written is_scenario = run_of account limit ds bs b settled.Spent text ran is written is_scenario
run_is_answer account limit ds bs b settled.Running text ran is written is_scenario = absurd (ran.over (sym is))

-- a scenario runs to its end, and any other text is answered by its first fault
comes_out_of_run : (account : Account) (limit : ℕ) (bs : List ℕ) (status : RunStatus) (k : Kept) (text : List ℕ) → IsRunAnswer account limit bs status k text → ComesOut (scenario bs) status
comes_out_of_run account limit bs Done (kept.Board b) text answer = rw answer.is_scenario tt
comes_out_of_run account limit bs Done (kept.Journal j) text answer = absurd answer
comes_out_of_run account limit bs Done kept.Nothing text answer = absurd answer
comes_out_of_run account limit bs Stalled (kept.Board b) text answer = rw answer.is_scenario tt
comes_out_of_run account limit bs Stalled (kept.Journal j) text answer = absurd answer
comes_out_of_run account limit bs Stalled kept.Nothing text answer = absurd answer
comes_out_of_run account limit bs Spent (kept.Board b) text answer = rw answer.is_scenario tt
comes_out_of_run account limit bs Spent (kept.Journal j) text answer = absurd answer
comes_out_of_run account limit bs Spent kept.Nothing text answer = absurd answer
comes_out_of_run account limit bs ReadFault k text answer = absurd answer
comes_out_of_run account limit bs WriteFault k text answer = absurd answer
comes_out_of_run account limit bs (BadScenario line rule) kept.Nothing text answer = rw answer.0 refl
comes_out_of_run account limit bs (BadScenario line rule) (kept.Journal j) text answer = absurd answer
comes_out_of_run account limit bs (BadScenario line rule) (kept.Board b) text answer = absurd answer
comes_out_of_run account limit bs NoMemory k text answer = absurd answer
comes_out_of_run account limit bs Usage k text answer = absurd answer
comes_out_of_run account limit bs TooLong k text answer = absurd answer
comes_out_of_run account limit bs (Checked how) k text answer = absurd answer
comes_out_of_run account limit bs (NotLegal at point) k text answer = absurd answer
comes_out_of_run account limit bs (BadJournal line) k text answer = absurd answer
comes_out_of_run account limit bs (Paged how) k text answer = absurd answer

-- what stands behind a scenario is checked, and any other first part is answered by its first fault
comes_out_of_check : (limit : ℕ) (bs : List ℕ) (status : RunStatus) (k : Kept) (text : List ℕ) → IsCheckAnswer limit bs status k text → ComesOutOfCheck (scenario (scenario_part bs)) status
comes_out_of_check limit bs Done k text answer = absurd answer
comes_out_of_check limit bs Stalled k text answer = absurd answer
comes_out_of_check limit bs Spent k text answer = absurd answer
comes_out_of_check limit bs ReadFault k text answer = absurd answer
comes_out_of_check limit bs WriteFault k text answer = absurd answer
comes_out_of_check limit bs (BadScenario line rule) kept.Nothing text answer = rw answer.0 refl
comes_out_of_check limit bs (BadScenario line rule) (kept.Journal j) text answer = absurd answer
comes_out_of_check limit bs (BadScenario line rule) (kept.Board b) text answer = absurd answer
comes_out_of_check limit bs NoMemory k text answer = absurd answer
comes_out_of_check limit bs Usage k text answer = absurd answer
comes_out_of_check limit bs TooLong k text answer = absurd answer
comes_out_of_check limit bs (Checked how) (kept.Journal j) text answer = rw answer.1 tt
comes_out_of_check limit bs (Checked how) kept.Nothing text answer = absurd answer
comes_out_of_check limit bs (Checked how) (kept.Board b) text answer = absurd answer
comes_out_of_check limit bs (NotLegal at point) (kept.Journal j) text answer = rw answer.1 tt
comes_out_of_check limit bs (NotLegal at point) kept.Nothing text answer = absurd answer
comes_out_of_check limit bs (NotLegal at point) (kept.Board b) text answer = absurd answer
comes_out_of_check limit bs (BadJournal line) kept.Nothing text answer = rw answer.1 tt
comes_out_of_check limit bs (Paged how) k text answer = absurd answer
comes_out_of_check limit bs (BadJournal line) (kept.Journal j) text answer = absurd answer
comes_out_of_check limit bs (BadJournal line) (kept.Board b) text answer = absurd answer

-- a scenario runs to its end with few frames, and any other text is answered by its first fault
comes_out_of_page : (limit : ℕ) (bs : List ℕ) (status : RunStatus) (k : Kept) (text : List ℕ) → IsPageAnswer limit bs status k text → ComesOutOfPage (scenario bs) status
comes_out_of_page limit bs Done k text answer = absurd answer
comes_out_of_page limit bs Stalled k text answer = absurd answer
comes_out_of_page limit bs Spent k text answer = absurd answer
comes_out_of_page limit bs ReadFault k text answer = absurd answer
comes_out_of_page limit bs WriteFault k text answer = absurd answer
comes_out_of_page limit bs (BadScenario line rule) kept.Nothing text answer = rw answer.0 refl
comes_out_of_page limit bs (BadScenario line rule) (kept.Journal j) text answer = absurd answer
comes_out_of_page limit bs (BadScenario line rule) (kept.Board b) text answer = absurd answer
comes_out_of_page limit bs NoMemory k text answer = absurd answer
comes_out_of_page limit bs Usage k text answer = absurd answer
comes_out_of_page limit bs TooLong k text answer = absurd answer
comes_out_of_page limit bs (Checked how) k text answer = absurd answer
comes_out_of_page limit bs (NotLegal at point) k text answer = absurd answer
comes_out_of_page limit bs (BadJournal line) k text answer = absurd answer
comes_out_of_page limit bs (Paged how) (kept.Journal j) text answer = rw answer.1 tt
comes_out_of_page limit bs (Paged how) kept.Nothing text answer = absurd answer
comes_out_of_page limit bs (Paged how) (kept.Board b) text answer = absurd answer

-- a legal journal is found legal
legal_answer : (limit : ℕ) (bs : List ℕ) (status : RunStatus) (k : Kept) (text : List ℕ) (ds : List Decl) (j : List Entry) → HasLegalJournal bs ds j → IsCheckAnswer limit bs status k text
    → IsLegalAt (settled_of (flat (erase j)) (steps_in j) limit) status
legal_answer limit bs Done k text ds j has answer = absurd answer
legal_answer limit bs Stalled k text ds j has answer = absurd answer
legal_answer limit bs Spent k text ds j has answer = absurd answer
legal_answer limit bs ReadFault k text ds j has answer = absurd answer
legal_answer limit bs WriteFault k text ds j has answer = absurd answer
legal_answer limit bs (BadScenario line rule) kept.Nothing text ds j has answer = absurd (never_faulty bs ds j line rule has answer.0)
legal_answer limit bs (BadScenario line rule) (kept.Journal i) text ds j has answer = absurd answer
legal_answer limit bs (BadScenario line rule) (kept.Board b) text ds j has answer = absurd answer
legal_answer limit bs NoMemory k text ds j has answer = tt
legal_answer limit bs Usage k text ds j has answer = absurd answer
legal_answer limit bs TooLong k text ds j has answer = absurd answer
legal_answer limit bs (Checked how) (kept.Journal i) text ds j has answer = yes_so bs ds answer.0 j i.entries limit how text has answer.2
legal_answer limit bs (Checked how) kept.Nothing text ds j has answer = absurd answer
legal_answer limit bs (Checked how) (kept.Board b) text ds j has answer = absurd answer
legal_answer limit bs (NotLegal at point) (kept.Journal i) text ds j has answer = absurd (never_no bs ds answer.0 j i.entries at point text has answer.1 answer.2)
legal_answer limit bs (NotLegal at point) kept.Nothing text ds j has answer = absurd answer
legal_answer limit bs (NotLegal at point) (kept.Board b) text ds j has answer = absurd answer
legal_answer limit bs (BadJournal line) kept.Nothing text ds j has answer = absurd (never_bad bs ds j line text has answer.2)
legal_answer limit bs (Paged how) k text ds j has answer = absurd answer
legal_answer limit bs (BadJournal line) (kept.Journal i) text ds j has answer = absurd answer
legal_answer limit bs (BadJournal line) (kept.Board b) text ds j has answer = absurd answer

comes_out : (mode : Mode) (o : Options) (bs : List ℕ) (status : RunStatus) (k : Kept) (text : List ℕ) → IsAnswerIn mode o bs status k text → ComesOutIn mode bs status
comes_out Run o bs status k text answer = comes_out_of_run accounts.Report o.steps bs status k text answer
comes_out Journal o bs status k text answer = comes_out_of_run accounts.Journal o.steps bs status k text answer
comes_out Gen o bs status k text answer = comes_out_of_run (accounts.Summary o.seed) o.steps bs status k text answer
comes_out Check o bs status k text answer = comes_out_of_check o.steps bs status k text answer
comes_out Page o bs status k text answer = comes_out_of_page o.steps bs status k text answer

never_usage : (mode : Mode) (o : Options) (bs : List ℕ) (k : Kept) (text : List ℕ) → IsAnswerIn mode o bs Usage k text → ⊥
never_usage Run o bs k text answer = answer
never_usage Journal o bs k text answer = answer
never_usage Gen o bs k text answer = answer
never_usage Check o bs k text answer = answer
never_usage Page o bs k text answer = answer

never_long : (mode : Mode) (o : Options) (bs : List ℕ) (k : Kept) (text : List ℕ) → IsAnswerIn mode o bs TooLong k text → ⊥
never_long Run o bs k text answer = answer
never_long Journal o bs k text answer = answer
never_long Gen o bs k text answer = answer
never_long Check o bs k text answer = answer
never_long Page o bs k text answer = answer

-- ---- what is due by options

pub by_text : (o : Options) (bytes left : Option (List ℕ)) (bs : List ℕ) (status : RunStatus) (k : Kept) (text : List ℕ) → ComesFrom o.mode o.seed bytes left bs → IsAnswer o bs status k text → IsDueBy o bytes left status k text
by_text o bytes left bs Done k text from answer = (bs, from, answer)
by_text o bytes left bs Stalled k text from answer = (bs, from, answer)
by_text o bytes left bs Spent k text from answer = (bs, from, answer)
by_text o bytes left bs ReadFault k text from answer = (bs, from, answer)
by_text o bytes left bs WriteFault k text from answer = (bs, from, answer)
by_text o bytes left bs (BadScenario line rule) k text from answer = (bs, from, answer)
by_text o bytes left bs NoMemory k text from answer = (bs, from, answer)
by_text o bytes left bs Usage k text from answer = (bs, from, answer)
by_text o bytes left bs TooLong k text from answer = absurd (never_long o.mode o bs k text answer)
by_text o bytes left bs (Checked how) k text from answer = (bs, from, answer)
by_text o bytes left bs (NotLegal at point) k text from answer = (bs, from, answer)
by_text o bytes left bs (BadJournal line) k text from answer = (bs, from, answer)
by_text o bytes left bs (Paged how) k text from answer = (bs, from, answer)

-- the bytes that were read to the end of the source
pub from_source : (mode : Mode) (seed : ℕ) (bytes left : Option (List ℕ)) (bs : List ℕ) → reads_in mode ≡ true → IsWhole bytes left bs → ComesFrom mode seed bytes left bs
from_source Run seed bytes left bs reads whole = whole
from_source Journal seed bytes left bs reads whole = whole
from_source Check seed bytes left bs reads whole = whole
from_source Page seed bytes left bs reads whole = whole
from_source Gen seed bytes left bs reads whole = absurd cc

-- the text that was made from the seed
pub from_seed : (mode : Mode) (seed : ℕ) (bytes : Option (List ℕ)) (bs : List ℕ) → mode ≡ Gen → bs ≡ generated seed → ComesFrom mode seed bytes bytes bs
from_seed mode seed bytes bs is made = subst (λ (m : Mode). ComesFrom m seed bytes bytes bs) (sym is) (Keeps-refl bytes, made)

pub same_text : (mode : Mode) (seed : ℕ) (bytes left : Option (List ℕ)) (bs told : List ℕ) → IsToldIn mode seed bytes told → ComesFrom mode seed bytes left bs → bs ≡ told
same_text Run seed bytes left bs told is from = same_input bytes left bs told is.0 from
same_text Journal seed bytes left bs told is from = same_input bytes left bs told is.0 from
same_text Check seed bytes left bs told is from = same_input bytes left bs told is.0 from
same_text Page seed bytes left bs told is from = same_input bytes left bs told is.0 from
same_text Gen seed bytes left bs told is from = from.1 ∙ sym is

-- a text that is told isn't too long
pub never_too_long : (mode : Mode) (seed : ℕ) (bytes left : Option (List ℕ)) (told : List ℕ) → IsToldIn mode seed bytes told → reads_in mode ≡ true → IsTooLong bytes left → ⊥
never_too_long Run seed bytes left told is reads long = not_too_long bytes left told is.0 is.1 long
never_too_long Journal seed bytes left told is reads long = not_too_long bytes left told is.0 is.1 long
never_too_long Check seed bytes left told is reads long = not_too_long bytes left told is.0 is.1 long
never_too_long Page seed bytes left told is reads long = not_too_long bytes left told is.0 is.1 long
never_too_long Gen seed bytes left told is reads long = absurd cc

-- the input was too long, or it is answered
pub due_parts : (o : Options) (bytes left : Option (List ℕ)) (status : RunStatus) (k : Kept) (text : List ℕ) → IsDueBy o bytes left status k text
    → ((reads_in o.mode ≡ true) × IsTooLong bytes left) ⊎ ((bs : List ℕ) × ComesFrom o.mode o.seed bytes left bs × IsAnswer o bs status k text)
due_parts o bytes left Done k text due = inr due
due_parts o bytes left Stalled k text due = inr due
due_parts o bytes left Spent k text due = inr due
due_parts o bytes left ReadFault k text due = inr due
due_parts o bytes left WriteFault k text due = inr due
due_parts o bytes left (BadScenario line rule) k text due = inr due
due_parts o bytes left NoMemory k text due = inr due
due_parts o bytes left Usage k text due = inr due
due_parts o bytes left TooLong kept.Nothing text due = inl (due.0, due.1)
due_parts o bytes left TooLong (kept.Journal j) text due = inr due
due_parts o bytes left TooLong (kept.Board b) text due = inr due
due_parts o bytes left (Checked how) k text due = inr due
due_parts o bytes left (NotLegal at point) k text due = inr due
due_parts o bytes left (BadJournal line) k text due = inr due
due_parts o bytes left (Paged how) k text due = inr due

complete_by : (o : Options) (bytes left : Option (List ℕ)) (status : RunStatus) (k : Kept) (text told : List ℕ) → IsTold o bytes told → IsDueBy o bytes left status k text → ComesOutIn o.mode told status
complete_by o bytes left status k text told is due =
    elim (due_parts o bytes left status k text due) [
      | inl long ↦ absurd (never_too_long o.mode o.seed bytes left told is long.0 long.1)
      | inr h ↦ subst (λ (bs : List ℕ). ComesOutIn o.mode bs status) (same_text o.mode o.seed bytes left h.0 told is h.1) (comes_out o.mode o h.0 status k text h.2)
    ]

legal_by : (o : Options) (bytes left : Option (List ℕ)) (status : RunStatus) (k : Kept) (text told : List ℕ) (ds : List Decl) (j : List Entry) → o.mode ≡ Check → IsTold o bytes told → HasLegalJournal told ds j → IsDueBy o bytes left status k text
    → IsLegalAt (settled_of (flat (erase j)) (steps_in j) o.steps) status
legal_by o bytes left status k text told ds j checks is has due =
    elim (due_parts o bytes left status k text due) [
      | inl long ↦ absurd (never_too_long o.mode o.seed bytes left told is long.0 long.1)
      | inr h ↦
          let answer : IsCheckAnswer o.steps h.0 status k text = subst (λ (m : Mode). IsAnswerIn m o h.0 status k text) checks h.2 in
          let here : HasLegalJournal h.0 ds j = subst (λ (bs : List ℕ). HasLegalJournal bs ds j) (sym (same_text o.mode o.seed bytes left h.0 told is h.1)) has in
          legal_answer o.steps h.0 status k text ds j here answer
    ]

-- ---- what is due by words

pub by_words : (words : List (List ℕ)) (o : Options) (bytes left : Option (List ℕ)) (status : RunStatus) (k : Kept) (text : List ℕ) → options words ≡ Some o → IsDueBy o bytes left status k text → IsDue words bytes left status k text
by_words words o bytes left Done k text taken due = (o, taken, due)
by_words words o bytes left Stalled k text taken due = (o, taken, due)
by_words words o bytes left Spent k text taken due = (o, taken, due)
by_words words o bytes left ReadFault k text taken due = (o, taken, due)
by_words words o bytes left WriteFault k text taken due = (o, taken, due)
by_words words o bytes left (BadScenario line rule) k text taken due = (o, taken, due)
by_words words o bytes left NoMemory k text taken due = (o, taken, due)
by_words words o bytes left Usage k text taken due = absurd (never_usage o.mode o due.0 k text due.2)
by_words words o bytes left TooLong k text taken due = (o, taken, due)
by_words words o bytes left (Checked how) k text taken due = (o, taken, due)
by_words words o bytes left (NotLegal at point) k text taken due = (o, taken, due)
by_words words o bytes left (BadJournal line) k text taken due = (o, taken, due)
by_words words o bytes left (Paged how) k text taken due = (o, taken, due)

taken_or_not : (words : List (List ℕ)) (o : Options) (P : Type 0) → options words ≡ None → options words ≡ Some o → P
taken_or_not words o P none some = none_is_some (sym none ∙ some)
  where
    none_is_some : None ≡ Some o → P
    none_is_some e = cc

-- words that aren't taken are refused
pub refused_so : (words : List (List ℕ)) (bytes left : Option (List ℕ)) (status : RunStatus) (k : Kept) (text : List ℕ) → options words ≡ None → IsDue words bytes left status k text → IsRefusal status
refused_so words bytes left Done k text none due = taken_or_not words due.0 _ none due.1
refused_so words bytes left Stalled k text none due = taken_or_not words due.0 _ none due.1
refused_so words bytes left Spent k text none due = taken_or_not words due.0 _ none due.1
refused_so words bytes left ReadFault k text none due = taken_or_not words due.0 _ none due.1
refused_so words bytes left WriteFault k text none due = tt
refused_so words bytes left (BadScenario line rule) k text none due = taken_or_not words due.0 _ none due.1
refused_so words bytes left NoMemory k text none due = tt
refused_so words bytes left Usage k text none due = tt
refused_so words bytes left TooLong k text none due = taken_or_not words due.0 _ none due.1
refused_so words bytes left (Checked how) k text none due = taken_or_not words due.0 _ none due.1
refused_so words bytes left (NotLegal at point) k text none due = taken_or_not words due.0 _ none due.1
refused_so words bytes left (BadJournal line) k text none due = taken_or_not words due.0 _ none due.1
refused_so words bytes left (Paged how) k text none due = taken_or_not words due.0 _ none due.1

-- the words weren't taken, or it is due by what they ask for
words_parts : (words : List (List ℕ)) (bytes left : Option (List ℕ)) (status : RunStatus) (k : Kept) (text : List ℕ) → IsDue words bytes left status k text
    → (options words ≡ None) ⊎ ((o : Options) × (options words ≡ Some o) × IsDueBy o bytes left status k text)
words_parts words bytes left Done k text due = inr due
words_parts words bytes left Stalled k text due = inr due
words_parts words bytes left Spent k text due = inr due
words_parts words bytes left ReadFault k text due = inr due
words_parts words bytes left WriteFault k text due = inr due
words_parts words bytes left (BadScenario line rule) k text due = inr due
words_parts words bytes left NoMemory k text due = inr due
words_parts words bytes left Usage kept.Nothing text due = inl due.0
words_parts words bytes left Usage (kept.Journal j) text due = inr due
words_parts words bytes left Usage (kept.Board b) text due = inr due
words_parts words bytes left TooLong k text due = inr due
words_parts words bytes left (Checked how) k text due = inr due
words_parts words bytes left (NotLegal at point) k text due = inr due
words_parts words bytes left (BadJournal line) k text due = inr due
words_parts words bytes left (Paged how) k text due = inr due

-- by the options that the words are known to ask for
pub due_by_these : (words : List (List ℕ)) (o : Options) (bytes left : Option (List ℕ)) (status : RunStatus) (k : Kept) (text : List ℕ) → options words ≡ Some o → IsDue words bytes left status k text → IsDueBy o bytes left status k text
due_by_these words o bytes left status k text taken due =
    elim (words_parts words bytes left status k text due) [
      | inl none ↦ taken_or_not words o _ none taken
      | inr h ↦ subst (λ (p : Options). IsDueBy p bytes left status k text) (same_Some h.0 o (sym h.1 ∙ taken)) h.2
    ]

or_no_memory : (mode : Mode) (bs : List ℕ) (status : RunStatus) → ComesOutIn mode bs status → ComesOutOrNoMemory mode bs status
or_no_memory mode bs Done out = out
or_no_memory mode bs Stalled out = out
or_no_memory mode bs Spent out = out
or_no_memory mode bs ReadFault out = out
or_no_memory mode bs WriteFault out = out
or_no_memory mode bs (BadScenario line rule) out = out
or_no_memory mode bs NoMemory out = tt
or_no_memory mode bs Usage out = out
or_no_memory mode bs TooLong out = out
or_no_memory mode bs (Checked how) out = out
or_no_memory mode bs (NotLegal at point) out = out
or_no_memory mode bs (BadJournal line) out = out
or_no_memory mode bs (Paged how) out = out

-- what is due where no end fails
pub completes : (words : List (List ℕ)) (o : Options) (bytes left : Option (List ℕ)) (status : RunStatus) (k : Kept) (text told : List ℕ) → options words ≡ Some o → IsTold o bytes told → IsDue words bytes left status k text → ComesOutOrNoMemory o.mode told status
completes words o bytes left status k text told taken is due = or_no_memory o.mode told status (complete_by o bytes left status k text told is (due_by_these words o bytes left status k text taken due))

pub legal_so : (words : List (List ℕ)) (o : Options) (bytes left : Option (List ℕ)) (status : RunStatus) (k : Kept) (text told : List ℕ) (ds : List Decl) (j : List Entry) → options words ≡ Some o → o.mode ≡ Check → IsTold o bytes told → HasLegalJournal told ds j
    → IsDue words bytes left status k text → IsLegalAt (settled_of (flat (erase j)) (steps_in j) o.steps) status
legal_so words o bytes left status k text told ds j taken checks is has due =
    legal_by o bytes left status k text told ds j checks is has (due_by_these words o bytes left status k text taken due)

faulty_in : (mode : Mode) (P : Type 0) → reads_in mode ≡ true → IsFaultlessIn mode P → P → ⊥
faulty_in Run P reads faultless risen = faultless risen
faulty_in Journal P reads faultless risen = faultless risen
faulty_in Check P reads faultless risen = faultless risen
faulty_in Page P reads faultless risen = faultless risen
faulty_in Gen P reads faultless risen = absurd cc

-- a source that is read and fails is in the way
pub faulty : (words : List (List ℕ)) (o : Options) (P : Type 0) → options words ≡ Some o → reads_source (options words) ≡ true → IsFaultless o P → P → ⊥
faulty words o P taken reads faultless risen = faulty_in o.mode P (sym (ap reads_source taken) ∙ reads) faultless risen

-- ---- the text of a seed

no_fault_in : (mode : Mode) (o : Options) (seed : ℕ) (bytes left : Option (List ℕ)) (bs : List ℕ) (line rule : ℕ) (text : List ℕ) → mode ≡ Gen → ComesFrom mode seed bytes left bs
    → IsAnswerIn mode o bs (BadScenario line rule) kept.Nothing text → ⊥
no_fault_in Run o seed bytes left bs line rule text gen comes answer = absurd cc
no_fault_in Journal o seed bytes left bs line rule text gen comes answer = absurd cc
no_fault_in Check o seed bytes left bs line rule text gen comes answer = absurd cc
no_fault_in Page o seed bytes left bs line rule text gen comes answer = absurd cc
no_fault_in Gen o seed bytes left bs line rule text gen comes answer =
    let made = is_scenario seed in
    let both : Ok made.0 ≡ Err (faults.Bad line rule) = sym made.2 ∙ (ap scenario (sym comes.1) ∙ answer.0) in
    cc

-- with a first fault nothing is kept
only_nothing : (mode : Mode) (o : Options) (bs : List ℕ) (line rule : ℕ) (k : Kept) (text : List ℕ) → (k ≡ kept.Nothing → ⊥) → IsAnswerIn mode o bs (BadScenario line rule) k text → ⊥
only_nothing mode o bs line rule kept.Nothing text some answer = some refl
only_nothing Run o bs line rule (kept.Journal j) text some answer = answer
only_nothing Journal o bs line rule (kept.Journal j) text some answer = answer
only_nothing Gen o bs line rule (kept.Journal j) text some answer = answer
only_nothing Check o bs line rule (kept.Journal j) text some answer = answer
only_nothing Page o bs line rule (kept.Journal j) text some answer = answer
only_nothing Run o bs line rule (kept.Board b) text some answer = answer
only_nothing Journal o bs line rule (kept.Board b) text some answer = answer
only_nothing Gen o bs line rule (kept.Board b) text some answer = answer
only_nothing Check o bs line rule (kept.Board b) text some answer = answer
only_nothing Page o bs line rule (kept.Board b) text some answer = answer

pub no_fault : (words : List (List ℕ)) (o : Options) (bytes left : Option (List ℕ)) (status : RunStatus) (k : Kept) (text : List ℕ) → options words ≡ Some o → o.mode ≡ Gen
    → IsDue words bytes left status k text → IsNoFault status
no_fault words o bytes left Done k text taken gen due = tt
no_fault words o bytes left Stalled k text taken gen due = tt
no_fault words o bytes left Spent k text taken gen due = tt
no_fault words o bytes left ReadFault k text taken gen due = tt
no_fault words o bytes left WriteFault k text taken gen due = tt
no_fault words o bytes left NoMemory k text taken gen due = tt
no_fault words o bytes left Usage k text taken gen due = tt
no_fault words o bytes left TooLong k text taken gen due = tt
no_fault words o bytes left (Checked how) k text taken gen due = tt
no_fault words o bytes left (NotLegal at point) k text taken gen due = tt
no_fault words o bytes left (BadJournal line) k text taken gen due = tt
no_fault words o bytes left (Paged how) k text taken gen due = tt
no_fault words o bytes left (BadScenario line rule) k text taken gen (p, is, (bs, comes, answer)) = absurd (by k answer)
  where
    mode : p.mode ≡ Gen
    mode = ap (λ (q : Options). q.mode) (same_Some p o (sym is ∙ taken)) ∙ gen

    by : (k : Kept) → IsAnswerIn p.mode p bs (BadScenario line rule) k text → ⊥
    by kept.Nothing answer = no_fault_in p.mode p p.seed bytes left bs line rule text mode comes answer
    by (kept.Journal j) answer = only_nothing p.mode p bs line rule (kept.Journal j) text (λ e. cc) answer
    by (kept.Board b) answer = only_nothing p.mode p bs line rule (kept.Board b) text (λ e. cc) answer
