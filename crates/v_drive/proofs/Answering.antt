-- What is due for an input, by what its lines made.
use Rattle.std.proofs.Common.{◌≡◌, ℕ, ◌+◌, ◌≤◌, List, length, take, drop, length-append, Option, Some, None, Result, Ok, Err, refl, sym, ap, subst, ◌∙◌, ◌⊎◌, inl, inr, arith}
use Rattle.std.proofs.lemmas.List.{take-append-drop}
use Rattle.text_fields.specs.Lines.{is_feed, pieces}
use Rattle.flat_state.specs.declared.events.Decl.{Decl}
use Rattle.scenario_reader.specs.declared.fault.ScenarioFault.{ScenarioFault}
use Rattle.scenario_reader.specs.declared.fault.ScenarioFault.TheVariants as faults
use Rattle.scenario_reader.specs.Openings.{opening}
use Rattle.check_mode.specs.Parts.{bytes_to_end, journal_part, scenario_part}
use Rattle.run_words.specs.Options.{steps_allowed}
use Rattle.cache_board.specs.board_core.specs.Core.{Recorded}
use Rattle.cache_board.specs.Desks.{Desktop, IsClear}
use Rattle.v_drive.specs.declared.endings.Ending.{Ending}
use Rattle.v_drive.specs.declared.endings.Ending.TheVariants.{Done, ReadFault, WriteFault, BadScenario, BadOperation, NoMemory, Usage, TooLong}
use Rattle.due_text.specs.Inputs.{IsWhole, IsTooLong, most_bytes}
use Rattle.due_text.proofs.Inputs.{not_too_long, same_input}
use Rattle.board_opening.specs.Openings.{IsBoardOf}
use Rattle.v_drive.specs.Lines.{IsTaken}
use Rattle.v_drive.specs.Endings.{ComesOut, ComesOutOrNoMemory, IsAnswer, IsDriven, IsDue, IsDueBy, IsEnded, IsRefusal, first_number}

-- ---- the answer

by_end : (limit : ℕ) (input : List ℕ) (fault : Option ℕ) (done : List ℕ) (ending : Ending) (text : List ℕ) → IsDriven limit input fault done → IsEnded fault done ending text → IsAnswer limit input ending text
by_end limit input None done ending text driven ended =
    subst (λ (e : Ending). IsAnswer limit input e text) (sym ended.0) (subst (λ (t : List ℕ). IsDriven limit input None t) (sym ended.1) driven)
by_end limit input (Some line) done ending text driven ended = subst (λ (e : Ending). IsAnswer limit input e text) (sym ended.0) (done, driven, ended.1)

pub answered : (limit number : ℕ) (input bytes : List ℕ) (ds : List Decl) (fault : Option ℕ) (done : List ℕ) (ending : Ending) (text : List ℕ) (board last : Recorded) (desk laid : Desktop)
    → opening (scenario_part input) ≡ Ok ds → journal_part input ≡ bytes → first_number input ≡ number → IsBoardOf ds limit board → IsClear desk
    → IsTaken bytes number fault board desk done last laid → IsEnded fault done ending text → IsAnswer limit input ending text
answered limit number input bytes ds fault done ending text board last desk laid is_opening behind first made clear taken ended =
    by_end limit input fault done ending text (record {
      decls = ds;
      is_opening = is_opening;
      board = board;
      made = made;
      desk = desk;
      clear = clear;
      last = last;
      laid = laid;
      taken = subst (λ (b : List ℕ). IsTaken b (first_number input) fault board desk done last laid) (sym behind) (subst (λ (n : ℕ). IsTaken bytes n fault board desk done last laid) (sym first) taken);
    }) ended

pub first_fault : (input : List ℕ) (e : ScenarioFault) (line rule : ℕ) → e ≡ faults.Bad line rule → (e ≡ faults.NoMemory) ⊎ (opening input ≡ Err e) → opening input ≡ Err (faults.Bad line rule)
first_fault input e line rule is (inl none) = absurd (two (sym is ∙ none))
  where
    two : faults.Bad line rule ≡ faults.NoMemory → ⊥
    two both = cc
first_fault input e line rule is (inr meant) = meant ∙ ap (λ (x : ScenarioFault). Err x) is

-- ---- what is due

pub by_input : (limit : ℕ) (bytes left : Option (List ℕ)) (input : List ℕ) (ending : Ending) (text : List ℕ) → IsWhole bytes left input → IsAnswer limit input ending text → IsDueBy limit bytes left ending text
by_input limit bytes left input Done text from answer = (input, from, answer)
by_input limit bytes left input ReadFault text from answer = absurd answer
by_input limit bytes left input WriteFault text from answer = absurd answer
by_input limit bytes left input (BadScenario line rule) text from answer = (input, from, answer)
by_input limit bytes left input (BadOperation line) text from answer = (input, from, answer)
by_input limit bytes left input NoMemory text from answer = absurd answer
by_input limit bytes left input Usage text from answer = absurd answer
by_input limit bytes left input TooLong text from answer = absurd answer

pub by_words : (words : List (List ℕ)) (limit : ℕ) (bytes left : Option (List ℕ)) (ending : Ending) (text : List ℕ) → steps_allowed words ≡ Some limit → IsDueBy limit bytes left ending text → IsDue words bytes left ending text
by_words words limit bytes left Done text taken due = (limit, taken, due)
by_words words limit bytes left ReadFault text taken due = (limit, taken, due)
by_words words limit bytes left WriteFault text taken due = (limit, taken, due)
by_words words limit bytes left (BadScenario line rule) text taken due = (limit, taken, due)
by_words words limit bytes left (BadOperation line) text taken due = (limit, taken, due)
by_words words limit bytes left NoMemory text taken due = (limit, taken, due)
by_words words limit bytes left Usage text taken due = absurd due.2
by_words words limit bytes left TooLong text taken due = (limit, taken, due)

taken_or_not : (words : List (List ℕ)) (limit : ℕ) (P : Type 0) → steps_allowed words ≡ None → steps_allowed words ≡ Some limit → P
taken_or_not words limit P none some = both (sym none ∙ some)
  where
    both : None ≡ Some limit → P
    both e = cc

-- words that aren't taken are refused
pub refused_so : (words : List (List ℕ)) (bytes left : Option (List ℕ)) (ending : Ending) (text : List ℕ) → steps_allowed words ≡ None → IsDue words bytes left ending text → IsRefusal ending
refused_so words bytes left Done text none due = taken_or_not words due.0 _ none due.1
refused_so words bytes left ReadFault text none due = taken_or_not words due.0 _ none due.1
refused_so words bytes left WriteFault text none due = tt
refused_so words bytes left (BadScenario line rule) text none due = taken_or_not words due.0 _ none due.1
refused_so words bytes left (BadOperation line) text none due = taken_or_not words due.0 _ none due.1
refused_so words bytes left NoMemory text none due = tt
refused_so words bytes left Usage text none due = tt
refused_so words bytes left TooLong text none due = taken_or_not words due.0 _ none due.1

-- taken words have no refusal
pub is_taken : (words : List (List ℕ)) (limit : ℕ) → steps_allowed words ≡ Some limit → steps_allowed words ≡ None → ⊥
is_taken words limit some none = taken_or_not words limit ⊥ none some

-- ---- what comes out

comes_out : (limit : ℕ) (input : List ℕ) (ending : Ending) (text : List ℕ) → IsAnswer limit input ending text → ComesOut (opening (scenario_part input)) ending
comes_out limit input Done text answer = rw answer.is_opening tt
comes_out limit input ReadFault text answer = absurd answer
comes_out limit input WriteFault text answer = absurd answer
comes_out limit input (BadScenario line rule) text answer = rw answer.0 refl
comes_out limit input (BadOperation line) text answer = rw answer.1.is_opening tt
comes_out limit input NoMemory text answer = absurd answer
comes_out limit input Usage text answer = absurd answer
comes_out limit input TooLong text answer = absurd answer

answer_parts : (limit : ℕ) (bytes left : Option (List ℕ)) (ending : Ending) (text : List ℕ) → IsDueBy limit bytes left ending text
    → IsTooLong bytes left ⊎ ((input : List ℕ) × IsWhole bytes left input × IsAnswer limit input ending text)
answer_parts limit bytes left Done text due = inr due
answer_parts limit bytes left ReadFault text due = inr due
answer_parts limit bytes left WriteFault text due = inr due
answer_parts limit bytes left (BadScenario line rule) text due = inr due
answer_parts limit bytes left (BadOperation line) text due = inr due
answer_parts limit bytes left NoMemory text due = inr due
answer_parts limit bytes left Usage text due = inr due
answer_parts limit bytes left TooLong text due = inl due.0

words_parts : (words : List (List ℕ)) (bytes left : Option (List ℕ)) (ending : Ending) (text : List ℕ) → IsDue words bytes left ending text
    → (steps_allowed words ≡ None) ⊎ ((limit : ℕ) × (steps_allowed words ≡ Some limit) × IsDueBy limit bytes left ending text)
words_parts words bytes left Done text due = inr due
words_parts words bytes left ReadFault text due = inr due
words_parts words bytes left WriteFault text due = inr due
words_parts words bytes left (BadScenario line rule) text due = inr due
words_parts words bytes left (BadOperation line) text due = inr due
words_parts words bytes left NoMemory text due = inr due
words_parts words bytes left Usage text due = inl due.0
words_parts words bytes left TooLong text due = inr due

or_no_memory : (read : Result (List Decl) ScenarioFault) (ending : Ending) → ComesOut read ending → ComesOutOrNoMemory read ending
or_no_memory read Done out = out
or_no_memory read ReadFault out = out
or_no_memory read WriteFault out = out
or_no_memory read (BadScenario line rule) out = out
or_no_memory read (BadOperation line) out = out
or_no_memory read NoMemory out = tt
or_no_memory read Usage out = out
or_no_memory read TooLong out = out

-- what is due where no end fails
pub completes : (words : List (List ℕ)) (limit : ℕ) (bytes left : Option (List ℕ)) (ending : Ending) (text told : List ℕ) → steps_allowed words ≡ Some limit → bytes ≡ Some told → length told ≤ most_bytes
    → IsDue words bytes left ending text → ComesOutOrNoMemory (opening (scenario_part told)) ending
completes words limit bytes left ending text told taken is few due =
    elim (words_parts words bytes left ending text due) [
      | inl none ↦ taken_or_not words limit _ none taken
      | inr h ↦ elim (answer_parts h.0 bytes left ending text h.2) [
        | inl long ↦ absurd (not_too_long bytes left told is few long)
        | inr a ↦ or_no_memory (opening (scenario_part told)) ending (subst (λ (x : List ℕ). ComesOut (opening (scenario_part x)) ending) (same_input bytes left a.0 told is a.1) (comes_out h.0 a.0 ending text a.2))
      ]
    ]

-- the two parts of an input have no more bytes than it has
pub parts_fit : (input first behind : List ℕ) → first ≡ scenario_part input → behind ≡ journal_part input → length first + length behind ≡ length input
unfolding scenario_part journal_part
parts_fit input first behind is then =
    let n = bytes_to_end (pieces is_feed input) in
    let both : length input ≡ length (take n input) + length (drop n input) = ap length (sym (take-append-drop n input)) ∙ length-append (take n input) (drop n input) in
    let a : length first ≡ length (take n input) = ap length is in
    let b : length behind ≡ length (drop n input) = ap length then in
    omega arith
