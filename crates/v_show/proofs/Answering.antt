-- What is due for an input, by what the check found.
use Rattle.std.proofs.Common.{◌≡◌, ℕ, ◌≤◌, List, length, Option, Some, None, Result, refl, sym, subst, ◌∙◌, ◌⊎◌, inl, inr}
use Rattle.run_journal.specs.flat_state.specs.declared.events.Decl.{Decl}
use Rattle.scenario_reader.specs.declared.fault.ScenarioFault.{ScenarioFault}
use Rattle.scenario_reader.specs.Scenarios.{scenario}
use Rattle.check_mode.specs.declared.answers.Checked.{Checked}
use Rattle.check_mode.specs.declared.answers.Checked.TheVariants as found
use Rattle.check_mode.specs.Answers.{IsChecked}
use Rattle.check_mode.specs.Parts.{scenario_part}
use Rattle.v_show.specs.declared.endings.Ending.{Ending}
use Rattle.v_show.specs.declared.endings.Ending.TheVariants.{Legal, Broken, ReadFault, WriteFault, BadScenario, BadJournal, NoMemory, Usage, TooLong}
use Rattle.v_show.specs.declared.options.Options.{Options}
use Rattle.due_text.specs.Inputs.{IsWhole, IsTooLong, most_bytes}
use Rattle.due_text.proofs.Inputs.{not_too_long, same_input}
use Rattle.v_show.specs.Words.{options}
use Rattle.v_show.specs.Endings.{ComesOut, ComesOutOrNoMemory, IsAnswer, IsDue, IsDueBy, IsDueFor, IsRefusal}

-- ---- the answer

-- what is due for what was found is an answer
pub answered : (o : Options) (input : List ℕ) (c : Checked) (ending : Ending) (text : List ℕ) → IsChecked input o.steps c → IsDueFor o.part c ending text → IsAnswer o input ending text
answered o input (found.Yes settled journal said) ending text checked due =
    subst (λ (e : Ending). IsAnswer o input e text) (sym due.0) (record { found = found.Yes settled journal said; checked = checked; due = (refl, due.1) })
answered o input (found.No at point journal said) ending text checked due =
    subst (λ (e : Ending). IsAnswer o input e text) (sym due.0) (record { found = found.No at point journal said; checked = checked; due = (refl, due.1) })
answered o input (found.BadJournal line said) ending text checked due =
    subst (λ (e : Ending). IsAnswer o input e text) (sym due.0) (record { found = found.BadJournal line said; checked = checked; due = (refl, due.1) })

-- ---- what is due

pub by_input : (o : Options) (bytes left : Option (List ℕ)) (input : List ℕ) (ending : Ending) (text : List ℕ) → IsWhole bytes left input → IsAnswer o input ending text → IsDueBy o bytes left ending text
by_input o bytes left input Legal text from answer = (input, from, answer)
by_input o bytes left input Broken text from answer = (input, from, answer)
by_input o bytes left input ReadFault text from answer = absurd answer
by_input o bytes left input WriteFault text from answer = absurd answer
by_input o bytes left input (BadScenario line rule) text from answer = (input, from, answer)
by_input o bytes left input (BadJournal line) text from answer = (input, from, answer)
by_input o bytes left input NoMemory text from answer = absurd answer
by_input o bytes left input Usage text from answer = absurd answer
by_input o bytes left input TooLong text from answer = absurd answer

pub by_words : (words : List (List ℕ)) (o : Options) (bytes left : Option (List ℕ)) (ending : Ending) (text : List ℕ) → options words ≡ Some o → IsDueBy o bytes left ending text → IsDue words bytes left ending text
by_words words o bytes left Legal text taken due = (o, taken, due)
by_words words o bytes left Broken text taken due = (o, taken, due)
by_words words o bytes left ReadFault text taken due = (o, taken, due)
by_words words o bytes left WriteFault text taken due = (o, taken, due)
by_words words o bytes left (BadScenario line rule) text taken due = (o, taken, due)
by_words words o bytes left (BadJournal line) text taken due = (o, taken, due)
by_words words o bytes left NoMemory text taken due = (o, taken, due)
by_words words o bytes left Usage text taken due = absurd due.2
by_words words o bytes left TooLong text taken due = (o, taken, due)

taken_or_not : (words : List (List ℕ)) (o : Options) (P : Type 0) → options words ≡ None → options words ≡ Some o → P
taken_or_not words o P none some = both (sym none ∙ some)
  where
    both : None ≡ Some o → P
    both e = cc

-- words that aren't taken are refused
pub refused_so : (words : List (List ℕ)) (bytes left : Option (List ℕ)) (ending : Ending) (text : List ℕ) → options words ≡ None → IsDue words bytes left ending text → IsRefusal ending
refused_so words bytes left Legal text none due = taken_or_not words due.0 _ none due.1
refused_so words bytes left Broken text none due = taken_or_not words due.0 _ none due.1
refused_so words bytes left ReadFault text none due = taken_or_not words due.0 _ none due.1
refused_so words bytes left WriteFault text none due = tt
refused_so words bytes left (BadScenario line rule) text none due = taken_or_not words due.0 _ none due.1
refused_so words bytes left (BadJournal line) text none due = taken_or_not words due.0 _ none due.1
refused_so words bytes left NoMemory text none due = tt
refused_so words bytes left Usage text none due = tt
refused_so words bytes left TooLong text none due = taken_or_not words due.0 _ none due.1

-- taken words have no refusal
pub is_taken : (words : List (List ℕ)) (o : Options) → options words ≡ Some o → options words ≡ None → ⊥
is_taken words o some none = taken_or_not words o ⊥ none some

-- ---- what comes out

comes_out : (o : Options) (input : List ℕ) (ending : Ending) (text : List ℕ) → IsAnswer o input ending text → ComesOut (scenario (scenario_part input)) ending
comes_out o input Legal text answer = rw answer.checked.is_scenario tt
comes_out o input Broken text answer = rw answer.checked.is_scenario tt
comes_out o input ReadFault text answer = absurd answer
comes_out o input WriteFault text answer = absurd answer
comes_out o input (BadScenario line rule) text answer = rw answer.0 refl
comes_out o input (BadJournal line) text answer = rw answer.checked.is_scenario tt
comes_out o input NoMemory text answer = absurd answer
comes_out o input Usage text answer = absurd answer
comes_out o input TooLong text answer = absurd answer

answer_parts : (o : Options) (bytes left : Option (List ℕ)) (ending : Ending) (text : List ℕ) → IsDueBy o bytes left ending text
    → IsTooLong bytes left ⊎ ((input : List ℕ) × IsWhole bytes left input × IsAnswer o input ending text)
answer_parts o bytes left Legal text due = inr due
answer_parts o bytes left Broken text due = inr due
answer_parts o bytes left ReadFault text due = inr due
answer_parts o bytes left WriteFault text due = inr due
answer_parts o bytes left (BadScenario line rule) text due = inr due
answer_parts o bytes left (BadJournal line) text due = inr due
answer_parts o bytes left NoMemory text due = inr due
answer_parts o bytes left Usage text due = inr due
answer_parts o bytes left TooLong text due = inl due.0

words_parts : (words : List (List ℕ)) (bytes left : Option (List ℕ)) (ending : Ending) (text : List ℕ) → IsDue words bytes left ending text
    → (options words ≡ None) ⊎ ((o : Options) × (options words ≡ Some o) × IsDueBy o bytes left ending text)
words_parts words bytes left Legal text due = inr due
words_parts words bytes left Broken text due = inr due
words_parts words bytes left ReadFault text due = inr due
words_parts words bytes left WriteFault text due = inr due
words_parts words bytes left (BadScenario line rule) text due = inr due
words_parts words bytes left (BadJournal line) text due = inr due
words_parts words bytes left NoMemory text due = inr due
words_parts words bytes left Usage text due = inl due.0
words_parts words bytes left TooLong text due = inr due

or_no_memory : (read : Result (List Decl) ScenarioFault) (ending : Ending) → ComesOut read ending → ComesOutOrNoMemory read ending
or_no_memory read Legal out = out
or_no_memory read Broken out = out
or_no_memory read ReadFault out = out
or_no_memory read WriteFault out = out
or_no_memory read (BadScenario line rule) out = out
or_no_memory read (BadJournal line) out = out
or_no_memory read NoMemory out = tt
or_no_memory read Usage out = out
or_no_memory read TooLong out = out

-- what is due where no end fails
pub completes : (words : List (List ℕ)) (o : Options) (bytes left : Option (List ℕ)) (ending : Ending) (text told : List ℕ) → options words ≡ Some o → bytes ≡ Some told → length told ≤ most_bytes
    → IsDue words bytes left ending text → ComesOutOrNoMemory (scenario (scenario_part told)) ending
completes words o bytes left ending text told taken is few due =
    elim (words_parts words bytes left ending text due) [
      | inl none ↦ taken_or_not words o _ none taken
      | inr h ↦ elim (answer_parts h.0 bytes left ending text h.2) [
        | inl long ↦ absurd (not_too_long bytes left told is few long)
        | inr a ↦ or_no_memory (scenario (scenario_part told)) ending (subst (λ (x : List ℕ). ComesOut (scenario (scenario_part x)) ending) (same_input bytes left a.0 told is a.1) (comes_out h.0 a.0 ending text a.2))
      ]
    ]
