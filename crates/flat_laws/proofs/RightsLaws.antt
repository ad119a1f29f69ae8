-- A step writes where the rights let write, and depends on what they let read.
use Rattle.std.proofs.Common.{◌≡◌, ◌≢◌, ℕ, ◌/◌, Bool, true, false, not, ◌&&◌, ◌⊎◌, inl, inr, List, length, get_or, map, filter, Option, Some, None, is_some, slice_get, slice_index, slice_set, refl, ap, ap₂, sym, ◌∙◌, subst, subst₂, arith}
use Rattle.std.specs.Option.{option_map, option_and_then}
use Rattle.phys_groups.specs.declared.rows.Row.{Row}
use Rattle.phys_groups.specs.Translation.{right_on}
use Rattle.rv32_isa.specs.Table.{instruction_of}
use Rattle.flat_state.specs.rv32_exec.specs.declared.actions.Action.{Action}
use Rattle.flat_state.specs.rv32_exec.specs.declared.actions.Action.TheVariants.{Store}
use Rattle.flat_state.specs.rv32_exec.specs.declared.spaces.Width.TheVariants.{Word}
use Rattle.flat_state.specs.rv32_exec.specs.declared.statuses.Status.{Status}
use Rattle.flat_state.specs.rv32_exec.specs.declared.statuses.Status.TheVariants.{Ready, Trapped, Ended}
use Rattle.flat_state.specs.rv32_exec.specs.declared.steps.Stepped.{Stepped}
use Rattle.flat_state.specs.rv32_exec.specs.declared.steps.Stepped.TheVariants.{Next, Call, Stop, Miss}
use Rattle.flat_state.specs.rv32_exec.specs.Steps.{After}
use Rattle.flat_state.specs.rv32_exec.specs.Actions.{action_of}
use Rattle.flat_state.specs.rv32_exec.proofs.StepChanges.{changed_by}
use Rattle.flat_state.specs.declared.records.FlatThread.{FlatThread}
use Rattle.flat_state.specs.declared.records.Signal.{Signal}
use Rattle.flat_state.specs.State.{FlatState, is_ready}
use Rattle.flat_state.specs.Translation.{rights_of}
use Rattle.flat_state.specs.Pages.{page_of, pages_of, with_pages, with_marks, is_in}
use Rattle.flat_state.specs.Signals.{next_action, signal_of, next_signal, receivers_for, full_among, is_runnable, delivered}
use Rattle.flat_state.specs.Step.{outcome, went_on, stepped_so, stepped, step_if, step_of, after_step}
use Rattle.flat_laws.specs.Rights.{MayWrite, AgreeWhereReadable, AgreeButMemory, AgreeFor, WrittenAlike, AgreeAfter, AgreeAfterBoth}
use Rattle.flat_laws.proofs.Changes.{all_changed-map, bytes_stay}
use Rattle.flat_laws.proofs.StepsAlike.{Alike, fetched_agrees, pages_alike}
use Rattle.flat_laws.proofs.MemoryAfter.{length-with_pages, byte_stays, bytes_alike, marks_alike}

-- memory after a step is as before, or has the pages written back
memory_after : (s : FlatState) (n : ℕ) (t : FlatThread) (after : After) (answer : Stepped) → ((stepped_so s n t after answer).memory ≡ s.memory) ⊎ ((stepped_so s n t after answer).memory ≡ with_pages s.memory after.pages)
memory_after s n t after Next = inr refl
memory_after s n t after Call = inr refl
memory_after s n t after (Stop reason) = inr refl
memory_after s n t after (Miss va access) = inl refl

-- a memory agrees with itself
agrees_with_itself : (rights : List (Bool × Bool)) (memory : List ℕ) → AgreeWhereReadable rights memory memory
agrees_with_itself rights memory = record { size = refl; bytes = λ place may. refl }

byte_without_right : (s : FlatState) (n : ℕ) (t : FlatThread) (place : ℕ) → (right_on (rights_of s t.space) (place / 524288)).1 ≡ false → get_or (stepped s n t (outcome s t)).memory place 0 ≡ get_or s.memory place 0
byte_without_right s n t place off =
    elim (memory_after s n t (outcome s t) (outcome s t).answer) [
      | inl stays ↦ ap (λ memory. get_or memory place 0) stays
      | inr written ↦
          let rights : List (Bool × Bool) = rights_of s t.space in
          let rows : List Row = filter (is_in t.space) s.rows in
          let step = pages_alike rights rows s.memory s.memory (agrees_with_itself rights s.memory) t.context in
          ap (λ memory. get_or memory place 0) written
          ∙ ap (λ ps. get_or (with_pages s.memory ps) place 0) (step.here ∙ all_changed-map step.changes (page_of rights s.memory) rows)
          ∙ byte_stays step.changes rights s.memory place
          (λ row inside.
          let group : place / 524288 ≡ row.frame.0 / 128 = omega arith in
          bytes_stay rights step.changes step.allowed (page_of rights s.memory row) (subst (λ g. (right_on rights g).1 ≡ false) group off))
          rows s.memory refl refl
    ]

pub writes_where_it_may : (s u : FlatState) (n : ℕ) (t : FlatThread) → slice_get s.threads n ≡ Some t → after_step s n ≡ Some u → (place : ℕ) → slice_index u.memory place ≢ slice_index s.memory place → MayWrite (rights_of s t.space) place
unfolding after_step
writes_where_it_may s u n t found steps place differs =
    by_test (is_runnable s t) (subst (λ found. step_of s n found ≡ Some u) found steps)
  where
    by_right : (b : Bool) → (right_on (rights_of s t.space) (place / 524288)).1 ≡ b → stepped s n t (outcome s t) ≡ u → MayWrite (rights_of s t.space) place
    by_right true on e = on
    by_right false off e = absurd (differs (ap (λ w. get_or w.memory place 0) (sym e) ∙ byte_without_right s n t place off))

    by_test : (runnable : Bool) → step_if runnable s n t ≡ Some u → MayWrite (rights_of s t.space) place
    by_test false e = cc
    by_test true e = by_right (right_on (rights_of s t.space) (place / 524288)).1 refl (let same : stepped s n t (outcome s t) ≡ u = cc in same)

size_stays : (s : FlatState) (n : ℕ) (t : FlatThread) → length (stepped s n t (outcome s t)).memory ≡ length s.memory
size_stays s n t =
    elim (memory_after s n t (outcome s t) (outcome s t).answer) [
      | inl stays ↦ ap length stays
      | inr written ↦
          let rights : List (Bool × Bool) = rights_of s t.space in
          let rows : List Row = filter (is_in t.space) s.rows in
          let step = pages_alike rights rows s.memory s.memory (agrees_with_itself rights s.memory) t.context in
          ap length written
          ∙ ap (λ ps. length (with_pages s.memory ps)) (step.here ∙ all_changed-map step.changes (page_of rights s.memory) rows)
          ∙ length-with_pages step.changes rights s.memory rows s.memory refl
    ]

pub keeps_size : (s u : FlatState) (n : ℕ) → after_step s n ≡ Some u → length u.memory ≡ length s.memory
unfolding after_step
keeps_size s u n steps = by_thread (slice_get s.threads n) steps
  where
    by_test : (t : FlatThread) (runnable : Bool) → step_if runnable s n t ≡ Some u → length u.memory ≡ length s.memory
    by_test t false e = cc
    by_test t true e = let same : stepped s n t (outcome s t) ≡ u = cc in ap (λ w. length w.memory) (sym same) ∙ size_stays s n t

    by_thread : (found : Option FlatThread) → step_of s n found ≡ Some u → length u.memory ≡ length s.memory
    by_thread None e = cc
    by_thread (Some t) e = by_test t (is_runnable s t) e

-- the state with another memory
abbrev with_memory : FlatState → List ℕ → FlatState
with_memory s memory = record s { memory = memory }

other_memory : (s v : FlatState) → AgreeButMemory s v → with_memory s v.memory ≡ v
other_memory s v rest = λ i. record { machine = rest.machine i; memory = v.memory; kernels = rest.kernels i; spaces = rest.spaces i; rows = rest.rows i; threads = rest.threads i }

signal_stays : (s : FlatState) (memory : List ℕ) (t : FlatThread) (action : Option Action) → signal_of (with_memory s memory) t action ≡ signal_of s t action
signal_stays s memory t (Some (Store va Word value)) = refl
signal_stays s memory t _ = refl

receivers_stay : (s : FlatState) (memory : List ℕ) (signal : Option Signal) → receivers_for (with_memory s memory) signal ≡ receivers_for s signal
receivers_stay s memory None = refl
receivers_stay s memory (Some signal) = refl

module _ (s : FlatState) (n : ℕ) (t : FlatThread) (memory : List ℕ) (agree : AgreeWhereReadable (rights_of s t.space) s.memory memory) where
  abbrev rows : List Row
  rows = filter (is_in t.space) s.rows

  abbrev v : FlatState
  v = with_memory s memory

  one_step : Alike (rights_of s t.space) (pages_of s t.space) (pages_of v t.space) (outcome s t) (outcome v t)
  one_step = pages_alike (rights_of s t.space) rows s.memory memory agree t.context

  one_action : next_action t.context (pages_of s t.space) ≡ next_action t.context (pages_of v t.space)
  unfolding next_action
  one_action = ap (option_and_then (λ word. option_map (λ instr. action_of instr t.context) (instruction_of word))) (fetched_agrees (rights_of s t.space) rows s.memory memory agree t.context.pc)

  -- the step sends one signal
  one_signal : next_signal s t ≡ next_signal v t
  unfolding next_signal
  one_signal = sym (signal_stays s memory t (next_action t.context (pages_of s t.space))) ∙ ap (signal_of v t) one_action

  one_list : receivers_for s (next_signal s t) ≡ receivers_for v (next_signal v t)
  one_list = sym (receivers_stay s memory (next_signal s t)) ∙ ap (receivers_for v) one_signal

  both_run : is_runnable s t ≡ is_runnable v t
  both_run = ap (λ receivers. is_ready t.status && not (is_some (full_among s.threads (map (λ receiver. receiver.0) receivers)))) one_list

  pages_here : (outcome s t).pages ≡ map (λ r. changed_by one_step.changes (page_of (rights_of s t.space) s.memory r)) rows
  pages_here = one_step.here ∙ all_changed-map one_step.changes (page_of (rights_of s t.space) s.memory) rows

  pages_there : (outcome v t).pages ≡ map (λ r. changed_by one_step.changes (page_of (rights_of s t.space) memory r)) rows
  pages_there = one_step.there ∙ all_changed-map one_step.changes (page_of (rights_of s t.space) memory) rows

  written_alike : WrittenAlike s.memory memory (with_pages s.memory (outcome s t).pages) (with_pages memory (outcome v t).pages)
  written_alike =
      subst₂ (λ ps qs. WrittenAlike s.memory memory (with_pages s.memory ps) (with_pages memory qs)) (sym pages_here) (sym pages_there)
      (record {
        size = length-with_pages one_step.changes (rights_of s t.space) s.memory rows s.memory refl ∙ (agree.size ∙ sym (length-with_pages one_step.changes (rights_of s t.space) memory rows memory refl));
        bytes = λ place. bytes_alike one_step.changes (rights_of s t.space) s.memory memory agree.size place rows s.memory memory refl refl (inl (refl, refl));
      })

  marked_alike : map (with_marks t.space (outcome s t).pages) s.rows ≡ map (with_marks t.space (outcome v t).pages) s.rows
  marked_alike =
      ap (λ ps. map (with_marks t.space ps) s.rows) pages_here
      ∙ (marks_alike one_step.changes (rights_of s t.space) s.memory memory agree.size t.space rows s.rows
      ∙ ap (λ ps. map (with_marks t.space ps) s.rows) (sym pages_there))

  going_on : (status : Status) → AgreeAfter s v (went_on s n t (outcome s t) status) (went_on v n t (outcome v t) status)
  going_on status =
      record {
        rest = record {
          machine = refl;
          kernels = refl;
          spaces = refl;
          rows = marked_alike;
          threads =
              ap (λ context. delivered (slice_set s.threads n (record t { context = context; status = status })) (next_signal s t) (receivers_for s (next_signal s t))) one_step.context
              ∙ ap₂ (delivered (slice_set s.threads n (record t { context = (outcome v t).context; status = status }))) one_signal one_list;
        };
        memory = written_alike;
      }

  by_answer : (answer : Stepped) → AgreeAfter s v (stepped_so s n t (outcome s t) answer) (stepped_so v n t (outcome v t) answer)
  by_answer Next = going_on Ready
  by_answer Call = going_on Trapped
  by_answer (Stop reason) = going_on (Ended reason)
  by_answer (Miss va access) =
      record {
        rest = record { machine = refl; kernels = refl; spaces = refl; rows = refl; threads = refl };
        memory = record { size = agree.size; bytes = λ place. inl (refl, refl) };
      }

  steps_agree : AgreeAfterBoth s v (step_if (is_runnable s t) s n t) (step_if (is_runnable v t) v n t)
  steps_agree = subst (λ runnable. AgreeAfterBoth s v (step_if (is_runnable s t) s n t) (step_if runnable v n t)) both_run (by_test (is_runnable s t))
    where
      by_test : (runnable : Bool) → AgreeAfterBoth s v (step_if runnable s n t) (step_if runnable v n t)
      by_test false = tt
      by_test true = subst (λ answer. AgreeAfter s v (stepped s n t (outcome s t)) (stepped_so v n t (outcome v t) answer)) one_step.answer (by_answer (outcome s t).answer)

both_steps : (s : FlatState) (n : ℕ) (t : FlatThread) (memory : List ℕ) → slice_get s.threads n ≡ Some t → AgreeWhereReadable (rights_of s t.space) s.memory memory → AgreeAfterBoth s (with_memory s memory) (after_step s n) (after_step (with_memory s memory) n)
unfolding after_step
both_steps s n t memory found agree =
    subst (λ found. AgreeAfterBoth s (with_memory s memory) (step_of s n found) (step_of (with_memory s memory) n found)) (sym found) (steps_agree s n t memory agree)

pub depends_on_what_it_may_read : (s v : FlatState) (n : ℕ) (t : FlatThread) → slice_get s.threads n ≡ Some t → AgreeFor (rights_of s t.space) s v → AgreeAfterBoth s v (after_step s n) (after_step v n)
depends_on_what_it_may_read s v n t found agree =
    subst (λ w. AgreeAfterBoth s w (after_step s n) (after_step w n)) (other_memory s v agree.rest) (both_steps s n t v.memory found agree.memory)
