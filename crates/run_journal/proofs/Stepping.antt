-- A step over what is resident, and a step of the machine with unlimited tables.
use Rattle.std.proofs.Common.{◌≡◌, ℕ, Bool, true, false, List, Option, Some, None, slice_get, refl, ap, sym, ◌∙◌}
use Rattle.std.specs.Prelude.{not, ◌&&◌, is_some, IsSome}
use Rattle.std.specs.Option.{option_map}
use Rattle.std.proofs.lemmas.Bool.{false≢true}
use Rattle.std.proofs.lemmas.Option.{same_Some}
use Rattle.cache_ident.specs.declared.names.ThreadNo.{ThreadNo}
use Rattle.cache_ident.specs.Residents.{Resident}
use Rattle.flat_state.specs.declared.events.Event.TheVariants.{Step}
use Rattle.flat_state.specs.declared.records.FlatThread.{FlatThread}
use Rattle.flat_state.specs.declared.records.NextStep.{NextStep}
use Rattle.flat_state.specs.State.{FlatState, is_ready}
use Rattle.flat_state.specs.Signals.{full_receiver, is_runnable}
use Rattle.flat_state.specs.Step.{step_if, step_of, after_step}
use Rattle.flat_state.specs.NextSteps.{next_step, next_step_if, next_step_of}
use Rattle.flat_state.specs.Events.{after_event}
use Rattle.run_journal.specs.Legal.{is_faulty, IsRowResident, MayStep, TakesStep}

-- ---- a step that may be taken fits

runs : (s : FlatState) (n : ℕ) (o : Option FlatThread) (next : NextStep) → option_map (next_step_of s) o ≡ Some next → next.runnable ≡ true → IsSome (step_of s n o)
runs s n None next is runnable = absurd (cc)
runs s n (Some t) next is runnable = by (is_ready t.status) (same_Some (next_step_of s t) next is)
  where
    by : (b : Bool) → next_step_if b s t ≡ next → IsSome (step_if (is_runnable s t) s n t)
    by true same = let may : is_runnable s t ≡ true = ap (λ (x : NextStep). x.runnable) same ∙ runnable in rw may refl
    by false same = absurd (false≢true (ap (λ (x : NextStep). x.runnable) same ∙ runnable))

pub step_fits : (s : FlatState) (rs : List Resident) (thread : ThreadNo) (faults : Bool) → MayStep s rs thread faults → IsSome (after_event s (Step thread))
unfolding after_step next_step
step_fits s rs thread faults may = runs s thread.0 (slice_get s.threads thread.0) may.next may.its may.runs

pub step_taken : (s : FlatState) (rs : List Resident) (thread : ThreadNo) (faults : Bool) → MayStep s rs thread faults → TakesStep s thread faults
step_taken s rs thread faults may = (step_fits s rs thread faults may, ap is_faulty may.its ∙ may.faulty)

-- ---- a step that fits may be taken over its rows

runs_back : (s : FlatState) (n : ℕ) (o : Option FlatThread) (next : NextStep) → option_map (next_step_of s) o ≡ Some next → IsSome (step_of s n o) → next.runnable ≡ true
runs_back s n None next is fits = absurd (cc)
runs_back s n (Some t) next is fits = by (is_ready t.status) refl (same_Some (next_step_of s t) next is)
  where
    may : (b : Bool) → is_runnable s t ≡ b → IsSome (step_if b s n t) → b ≡ true
    may true is some = refl
    may false is some = absurd (false≢true some)

    runnable : is_runnable s t ≡ true
    runnable = may (is_runnable s t) refl fits

    by : (b : Bool) → is_ready t.status ≡ b → next_step_if b s t ≡ next → next.runnable ≡ true
    by true ready same = sym (ap (λ (x : NextStep). x.runnable) same) ∙ runnable
    by false ready same = absurd (false≢true (sym (ap (λ (b : Bool). b && not (is_some (full_receiver s t))) ready) ∙ runnable))

step_runs : (s : FlatState) (thread : ThreadNo) (next : NextStep) → next_step s thread.0 ≡ Some next → IsSome (after_event s (Step thread)) → next.runnable ≡ true
unfolding after_step next_step
step_runs s thread next its fits = runs_back s thread.0 (slice_get s.threads thread.0) next its fits

pub step_allowed : (s : FlatState) (rs : List Resident) (thread : ThreadNo) (faults : Bool) (next : NextStep) → TakesStep s thread faults → next_step s thread.0 ≡ Some next
    → IsRowResident rs next.fetch_row → (faults ≡ false → IsRowResident rs next.data_row) → MayStep s rs thread faults
step_allowed s rs thread faults next takes its fetch data_there = record {
  next = next;
  its = its;
  runs = step_runs s thread next its takes.0;
  faulty = sym (ap is_faulty its) ∙ takes.1;
  fetch = fetch;
  «data» = data_there;
}
