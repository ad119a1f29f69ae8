-- Whether a ready thread is held, by what it does next.
use Rattle.std.proofs.Common.{◌≡◌, ℕ, ◌<◌, Bool, true, false, not, ◌&&◌, List, map, Contains, Option, Some, None, is_some, slice_get, refl, ap, sym, ◌∙◌}
use Rattle.std.specs.Option.{option_map}
use Rattle.std.proofs.lemmas.Option.{same_Some}
use Rattle.rv32_exec.specs.declared.contexts.Context.{Context}
use Rattle.rv32_exec.specs.declared.statuses.Access.{Access}
use Rattle.rv32_exec.specs.declared.statuses.Status.TheVariants.{Ready}
use Rattle.rv32_exec.specs.declared.steps.Stepped.TheVariants as steps
use Rattle.rv32_exec.specs.Steps.{after_step as after_instruction}
use Rattle.flat_state.specs.declared.records.FlatThread.{FlatThread}
use Rattle.flat_state.specs.declared.records.NextStep.{NextStep}
use Rattle.flat_state.specs.declared.records.Signal.{Signal}
use Rattle.flat_state.specs.State.{FlatState, is_ready}
use Rattle.flat_state.specs.NextSteps.{next_step, next_step_if}
use Rattle.flat_state.specs.Signals.{full_among, full_receiver, is_held, is_runnable, receivers_for, receivers_of}
use Rattle.flat_state.specs.Step.{after_step, faulted, step_if, step_of}
use Rattle.flat_state.specs.Translation.{reached, row_through}
use Rattle.flat_state.specs.WellFormed.{IsWellFormed}
use Rattle.memory_laws.specs.Apart.{over}
use Rattle.quantum.specs.page_views.specs.Views.{pages_of_views, View, AreCopies}
use Rattle.quantum.specs.declared.paused.SignalStore.{SignalStore}
use Rattle.quantum.specs.Ahead.{outcome as ahead_outcome, signal_store, Ahead}
use Rattle.quantum.specs.LocalRun.{GoesThrough, IsLocalRun, Shows}
use Rattle.ahead_laws.proofs.Missed.{missed_faults}
use Rattle.paged_steps.specs.Aheads.{IsAheadOf, IsFresh, IsSentBy}
use Rattle.paged_steps.proofs.Sending.{sends}
use Rattle.paged_steps.proofs.Taking.{could_run, shows_of}

free_if : (a b : Bool) → (a && not b) ≡ true → (a && b) ≡ false
free_if true true e = absurd (cc)
free_if true false e = refl
free_if false b e = refl

-- a thread that can take a step isn't held
pub runnable_free : (s : FlatState) (t : FlatThread) → is_runnable s t ≡ true → is_held s t ≡ false
runnable_free s t runs = free_if (is_ready t.status) (is_some (full_receiver s t)) runs

-- it can where its step is one
pub stepped_runs : (s : FlatState) (n : ℕ) (t : FlatThread) (u : FlatState) → slice_get s.threads n ≡ Some t → after_step s n ≡ Some u → is_runnable s t ≡ true
unfolding after_step
stepped_runs s n t u here e = by (is_runnable s t) refl (sym (ap (step_of s n) here) ∙ e)
  where
    by : (b : Bool) → is_runnable s t ≡ b → step_if b s n t ≡ Some u → is_runnable s t ≡ true
    by true is e = is
    by false is e = absurd (cc)

runs_if : (b : Bool) (s : FlatState) (t : FlatThread) (next : NextStep) → next_step_if b s t ≡ next → next.runnable ≡ true → is_runnable s t ≡ true
runs_if true s t next e runs = ap (λ (x : NextStep). x.runnable) e ∙ runs
runs_if false s t next e runs = absurd (let x = ap (λ (y : NextStep). y.runnable) e in cc)

pub goes_runs : (s : FlatState) (n : ℕ) (t : FlatThread) (next : NextStep) → slice_get s.threads n ≡ Some t → next_step s n ≡ Some next → next.runnable ≡ true → is_runnable s t ≡ true
unfolding next_step
goes_runs s n t next here e runs =
    runs_if (is_ready t.status) s t next (same_Some _ next (sym (ap (option_map (λ (x : FlatThread). next_step_if (is_ready x.status) s x)) here) ∙ e)) runs

-- .. where it took steps ahead
pub takes_free : (tables : FlatState) (m : List ℕ) (n : ℕ) (t : FlatThread) (a : Ahead) → IsWellFormed (over tables m) → slice_get tables.threads n ≡ Some t → t.status ≡ Ready → IsAheadOf tables t a → AreCopies m a.views → IsLocalRun a → 0 < a.steps
    → is_held (over tables m) t ≡ false
takes_free tables m n t a formed here ready ahead copies local_run some =
    let goes : GoesThrough (over tables m) n t.space a.views = local_run.each (over tables m) n t formed here (could_run tables m t a ready ahead copies) 0 some in
    runnable_free (over tables m) t (goes_runs (over tables m) n t goes.next here goes.its goes.runs)

-- .. where its next step faults
pub all_shown : (tables : FlatState) (m : List ℕ) (t : FlatThread) (a : Ahead) → IsAheadOf tables t a → IsFresh a → AreCopies m a.views → (v : View) → Contains a.views v → Shows (over tables m) t.space v v.present
all_shown tables m t a ahead fresh copies v there = shows_of tables t.space m v v.present (ahead.rows v there) (copies v there ∙ sym (fresh.present v there))

pub ends_so : (tables : FlatState) (m : List ℕ) (n : ℕ) (t : FlatThread) (a : Ahead) (va : ℕ) (access : Access) → slice_get tables.threads n ≡ Some t → t.status ≡ Ready → IsAheadOf tables t a → IsFresh a → AreCopies m a.views
    → (ahead_outcome a).answer ≡ steps.Miss va access → row_through (reached tables access t.space va) ≡ None → after_step (over tables m) n ≡ Some (faulted (over tables m) n t va access)
ends_so tables m n t a va access here ready ahead fresh copies missed lost =
    let context : a.context ≡ t.context = fresh.context ∙ ahead.first in
    missed_faults (over tables m) n t a.views va access here ready (all_shown tables m t a ahead fresh copies)
    (ap (λ (c : Context). (after_instruction c (pages_of_views a.views)).answer) (sym context) ∙ missed) lost

pub ends_free : (tables : FlatState) (m : List ℕ) (n : ℕ) (t : FlatThread) (a : Ahead) (va : ℕ) (access : Access) → slice_get tables.threads n ≡ Some t → t.status ≡ Ready → IsAheadOf tables t a → IsFresh a → AreCopies m a.views
    → (ahead_outcome a).answer ≡ steps.Miss va access → row_through (reached tables access t.space va) ≡ None → is_held (over tables m) t ≡ false
ends_free tables m n t a va access here ready ahead fresh copies missed lost =
    runnable_free (over tables m) t (stepped_runs (over tables m) n t _ here (ends_so tables m n t a va access here ready ahead fresh copies missed lost))

-- .. and where all receivers of its signal have room
pub sends_free : (tables : FlatState) (m : List ℕ) (t : FlatThread) (a : Ahead) (store : SignalStore) (signal : Signal) (ahead : IsAheadOf tables t a) (fresh : IsFresh a) (told : signal_store a ≡ Some store) → IsSentBy tables t store signal → AreCopies m a.views
    → is_some (full_among tables.threads (map (λ r. r.0) (receivers_of tables signal.frame))) ≡ false → is_held (over tables m) t ≡ false
sends_free tables m t a store signal ahead fresh told sent copies none =
    ap (λ (o : Option Signal). is_ready t.status && is_some (full_among tables.threads (map (λ receiver. receiver.0) (receivers_for (over tables m) o)))) (sends tables t a store ahead fresh told signal sent m copies)
    ∙ ap (λ (b : Bool). is_ready t.status && b) none ∙ never (is_ready t.status)
  where
    never : (b : Bool) → (b && false) ≡ false
    never true = refl
    never false = refl
