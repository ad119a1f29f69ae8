-- Why what a thread does next is events that fit.
use Rattle.std.proofs.Common.{◌≡◌, ℕ, ◌<◌, Bool, true, List, [], ◌∷◌, ◌++◌, length, Option, Some, None, slice_get, map, refl, ap, sym, ◌∙◌, subst, arith}
use Rattle.std.specs.Prelude.{unwrap_or, IsSome}
use Rattle.std.specs.Option.{option_map}
use Rattle.cache_ident.specs.declared.names.SpaceNo.{SpaceNo}
use Rattle.cache_ident.specs.declared.names.ThreadNo.{ThreadNo}
use Rattle.flat_rules.specs.flat_state.specs.declared.events.Event.TheVariants.{Step}
use Rattle.flat_rules.specs.flat_state.specs.declared.records.FlatThread.{FlatThread}
use Rattle.flat_rules.specs.flat_state.specs.State.{FlatState}
use Rattle.flat_rules.specs.flat_state.specs.Events.{after_event, applied}
use Rattle.flat_rules.specs.flat_state.specs.Signals.{is_runnable}
use Rattle.flat_rules.specs.flat_state.specs.Step.{after_step, step_if, step_of}
use Rattle.flat_rules.specs.flat_state.specs.WellFormed.{IsWellFormed}
use Rattle.flat_rules.specs.flat_state.specs.Call.{after_completion, complete_if, completion_for, is_completable}
use Rattle.paged_steps.specs.memory_laws.specs.Apart.{over}
use Rattle.paged_steps.specs.memory_laws.proofs.Apart.{completion_apart}
use Rattle.quantum.specs.page_views.specs.Views.{View, AreCopies}
use Rattle.quantum.specs.Ahead.{Ahead}
use Rattle.quantum.specs.LocalRun.{committed, state_after, CouldRun, GoesThrough, IsLocalRun}
use Rattle.run_journal.specs.declared.entries.Entry.{Entry}
use Rattle.run_journal.specs.declared.entries.Entry.TheVariants.{Ran, Ended, Completed}
use Rattle.paged_run.specs.Runs.{Extends}
use Rattle.paged_steps.specs.ahead_laws.specs.Signalled.{signalled_by}
use Rattle.paged_steps.specs.ahead_laws.proofs.Signals.{signal_step}
use Rattle.flat_rules.specs.flat_state.specs.declared.records.Signal.{Signal}
use Rattle.flat_rules.specs.flat_state.specs.Signals.{full_among, receivers_of}
use Rattle.quantum.specs.Ahead.{signal_store}
use Rattle.quantum.specs.declared.paused.SignalStore.{SignalStore}
use Rattle.flat_machine.specs.rv32_exec.specs.declared.statuses.Status.TheVariants.{Ready}
use Rattle.paged_steps.specs.Aheads.{IsAheadOf, IsFresh, IsSentBy}
use Rattle.flat_machine.specs.rv32_exec.specs.declared.statuses.Access.{Access}
use Rattle.flat_machine.specs.rv32_exec.specs.declared.statuses.FaultKind.{FaultKind}
use Rattle.flat_machine.specs.rv32_exec.specs.declared.statuses.Reason.TheVariants.{Fault}
use Rattle.flat_machine.specs.rv32_exec.specs.declared.statuses.Status.TheVariants as Status
use Rattle.flat_rules.specs.flat_state.specs.State.{with_thread}
use Rattle.paged_steps.specs.Aheads.{StandsSo}
use Rattle.paged_steps.specs.declared.ahead.Stands.TheVariants.{Faults}
use Rattle.paged_steps.proofs.Held.{ends_so, goes_runs}
use Rattle.paged_steps.proofs.Sending.{all_show, asks, both_so, divides, goes_on}
use Rattle.paged_run.proofs.Journeys.{count_steps, steps_fit, written_down}

-- a runnable thread's step fits
pub runs_fit : (s : FlatState) (n : ℕ) (t : FlatThread) → slice_get s.threads n ≡ Some t → is_runnable s t ≡ true → IsSome (after_step s n)
unfolding after_step
runs_fit s n t here runs = subst IsSome (sym (ap (step_of s n) here ∙ ap (λ (b : Bool). step_if b s n t) runs)) refl

goes_fit : (s : FlatState) (who : ThreadNo) (space : SpaceNo) (vs : List View) (g : GoesThrough s who.0 space vs) → IsSome (after_event s (Step who))
goes_fit s who space vs g = runs_fit s who.0 g.thread g.there (goes_runs s who.0 g.thread g.next g.there g.its g.runs)

-- steps that were taken ahead
pub took : (s u : FlatState) (who : ThreadNo) (t : FlatThread) (a : Ahead) (j k : List Entry) → IsWellFormed s → slice_get s.threads who.0 ≡ Some t → CouldRun s t a → IsLocalRun a → 0 < a.steps → u ≡ committed s who.0 t a → k ≡ j ++ Ran who a.steps 0 ∷ []
    → Extends s j u k a.steps
took s u who t a j k formed here could local_run some is written =
    written_down s u j k (Ran who a.steps 0) a.steps (some, refl)
    (steps_fit s who a.steps (λ i below. goes_fit (state_after s who.0 i) who t.space a.views (local_run.each s who.0 t formed here could i below)))
    (is ∙ sym (local_run.makes s who.0 t formed here could)) written (sym (count_steps who a.steps))

-- one step
pub took_one : (s u : FlatState) (who : ThreadNo) (e : Entry) (j k : List Entry) → after_step s who.0 ≡ Some u → (e ≡ Ran who 1 0) → k ≡ j ++ e ∷ [] → Extends s j u k 1
took_one s u who e j k steps is written =
    written_down s u j k (Ran who 1 0) 1 (omega arith, refl) (subst IsSome (sym steps) refl, tt) (one steps) (written ∙ ap (λ (x : Entry). j ++ x ∷ []) is) refl
  where
    one : after_step s who.0 ≡ Some u → u ≡ applied s (Step who)
    one e = rw e refl

pub ended_one : (s u : FlatState) (who : ThreadNo) (j k : List Entry) → after_step s who.0 ≡ Some u → k ≡ j ++ Ended who 0 ∷ [] → Extends s j u k 1
ended_one s u who j k steps written =
    written_down s u j k (Ended who 0) 1 refl (subst IsSome (sym steps) refl, tt) (one steps) written refl
  where
    one : after_step s who.0 ≡ Some u → u ≡ applied s (Step who)
    one e = rw e refl

-- ---- a step that faults

-- .. is the next step
pub ended_so : (tables new : FlatState) (m : List ℕ) (n : ℕ) (t : FlatThread) (a : Ahead) (kind : FaultKind) (access : Access) (va : ℕ) → slice_get tables.threads n ≡ Some t → t.status ≡ Ready → IsAheadOf tables t a → IsFresh a → AreCopies m a.views
    → StandsSo tables t a (Faults kind access va) → new ≡ with_thread tables n (record t { status = Status.Ended (Fault kind access va) }) → after_step (over tables m) n ≡ Some (over new m)
ended_so tables new m n t a kind access va here ready ahead fresh copies stands is =
    ends_so tables m n t a va access here ready ahead fresh copies stands.0 stands.1
    ∙ ap (λ (k : FaultKind). Some (over (with_thread tables n (record t { status = Status.Ended (Fault k access va) })) m)) stands.2
    ∙ ap (λ (s : FlatState). Some (over s m)) (sym is)

-- ---- a store that signals

-- .. is the next step, where all its receivers have room
pub sends_so : (tables : FlatState) (m : List ℕ) (n : ℕ) (t : FlatThread) (a : Ahead) (store : SignalStore) (signal : Signal) (sent : IsSentBy tables t store signal) → IsWellFormed (over tables m) → slice_get tables.threads n ≡ Some t → t.status ≡ Ready
    → IsAheadOf tables t a → IsFresh a → signal_store a ≡ Some store → AreCopies m a.views → full_among tables.threads (map (λ r. r.0) (receivers_of tables signal.frame)) ≡ None
    → after_step (over tables m) n ≡ Some (signalled_by (over tables m) n t sent.va sent.value sent.row)
sends_so tables m n t a store signal sent formed here ready ahead fresh told copies room =
    signal_step (over tables m) n t a.views sent.va sent.value sent.row formed here ready (all_show tables t a store ahead fresh told signal sent m copies)
    (asks tables t a store ahead fresh told signal sent) (goes_on tables t a store ahead fresh told signal sent) (divides tables t a store ahead fresh told signal sent) sent.reaches
    (both_so tables t a store ahead fresh told signal sent)
    (subst (λ (s : Signal). full_among tables.threads (map (λ r. r.0) (receivers_of tables s.frame)) ≡ None) sent.signal_is room)

-- ---- a call that is completed

completable_some : (s : FlatState) (n : ℕ) (t : FlatThread) → slice_get s.threads n ≡ Some t → is_completable t ≡ true → IsSome (after_completion s n)
unfolding after_completion
completable_some s n t here completable = subst IsSome (sym (ap (completion_for s n) here ∙ ap (λ (b : Bool). complete_if b s n t) completable)) refl

some_over : (m : List ℕ) (o : Option FlatState) → IsSome o → IsSome (option_map (λ (u : FlatState). over u m) o)
some_over m None e = absurd (cc)
some_over m (Some u) e = refl

over_or : (s : FlatState) (m : List ℕ) (o : Option FlatState) → over (unwrap_or o s) m ≡ unwrap_or (option_map (λ (u : FlatState). over u m) o) (over s m)
over_or s m None = refl
over_or s m (Some u) = refl

-- it is one over any memory
pub completed_one : (s u : FlatState) (m : List ℕ) (who : ThreadNo) (t : FlatThread) (j k : List Entry) → slice_get s.threads who.0 ≡ Some t → is_completable t ≡ true → u ≡ unwrap_or (after_completion s who.0) s → k ≡ j ++ Completed who 0 ∷ []
    → Extends (over s m) j (over u m) k 0
completed_one s u m who t j k here completable is written =
    written_down (over s m) (over u m) j k (Completed who 0) 0 refl
    (subst IsSome (sym (completion_apart s m who.0)) (some_over m (after_completion s who.0) (completable_some s who.0 t here completable)), tt)
    (ap (λ (x : FlatState). over x m) is ∙ over_or s m (after_completion s who.0) ∙ ap (λ (o : Option FlatState). unwrap_or o (over s m)) (sym (completion_apart s m who.0)))
    written refl

memory_of : (s : FlatState) (o : Option FlatState) → o ≡ option_map (λ (u : FlatState). over u s.memory) o → (unwrap_or o s).memory ≡ s.memory
memory_of s None e = refl
memory_of s (Some u) e = ap (λ (o : Option FlatState). (unwrap_or o s).memory) e

-- .. and leaves memory
pub completed_memory : (s u : FlatState) (n : ℕ) → u ≡ unwrap_or (after_completion s n) s → length u.memory ≡ length s.memory
completed_memory s u n is = ap (λ (x : FlatState). length x.memory) is ∙ ap length (memory_of s (after_completion s n) (completion_apart s s.memory n))
