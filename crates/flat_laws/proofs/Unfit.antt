-- What doesn't fit leaves the state.
use Rattle.std.proofs.Common.{◌≡◌, ℕ, Bool, false, Option, Some, None, slice_get, refl, ap}
use Rattle.std.specs.Prelude.{unwrap_or}
use Rattle.cache_ident.specs.declared.names.ThreadNo.{ThreadNo}
use Rattle.flat_state.specs.declared.events.Decl.{Decl}
use Rattle.flat_state.specs.declared.events.Event.{Event}
use Rattle.flat_state.specs.declared.events.Event.TheVariants.{Declare, Step, Complete}
use Rattle.flat_state.specs.declared.records.FlatThread.{FlatThread}
use Rattle.flat_state.specs.State.{FlatState}
use Rattle.flat_state.specs.Declaration.{broken_rule}
use Rattle.flat_state.specs.Signals.{is_runnable}
use Rattle.flat_state.specs.Step.{step_if, step_of, after_step}
use Rattle.flat_state.specs.Call.{is_completable, complete_if, completion_for, after_completion}
use Rattle.flat_state.specs.Events.{declared_unless, after_event, applied}

pub unfit_event : (s : FlatState) (e : Event) → after_event s e ≡ None → applied s e ≡ s
unfit_event s e none = ap (λ (o : Option FlatState). unwrap_or o s) none

pub unfit_declaration : (s : FlatState) (d : Decl) (rule : ℕ) → broken_rule s d ≡ Some rule → applied s (Declare d) ≡ s
unfit_declaration s d rule breaks = unfit_event s (Declare d) (ap (λ (o : Option ℕ). declared_unless o s d) breaks)

pub unfit_step : (s : FlatState) (thread : ThreadNo) → ((t : FlatThread) → slice_get s.threads thread.0 ≡ Some t → is_runnable s t ≡ false) → applied s (Step thread) ≡ s
unfolding after_step
unfit_step s thread unfit = unfit_event s (Step thread) (by (slice_get s.threads thread.0) refl)
  where
    by : (o : Option FlatThread) → slice_get s.threads thread.0 ≡ o → step_of s thread.0 o ≡ None
    by None here = refl
    by (Some t) here = ap (λ (b : Bool). step_if b s thread.0 t) (unfit t here)

pub unfit_completion : (s : FlatState) (thread : ThreadNo) → ((t : FlatThread) → slice_get s.threads thread.0 ≡ Some t → is_completable t ≡ false) → applied s (Complete thread) ≡ s
unfolding after_completion
unfit_completion s thread unfit = unfit_event s (Complete thread) (by (slice_get s.threads thread.0) refl)
  where
    by : (o : Option FlatThread) → slice_get s.threads thread.0 ≡ o → completion_for s thread.0 o ≡ None
    by None here = refl
    by (Some t) here = ap (λ (b : Bool). complete_if b s thread.0 t) (unfit t here)
