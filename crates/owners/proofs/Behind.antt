-- Behind the seal no space comes.
use Rattle.std.proofs.Common.{◌≡◌, ℕ, zero, suc, Bool, true, false, List, [], ◌∷◌, Option, Some, None, is_some, slice_get, refl, ap, sym, ◌∙◌}
use Rattle.std.specs.Prelude.{if◌then◌else◌, ◌||◌, replicate, unwrap_or}
use Rattle.std.proofs.lemmas.Bool.{true≢false}
use Rattle.cache_ident.specs.declared.names.ThreadNo.{ThreadNo}
use Rattle.phys_groups.specs.Translation.{row_of, without}
use Rattle.flat_state.specs.fault_forward.specs.declared.effects.Effect.{Effect}
use Rattle.flat_state.specs.fault_forward.specs.declared.effects.Effect.TheVariants as effects
use Rattle.flat_state.specs.fault_forward.specs.Calls.{Completion, completion_of}
use Rattle.flat_state.specs.declared.events.Decl.{Decl}
use Rattle.flat_state.specs.declared.events.Event.TheVariants.{Step, Complete}
use Rattle.flat_state.specs.declared.records.FlatThread.{FlatThread}
use Rattle.flat_state.specs.State.{FlatState, with_thread}
use Rattle.flat_state.specs.Declaration.{broken_rule, declared}
use Rattle.flat_state.specs.Call.{answered, refusal, made, mapping, rule_of_mapping, unmapped, spawning, is_first, granting, rule_of_granting, granted, completed_so, complete_if, completion_for, after_completion, is_completable}
use Rattle.flat_state.specs.Events.{after_events, applied}
use Rattle.run_journal.specs.flat_laws.proofs.StepSame.{step_same}
use Rattle.run_journal.specs.declared.entries.Entry.{Entry}
use Rattle.run_journal.specs.declared.entries.Entry.TheVariants.{Declared, Sealed, Loaded, WrittenBack, Locked, Unlocked, Ran, Ended, Completed}
use Rattle.run_journal.specs.Entries.{erase, events_of}
use Rattle.run_journal.specs.Told.{Told, told_after, is_seal}
use Rattle.run_journal.specs.Legal.{AreLegal, IsInPlace}
use Rattle.run_journal.proofs.Growth.{after_events-append, sealed_after, state_after}

-- ---- calls

made_spaces : (s : FlatState) (n : ℕ) (t : FlatThread) (d : Decl) (answer : ℕ) (rule : Option ℕ) → (declared s d).spaces ≡ s.spaces → (made s n t d answer rule).spaces ≡ s.spaces
made_spaces s n t d answer None same = same
made_spaces s n t d answer (Some rule) same = refl

unmapped_spaces : (s : FlatState) (n : ℕ) (t : FlatThread) (vpn : ℕ) → (unmapped s n t vpn).spaces ≡ s.spaces
unmapped_spaces s n t vpn = by (is_some (row_of s.rows t.space vpn))
  where
    by : (b : Bool) → (if b then with_thread (record s { rows = without t.space vpn s.rows }) n (answered t 0) else with_thread s n (answered t (refusal 1))).spaces ≡ s.spaces
    by true = refl
    by false = refl

granted_spaces : (s : FlatState) (n : ℕ) (t : FlatThread) (kernel group bits : ℕ) → (granted s n t (granting kernel group bits) bits).spaces ≡ s.spaces
unfolding declared
granted_spaces s n t kernel group bits = by (is_first (slice_get s.spaces t.space.0))
  where
    by : (b : Bool) → (if b then made s n t (granting kernel group bits) 0 (rule_of_granting s (granting kernel group bits) bits) else with_thread s n (answered t (refusal 1))).spaces ≡ s.spaces
    by true = made_spaces s n t (granting kernel group bits) 0 (rule_of_granting s (granting kernel group bits) bits) refl
    by false = refl

completed_spaces : (s : FlatState) (n : ℕ) (t : FlatThread) (c : Completion) (effect : Effect) → (completed_so s n t c effect).spaces ≡ s.spaces
unfolding declared
completed_spaces s n t c effects.Ready = refl
completed_spaces s n t c (effects.Put byte) = refl
completed_spaces s n t c (effects.Decimal number) = refl
completed_spaces s n t c (effects.End reason) = refl
completed_spaces s n t c (effects.Map vpn frame flags receiver) = made_spaces s n t (mapping t vpn frame flags receiver) 0 (rule_of_mapping s (mapping t vpn frame flags receiver) flags) refl
completed_spaces s n t c (effects.Unmap vpn) = unmapped_spaces s n t vpn
completed_spaces s n t c (effects.Spawn pc a0 priority) = made_spaces s n t (spawning s t pc a0 priority) _ (broken_rule s (spawning s t pc a0 priority)) refl
completed_spaces s n t c (effects.Grant kernel group bits) = granted_spaces s n t kernel group bits

complete_spaces : (s : FlatState) (thread : ThreadNo) → (applied s (Complete thread)).spaces ≡ s.spaces
unfolding after_completion
complete_spaces s thread = by (slice_get s.threads thread.0)
  where
    by_test : (t : FlatThread) (b : Bool) → (unwrap_or (complete_if b s thread.0 t) s).spaces ≡ s.spaces
    by_test t true = let c = completion_of t.no t.context t.queue.items in completed_spaces s thread.0 t c c.effect
    by_test t false = refl

    by : (o : Option FlatThread) → (unwrap_or (completion_for s thread.0 o) s).spaces ≡ s.spaces
    by None = refl
    by (Some t) = by_test t (is_completable t)

-- ---- entries

steps_spaces : (s : FlatState) (thread : ThreadNo) (n : ℕ) → (after_events s (replicate n (Step thread))).spaces ≡ s.spaces
steps_spaces s thread zero = refl
steps_spaces s thread (suc n) = steps_spaces (applied s (Step thread)) thread n ∙ (step_same s thread).spaces

entry_spaces : (k : Told) (e : Entry) → IsInPlace k e → k.sealed ≡ true → (after_events k.state (events_of e)).spaces ≡ k.state.spaces
entry_spaces k (Declared d) place sealed = absurd (true≢false (sym sealed ∙ place.0))
entry_spaces k Sealed place sealed = refl
entry_spaces k (Loaded ident name cpu) place sealed = refl
entry_spaces k (WrittenBack ident cause cpu) place sealed = refl
entry_spaces k (Locked ident cpu) place sealed = refl
entry_spaces k (Unlocked ident cpu) place sealed = refl
entry_spaces k (Ran thread steps cpu) place sealed = steps_spaces k.state thread steps
entry_spaces k (Ended thread cpu) place sealed = (step_same k.state thread).spaces
entry_spaces k (Completed thread cpu) place sealed = complete_spaces k.state thread

pub spaces_stay : (k : Told) (es : List Entry) → AreLegal k es → k.sealed ≡ true → (after_events k.state (erase es)).spaces ≡ k.state.spaces
spaces_stay k [] legal sealed = refl
spaces_stay k (e ∷ es) legal sealed =
    let still : (told_after k e).sealed ≡ true = sealed_after k e ∙ ap (λ b. b || is_seal e) sealed in
    let later = spaces_stay (told_after k e) es legal.1 still in
    ap (λ (s : FlatState). s.spaces) (after_events-append k.state (events_of e) (erase es))
    ∙ (ap (λ (s : FlatState). (after_events s (erase es)).spaces) (sym (state_after k e))
    ∙ (later ∙ (ap (λ (s : FlatState). s.spaces) (state_after k e) ∙ entry_spaces k e legal.0.place sealed)))
