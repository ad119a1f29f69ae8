-- A step and a completed call leave the machine what it is.
use Rattle.std.proofs.Common.{◌≡◌, ℕ, Bool, true, false, Option, Some, None, slice_get, refl}
use Rattle.std.specs.Prelude.{if◌then◌else◌, unwrap_or, is_some, length}
use Rattle.cache_ident.specs.declared.names.ThreadNo.{ThreadNo}
use Rattle.group_laws.specs.rv32_exec.specs.declared.steps.Stepped.{Stepped}
use Rattle.group_laws.specs.rv32_exec.specs.declared.steps.Stepped.TheVariants.{Next, Call, Stop, Miss}
use Rattle.group_laws.specs.rv32_exec.specs.Steps.{After}
use Rattle.group_laws.specs.fault_forward.specs.declared.effects.Effect.{Effect}
use Rattle.group_laws.specs.fault_forward.specs.declared.effects.Effect.TheVariants as effects
use Rattle.group_laws.specs.fault_forward.specs.Calls.{Completion, completion_of}
use Rattle.group_laws.specs.flat_state.specs.declared.events.Event.TheVariants.{Step, Complete}
use Rattle.group_laws.specs.flat_state.specs.declared.events.Decl.{Decl}
use Rattle.group_laws.specs.flat_state.specs.declared.records.FlatThread.{FlatThread}
use Rattle.group_laws.specs.flat_state.specs.State.{FlatState, with_thread}
use Rattle.phys_groups.specs.Translation.{row_of, without}
use Rattle.group_laws.specs.flat_state.specs.Declaration.{broken_rule, declared}
use Rattle.group_laws.specs.flat_state.specs.Signals.{is_runnable}
use Rattle.group_laws.specs.flat_state.specs.Step.{outcome, stepped_so, step_if, step_of, after_step}
use Rattle.group_laws.specs.flat_state.specs.Call.{answered, complete_if, completed_so, completion_for, granting, is_completable, is_first, made, mapping, refusal, rule_of_granting, rule_of_mapping, spawning, after_completion}
use Rattle.group_laws.specs.flat_state.specs.Events.{applied}

-- which machine it is
abbrev Same : FlatState → FlatState → Type 0
Same s u = u.machine ≡ s.machine

pub step_machine : (s : FlatState) (thread : ThreadNo) → (applied s (Step thread)).machine ≡ s.machine
unfolding after_step
step_machine s thread = by (slice_get s.threads thread.0)
  where
    so : (t : FlatThread) (after : After) (answer : Stepped) → Same s (stepped_so s thread.0 t after answer)
    so t after Next = refl
    so t after Call = refl
    so t after (Stop reason) = refl
    so t after (Miss va access) = refl

    may : (b : Bool) (t : FlatThread) → Same s (unwrap_or (step_if b s thread.0 t) s)
    may true t = so t (outcome s t) (outcome s t).answer
    may false t = refl

    by : (o : Option FlatThread) → Same s (unwrap_or (step_of s thread.0 o) s)
    by None = refl
    by (Some t) = may (is_runnable s t) t

made_machine : (s : FlatState) (n : ℕ) (t : FlatThread) (d : Decl) (answer : ℕ) (rule : Option ℕ) → Same s (declared s d) → Same s (made s n t d answer rule)
made_machine s n t d answer None same = same
made_machine s n t d answer (Some rule) same = refl

effect_machine : (s : FlatState) (n : ℕ) (t : FlatThread) (c : Completion) (effect : Effect) → Same s (completed_so s n t c effect)
unfolding declared
effect_machine s n t c effects.Ready = refl
effect_machine s n t c (effects.Put byte) = refl
effect_machine s n t c (effects.Decimal number) = refl
effect_machine s n t c (effects.End reason) = refl
effect_machine s n t c (effects.Map vpn frame flags receiver) = made_machine s n t (mapping t vpn frame flags receiver) 0 (rule_of_mapping s (mapping t vpn frame flags receiver) flags) refl
effect_machine s n t c (effects.Unmap vpn) = by (is_some (row_of s.rows t.space vpn))
  where
    by : (b : Bool) → Same s (if b then with_thread (record s { rows = without t.space vpn s.rows }) n (answered t 0) else with_thread s n (answered t (refusal 1)))
    by true = refl
    by false = refl
effect_machine s n t c (effects.Spawn pc a0 priority) = made_machine s n t (spawning s t pc a0 priority) (length s.threads) (broken_rule s (spawning s t pc a0 priority)) refl
effect_machine s n t c (effects.Grant kernel group bits) = by (is_first (slice_get s.spaces t.space.0))
  where
    by : (b : Bool) → Same s (if b then made s n t (granting kernel group bits) 0 (rule_of_granting s (granting kernel group bits) bits) else with_thread s n (answered t (refusal 1)))
    by true = made_machine s n t (granting kernel group bits) 0 (rule_of_granting s (granting kernel group bits) bits) refl
    by false = refl

pub completed_machine : (s : FlatState) (thread : ThreadNo) → (applied s (Complete thread)).machine ≡ s.machine
unfolding after_completion
completed_machine s thread = by (slice_get s.threads thread.0)
  where
    may : (b : Bool) (t : FlatThread) → Same s (unwrap_or (complete_if b s thread.0 t) s)
    may true t = let c = completion_of t.no t.context t.queue.items in effect_machine s thread.0 t c c.effect
    may false t = refl

    by : (o : Option FlatThread) → Same s (unwrap_or (completion_for s thread.0 o) s)
    by None = refl
    by (Some t) = may (is_completable t) t
