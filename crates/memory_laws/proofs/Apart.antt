-- What doesn't read memory is the same over any memory: the rules of declarations, what declarations but words add, and calls.
use Rattle.std.proofs.Common.{◌≡◌, ℕ, Bool, true, false, List, length, Option, Some, None, slice_get, refl, ap, ◌∙◌}
use Rattle.std.specs.Prelude.{◌==◌, ◌||◌, is_some, if◌then◌else◌, nat_lt}
use Rattle.std.specs.Option.{option_map}
use Rattle.phys_groups.specs.Translation.{row_of}
use Rattle.flat_state.specs.fault_forward.specs.declared.effects.Effect.{Effect}
use Rattle.flat_state.specs.fault_forward.specs.declared.effects.Effect.TheVariants as effects
use Rattle.flat_state.specs.fault_forward.specs.Calls.{Completion, completion_of}
use Rattle.flat_state.specs.declared.events.Decl.{Decl}
use Rattle.flat_state.specs.declared.events.Decl.TheVariants as decls
use Rattle.flat_state.specs.declared.events.Machine.{Machine}
use Rattle.flat_state.specs.declared.records.FlatThread.{FlatThread}
use Rattle.flat_state.specs.State.{FlatState, with_thread}
use Rattle.flat_state.specs.Declaration.{breaks, broken_rule, declared, rule_by_machine}
use Rattle.memory_laws.specs.Apart.{is_apart, over}
use Rattle.flat_state.specs.Call.{after_completion, answered, complete_if, completed_so, completion_for, granting, is_completable, is_first, made, mapping, rule_of_granting, rule_of_mapping, spawning}

module _ (s : FlatState) (memory : List ℕ) where
  pub rule_apart : (d : Decl) → broken_rule (over s memory) d ≡ broken_rule s d
  unfolding broken_rule
  rule_apart d = by d s.machine
    where
      by : (d : Decl) (o : Option Machine) → rule_by_machine o (over s memory) d ≡ rule_by_machine o s d
      by d None = refl
      by (decls.Machine machine) (Some m) = refl
      by (decls.Kernel n limits) (Some m) = refl
      by (decls.Right kernel group read write) (Some m) = refl
      by (decls.Space n kernel) (Some m) = refl
      by (decls.Thread n space pc priority a0 a1) (Some m) = refl
      by (decls.Map space vpn frame flags receiver) (Some m) = refl
      by (decls.Word frame offset value) (Some m) = refl

  pub declared_apart : (d : Decl) → is_apart d ≡ true → declared (over s memory) d ≡ over (declared s d) memory
  unfolding declared
  declared_apart (decls.Machine machine) apart = absurd (cc)
  declared_apart (decls.Kernel n limits) apart = refl
  declared_apart (decls.Right kernel group read write) apart = refl
  declared_apart (decls.Space n kernel) apart = refl
  declared_apart (decls.Thread n space pc priority a0 a1) apart = refl
  declared_apart (decls.Map space vpn frame flags receiver) apart = refl
  declared_apart (decls.Word frame offset value) apart = absurd (cc)

  -- a declaration by a call
  made_apart : (n : ℕ) (t : FlatThread) (d : Decl) (answer : ℕ) (a b : Option ℕ) → a ≡ b → is_apart d ≡ true → made (over s memory) n t d answer a ≡ over (made s n t d answer b) memory
  made_apart n t d answer a b same apart = ap (made (over s memory) n t d answer) same ∙ by b
    where
      by : (b : Option ℕ) → made (over s memory) n t d answer b ≡ over (made s n t d answer b) memory
      by None = ap (λ (u : FlatState). with_thread u n (answered t answer)) (declared_apart d apart)
      by (Some rule) = refl

  either : (b : Bool) (u v x y : FlatState) → u ≡ over x memory → v ≡ over y memory → (if b then u else v) ≡ over (if b then x else y) memory
  either true u v x y one other = one
  either false u v x y one other = other

  completed_apart : (n : ℕ) (t : FlatThread) (c : Completion) (effect : Effect) → completed_so (over s memory) n t c effect ≡ over (completed_so s n t c effect) memory
  completed_apart n t c effects.Ready = refl
  completed_apart n t c (effects.Put byte) = refl
  completed_apart n t c (effects.Decimal number) = refl
  completed_apart n t c (effects.End reason) = refl
  completed_apart n t c (effects.Map vpn frame flags receiver) =
      let d = mapping t vpn frame flags receiver in
      made_apart n t d 0 (rule_of_mapping (over s memory) d flags) (rule_of_mapping s d flags) (ap (λ (o : Option ℕ). breaks ((flags == 0) || nat_lt 15 flags) 4 o) (rule_apart d)) refl
  completed_apart n t c (effects.Unmap vpn) = either (is_some (row_of s.rows t.space vpn)) _ _ _ _ refl refl
  completed_apart n t c (effects.Spawn pc a0 priority) =
      let d = spawning s t pc a0 priority in
      made_apart n t d (length s.threads) (broken_rule (over s memory) d) (broken_rule s d) (rule_apart d) refl
  completed_apart n t c (effects.Grant kernel group bits) =
      let d = granting kernel group bits in
      either (is_first (slice_get s.spaces t.space.0)) _ _ _ _
      (made_apart n t d 0 (rule_of_granting (over s memory) d bits) (rule_of_granting s d bits) (ap (λ (o : Option ℕ). breaks (nat_lt 3 bits) 4 o) (rule_apart d)) refl) refl

  pub completion_apart : (n : ℕ) → after_completion (over s memory) n ≡ option_map (λ u. over u memory) (after_completion s n)
  unfolding after_completion
  completion_apart n = by_thread (slice_get s.threads n)
    where
      by_completable : (t : FlatThread) (b : Bool) → complete_if b (over s memory) n t ≡ option_map (λ u. over u memory) (complete_if b s n t)
      by_completable t false = refl
      by_completable t true = ap Some (completed_apart n t (completion_of t.no t.context t.queue.items) (completion_of t.no t.context t.queue.items).effect)

      by_thread : (o : Option FlatThread) → completion_for (over s memory) n o ≡ option_map (λ u. over u memory) (completion_for s n o)
      by_thread None = refl
      by_thread (Some t) = by_completable t (is_completable t)
