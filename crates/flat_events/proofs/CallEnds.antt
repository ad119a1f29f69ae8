-- What comes of a call is what its effect says.
use Rattle.std.proofs.Common.{◌≡◌, ℕ, Bool, true, false, Option, Some, None, slice_get, refl, ap, ap₂, sym, ◌∙◌}
use Rattle.std.specs.Prelude.{◌==◌, is_some, unwrap_or, if◌then◌else◌, List, [], ◌∷◌, length}
use Rattle.cache_ident.specs.declared.names.ThreadNo.{ThreadNo}
use Rattle.phys_groups.specs.Translation.{row_of, without}
use Rattle.rv32_exec.specs.declared.contexts.Context.{Context}
use Rattle.fault_forward.specs.declared.effects.Effect.{Effect}
use Rattle.fault_forward.specs.declared.effects.Effect.TheVariants as effects
use Rattle.fault_forward.specs.Calls.{Completion, call_number, completion_of, taken}
use Rattle.flat_state.specs.declared.events.Decl.{Decl}
use Rattle.flat_state.specs.declared.records.FlatThread.{FlatThread}
use Rattle.flat_state.specs.State.{FlatState, with_thread}
use Rattle.flat_state.specs.Declaration.{broken_rule}
use Rattle.flat_state.specs.Call.{after_completion, answered, completed_so, granting, is_completable, is_first, made, mapping, refusal, rule_of_granting, rule_of_mapping, spawning}
use Rattle.flat_thread.specs.Calls.{call_of, own_part_so}
use Rattle.flat_events.specs.declared.asked.Asked.{Asked}
use Rattle.flat_events.specs.declared.asked.Asked.TheVariants.{Refused, Unmaps}
use Rattle.flat_events.specs.Asked.{after_asked, asked_of, asked_so, asks_if}

-- the effect of a call is that of its context, whoever is in it and whatever waits in the queue
one_of : (test : Bool) (x x' y y' : Completion) → x.effect ≡ x'.effect → y.effect ≡ y'.effect → (if test then x else y).effect ≡ (if test then x' else y').effect
one_of true x x' y y' first other = first
one_of false x x' y y' first other = other

taken_effect : (c : Context) (q : List ℕ) → (taken c q).effect ≡ effects.Ready
taken_effect c [] = refl
taken_effect c (first ∷ q) = refl

pub same_effect : (a b : ThreadNo) (c : Context) (q r : List ℕ) → (completion_of a c q).effect ≡ (completion_of b c r).effect
same_effect a b c q r =
    let n = call_number c in
    one_of (n == 0) _ _ _ _ refl
    (one_of (n == 1) _ _ _ _ refl
    (one_of (n == 2) _ _ _ _ refl
    (one_of (n == 3) _ _ _ _ (taken_effect c q ∙ sym (taken_effect c r))
    (one_of (n == 4) _ _ _ _ refl
    (one_of (n == 5) _ _ _ _ refl
    (one_of (n == 6) _ _ _ _ refl
    (one_of (n == 7) _ _ _ _ refl
    (one_of (n == 8) _ _ _ _ refl
    (one_of (n == 9) _ _ _ _ refl refl)))))))))

module _ (s : FlatState) (n : ℕ) (t : FlatThread) where
  made_so : (rule : Option ℕ) (d : Decl) (answer : ℕ) → made s n t d answer rule ≡ after_asked s n t (asks_if rule d answer)
  made_so None d answer = refl
  made_so (Some rule) d answer = refl

  -- what comes of a call with that effect comes of what it asks for
  so : (effect : Effect) → (call_of t).effect ≡ effect → completed_so s n t (call_of t) effect ≡ after_asked s n t (asked_so s t effect)
  so effects.Ready is = sym (ap (λ (x : Effect). with_thread s n (own_part_so t (call_of t) x)) is)
  so (effects.Put byte) is = sym (ap (λ (x : Effect). with_thread s n (own_part_so t (call_of t) x)) is)
  so (effects.Decimal number) is = sym (ap (λ (x : Effect). with_thread s n (own_part_so t (call_of t) x)) is)
  so (effects.End reason) is = sym (ap (λ (x : Effect). with_thread s n (own_part_so t (call_of t) x)) is)
  so (effects.Map vpn frame flags receiver) is = made_so (rule_of_mapping s (mapping t vpn frame flags receiver) flags) (mapping t vpn frame flags receiver) 0
  so (effects.Unmap vpn) is = by (is_some (row_of s.rows t.space vpn))
    where
      by : (found : Bool) → (if found then with_thread (record s { rows = without t.space vpn s.rows }) n (answered t 0) else with_thread s n (answered t (refusal 1))) ≡ after_asked s n t (if found then Unmaps t.space (record { 0 = vpn }) else Refused 1)
      by true = refl
      by false = refl
  so (effects.Spawn pc a0 priority) is = made_so (broken_rule s (spawning s t pc a0 priority)) (spawning s t pc a0 priority) (length s.threads)
  so (effects.Grant kernel group bits) is = by (is_first (slice_get s.spaces t.space.0))
    where
      by : (first : Bool) → (if first then made s n t (granting kernel group bits) 0 (rule_of_granting s (granting kernel group bits) bits) else with_thread s n (answered t (refusal 1))) ≡ after_asked s n t (if first then asks_if (rule_of_granting s (granting kernel group bits) bits) (granting kernel group bits) 0 else Refused 1)
      by true = made_so (rule_of_granting s (granting kernel group bits) bits) (granting kernel group bits) 0
      by false = refl

  -- what comes of a call that can be completed comes of what it asks for
  pub comes_of_it : slice_get s.threads n ≡ Some t → is_completable t ≡ true → after_completion s n ≡ Some (after_asked s n t (asked_of s t))
  unfolding after_completion call_of
  comes_of_it here completable = rw (here, completable) (ap Some (so (call_of t).effect refl))

  -- so it is what is left
  pub left : (asked : Asked) → after_completion s n ≡ Some (after_asked s n t asked) → after_asked s n t asked ≡ unwrap_or (after_completion s n) s
  left asked comes = sym (ap (λ (o : Option FlatState). unwrap_or o s) comes)

  -- what a thread asks for, as its context has it
  pub asked_from : (first : FlatThread) (context : Context) (effect : Effect) → first ≡ t → context ≡ first.context → ((number : ThreadNo) (queue : List ℕ) → effect ≡ (completion_of number context queue).effect) → asked_so s first effect ≡ asked_of s t
  unfolding call_of
  asked_from first context effect same at is =
      ap₂ (λ (u : FlatThread) (e : Effect). asked_so s u e) same (is t.no t.queue.items ∙ ap (λ (x : Context). (completion_of t.no x t.queue.items).effect) (at ∙ ap (λ (u : FlatThread). u.context) same))
