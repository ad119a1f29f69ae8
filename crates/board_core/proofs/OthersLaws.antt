-- What a step or a completed call leaves of the threads that don't take it.
use Rattle.std.proofs.Common.{◌≡◌, ℕ, Bool, true, false, List, [], ◌∷◌, ◌++◌, set, Option, Some, None, is_some, slice_get, refl, ap, sym, ◌∙◌, ◌⊎◌, inl, inr}
use Rattle.std.specs.Prelude.{if◌then◌else◌, unwrap_or, length}
use Rattle.cache_ident.specs.declared.names.ThreadNo.{ThreadNo}
use Rattle.cache_ident.specs.declared.names.Vpn.{Vpn}
use Rattle.phys_groups.specs.Translation.{row_of, without}
use Rattle.flat_state.specs.signal_pages.specs.Signals.{address_of}
use Rattle.rv32_exec.specs.declared.statuses.Status.{Status}
use Rattle.rv32_exec.specs.declared.statuses.Status.TheVariants.{Ready, Trapped, Ended}
use Rattle.rv32_exec.specs.declared.steps.Stepped.{Stepped}
use Rattle.rv32_exec.specs.declared.steps.Stepped.TheVariants.{Next, Call, Stop, Miss}
use Rattle.rv32_exec.specs.Steps.{After}
use Rattle.flat_state.specs.fault_forward.specs.declared.effects.Effect.{Effect}
use Rattle.flat_state.specs.fault_forward.specs.declared.effects.Effect.TheVariants as effects
use Rattle.flat_state.specs.fault_forward.specs.Calls.{Completion, completion_of}
use Rattle.flat_state.specs.declared.events.Decl.{Decl}
use Rattle.flat_state.specs.declared.events.Decl.TheVariants as decls
use Rattle.flat_state.specs.declared.events.Event.TheVariants.{Complete, Step}
use Rattle.flat_state.specs.declared.records.FlatThread.{FlatThread}
use Rattle.flat_state.specs.declared.records.Signal.{Signal}
use Rattle.flat_state.specs.Call.{after_completion, answered, complete_if, completed_so, completion_for, granting, is_completable, is_first, made, mapping, refusal, rule_of_granting, rule_of_mapping, spawning}
use Rattle.flat_state.specs.Declaration.{broken_rule, declared, new_thread}
use Rattle.flat_state.specs.Events.{after_event, applied}
use Rattle.flat_state.specs.Signals.{delivered, is_runnable, next_signal, receivers_for, sent, sent_to, with_address}
use Rattle.flat_state.specs.State.{is_ended, with_thread, FlatState}
use Rattle.flat_state.specs.Step.{after_step, outcome, step_if, step_of, stepped_so, went_on}
use Rattle.flat_state.proofs.Places.{get-set_other, push_cases, set_cases}

-- each thread but one is ready, or does what it did
abbrev pub DoesAsBefore : List FlatThread → ℕ → FlatThread → Type 0
DoesAsBefore before k u = (t : FlatThread) × (slice_get before k ≡ Some t) × (u.status ≡ t.status)

pub record OthersStay (n : ℕ) (before after : List FlatThread) : Type 0 where
  pub each : (k : ℕ) (u : FlatThread) → (k ≡ n → ⊥) → slice_get after k ≡ Some u → (u.status ≡ Ready) ⊎ DoesAsBefore before k u

module _ (n : ℕ) where
  all_stay : (threads : List FlatThread) → OthersStay n threads threads
  all_stay threads = record { each = λ k u other there. inr (u, there, refl) }

  and_then : (a b d : List FlatThread) → OthersStay n a b → OthersStay n b d → OthersStay n a d
  and_then a b d first second = record {
    each = λ k u other there. elim (second.each k u other there) [
      | inl ready ↦ inl ready
      | inr was ↦ elim (first.each k was.0 other was.1) [
        | inl ready ↦ inl (was.2 ∙ ready)
        | inr before ↦ inr (before.0, before.1, was.2 ∙ before.2)
      ]
    ];
  }

  pub one_set : (threads : List FlatThread) (y : FlatThread) → OthersStay n threads (set threads n y)
  one_set threads y = record { each = λ k u other there. inr (u, sym (get-set_other threads n k y other) ∙ there, refl) }

  address_keeps : (va : ℕ) (t : FlatThread) (b : Bool) → (if b then t else record t { queue = record { items = t.queue.items ++ va ∷ [] } }).status ≡ t.status
  address_keeps va t true = refl
  address_keeps va t false = refl

  sent_to_stay : (threads : List FlatThread) (thread : ThreadNo) (va : ℕ) (o : Option FlatThread) → slice_get threads thread.0 ≡ o → OthersStay n threads (sent_to threads thread va o)
  sent_to_stay threads thread va None here = all_stay threads
  sent_to_stay threads thread va (Some t) here = record {
    each = λ k u other there. elim (set_cases threads thread.0 k (with_address va t) u there) [
      | inl is ↦ inr (t, ap (slice_get threads) is.0 ∙ here, ap (λ (x : FlatThread). x.status) (sym is.1) ∙ address_keeps va t (is_ended t.status))
      | inr same ↦ inr (u, same, refl)
    ];
  }

  sent_stay : (threads : List FlatThread) (offset : ℕ) (receivers : List (ThreadNo × Vpn)) → OthersStay n threads (sent threads offset receivers)
  sent_stay threads offset [] = all_stay threads
  sent_stay threads offset ((thread, vpn) ∷ rest) =
      let after = sent_to threads thread (address_of vpn offset) (slice_get threads thread.0) in
      and_then threads after (sent after offset rest) (sent_to_stay threads thread (address_of vpn offset) (slice_get threads thread.0) refl) (sent_stay after offset rest)

  delivered_stay : (threads : List FlatThread) (o : Option Signal) (receivers : List (ThreadNo × Vpn)) → OthersStay n threads (delivered threads o receivers)
  delivered_stay threads None receivers = all_stay threads
  delivered_stay threads (Some signal) receivers = sent_stay threads signal.offset receivers

  -- ---- steps

  goes_on : (s : FlatState) (t : FlatThread) (after : After) (status : Status) → OthersStay n s.threads (went_on s n t after status).threads
  goes_on s t after status =
      let u : FlatThread = record t { context = after.context; status = status } in
      and_then s.threads (set s.threads n u) (delivered (set s.threads n u) (next_signal s t) (receivers_for s (next_signal s t))) (one_set s.threads u) (delivered_stay (set s.threads n u) (next_signal s t) (receivers_for s (next_signal s t)))

  by_answer : (s : FlatState) (t : FlatThread) (after : After) (answer : Stepped) → OthersStay n s.threads (stepped_so s n t after answer).threads
  by_answer s t after Next = goes_on s t after Ready
  by_answer s t after Call = goes_on s t after Trapped
  by_answer s t after (Stop reason) = goes_on s t after (Ended reason)
  by_answer s t after (Miss va access) = one_set s.threads _

  by_test : (s : FlatState) (t : FlatThread) (runnable : Bool) → OthersStay n s.threads (unwrap_or (step_if runnable s n t) s).threads
  by_test s t true = by_answer s t (outcome s t) (outcome s t).answer
  by_test s t false = all_stay s.threads

  by_thread : (s : FlatState) (o : Option FlatThread) → OthersStay n s.threads (unwrap_or (step_of s n o) s).threads
  by_thread s None = all_stay s.threads
  by_thread s (Some t) = by_test s t (is_runnable s t)

  -- ---- completed calls

  new_thread_comes : (threads : List FlatThread) (y : FlatThread) → y.status ≡ Ready → OthersStay n threads (threads ++ y ∷ [])
  new_thread_comes threads y ready = record {
    each = λ k u other there. elim (push_cases threads y u k there) [
      | inl before ↦ inr (u, before, refl)
      | inr last ↦ inl (ap (λ (x : FlatThread). x.status) (sym last.1) ∙ ready)
    ];
  }

  declared_stay : (s : FlatState) (d : Decl) → OthersStay n s.threads (declared s d).threads
  unfolding declared
  declared_stay s (decls.Machine machine) = all_stay s.threads
  declared_stay s (decls.Kernel number limits) = all_stay s.threads
  declared_stay s (decls.Right kernel group read write) = all_stay s.threads
  declared_stay s (decls.Space number kernel) = all_stay s.threads
  declared_stay s (decls.Thread number space pc priority a0 a1) = new_thread_comes s.threads (new_thread number space pc priority a0 a1) refl
  declared_stay s (decls.Map space vpn frame flags receiver) = all_stay s.threads
  declared_stay s (decls.Word frame offset value) = all_stay s.threads

  made_stay : (s : FlatState) (t : FlatThread) (d : Decl) (answer : ℕ) (rule : Option ℕ) → OthersStay n s.threads (made s n t d answer rule).threads
  made_stay s t d answer None = and_then s.threads (declared s d).threads (set (declared s d).threads n (answered t answer)) (declared_stay s d) (one_set (declared s d).threads (answered t answer))
  made_stay s t d answer (Some rule) = one_set s.threads (answered t (refusal rule))

  unmapped_stay : (s : FlatState) (t : FlatThread) (vpn : ℕ) (there : Bool) → OthersStay n s.threads (if there then with_thread (record s { rows = without t.space vpn s.rows }) n (answered t 0) else with_thread s n (answered t (refusal 1))).threads
  unmapped_stay s t vpn true = one_set s.threads (answered t 0)
  unmapped_stay s t vpn false = one_set s.threads (answered t (refusal 1))

  granted_stay : (s : FlatState) (t : FlatThread) (d : Decl) (bits : ℕ) (of_first : Bool) → OthersStay n s.threads (if of_first then made s n t d 0 (rule_of_granting s d bits) else with_thread s n (answered t (refusal 1))).threads
  granted_stay s t d bits true = made_stay s t d 0 (rule_of_granting s d bits)
  granted_stay s t d bits false = one_set s.threads (answered t (refusal 1))

  effect_stays : (s : FlatState) (t : FlatThread) (c : Completion) (effect : Effect) → OthersStay n s.threads (completed_so s n t c effect).threads
  effect_stays s t c effects.Ready = one_set s.threads _
  effect_stays s t c (effects.Put byte) = one_set s.threads _
  effect_stays s t c (effects.Decimal number) = one_set s.threads _
  effect_stays s t c (effects.End reason) = one_set s.threads _
  effect_stays s t c (effects.Map vpn frame flags receiver) = made_stay s t (mapping t vpn frame flags receiver) 0 (rule_of_mapping s (mapping t vpn frame flags receiver) flags)
  effect_stays s t c (effects.Unmap vpn) = unmapped_stay s t vpn (is_some (row_of s.rows t.space vpn))
  effect_stays s t c (effects.Spawn pc a0 priority) = made_stay s t (spawning s t pc a0 priority) (length s.threads) (broken_rule s (spawning s t pc a0 priority))
  effect_stays s t c (effects.Grant kernel group bits) = granted_stay s t (granting kernel group bits) bits (is_first (slice_get s.spaces t.space.0))

  completable_stay : (s : FlatState) (t : FlatThread) (able : Bool) → OthersStay n s.threads (unwrap_or (complete_if able s n t) s).threads
  completable_stay s t true = effect_stays s t (completion_of t.no t.context t.queue.items) (completion_of t.no t.context t.queue.items).effect
  completable_stay s t false = all_stay s.threads

  completion_stays : (s : FlatState) (o : Option FlatThread) → OthersStay n s.threads (unwrap_or (completion_for s n o) s).threads
  completion_stays s None = all_stay s.threads
  completion_stays s (Some t) = completable_stay s t (is_completable t)

pub step_others : (s : FlatState) (thread : ThreadNo) → OthersStay thread.0 s.threads (applied s (Step thread)).threads
unfolding after_step
step_others s thread = by_thread thread.0 s (slice_get s.threads thread.0)

pub call_others : (s : FlatState) (thread : ThreadNo) → OthersStay thread.0 s.threads (applied s (Complete thread)).threads
unfolding after_completion
call_others s thread = completion_stays thread.0 s (slice_get s.threads thread.0)

-- ---- memory over a completed call

made_memory : (s : FlatState) (n : ℕ) (t : FlatThread) (d : Decl) (answer : ℕ) (rule : Option ℕ) → (declared s d).memory ≡ s.memory → (made s n t d answer rule).memory ≡ s.memory
made_memory s n t d answer None same = same
made_memory s n t d answer (Some rule) same = refl

unmapped_memory : (s : FlatState) (n : ℕ) (t : FlatThread) (vpn : ℕ) (there : Bool) → (if there then with_thread (record s { rows = without t.space vpn s.rows }) n (answered t 0) else with_thread s n (answered t (refusal 1))).memory ≡ s.memory
unmapped_memory s n t vpn true = refl
unmapped_memory s n t vpn false = refl

granted_memory : (s : FlatState) (n : ℕ) (t : FlatThread) (d : Decl) (bits : ℕ) (of_first : Bool) → (declared s d).memory ≡ s.memory → (if of_first then made s n t d 0 (rule_of_granting s d bits) else with_thread s n (answered t (refusal 1))).memory ≡ s.memory
granted_memory s n t d bits true same = made_memory s n t d 0 (rule_of_granting s d bits) same
granted_memory s n t d bits false same = refl

effect_memory : (s : FlatState) (n : ℕ) (t : FlatThread) (c : Completion) (effect : Effect) → (completed_so s n t c effect).memory ≡ s.memory
unfolding declared
effect_memory s n t c effects.Ready = refl
effect_memory s n t c (effects.Put byte) = refl
effect_memory s n t c (effects.Decimal number) = refl
effect_memory s n t c (effects.End reason) = refl
effect_memory s n t c (effects.Map vpn frame flags receiver) = made_memory s n t (mapping t vpn frame flags receiver) 0 (rule_of_mapping s (mapping t vpn frame flags receiver) flags) refl
effect_memory s n t c (effects.Unmap vpn) = unmapped_memory s n t vpn (is_some (row_of s.rows t.space vpn))
effect_memory s n t c (effects.Spawn pc a0 priority) = made_memory s n t (spawning s t pc a0 priority) (length s.threads) (broken_rule s (spawning s t pc a0 priority)) refl
effect_memory s n t c (effects.Grant kernel group bits) = granted_memory s n t (granting kernel group bits) bits (is_first (slice_get s.spaces t.space.0)) refl

completable_memory : (s : FlatState) (n : ℕ) (t : FlatThread) (able : Bool) → (unwrap_or (complete_if able s n t) s).memory ≡ s.memory
completable_memory s n t true = effect_memory s n t (completion_of t.no t.context t.queue.items) (completion_of t.no t.context t.queue.items).effect
completable_memory s n t false = refl

completion_memory : (s : FlatState) (n : ℕ) (o : Option FlatThread) → (unwrap_or (completion_for s n o) s).memory ≡ s.memory
completion_memory s n None = refl
completion_memory s n (Some t) = completable_memory s n t (is_completable t)

pub call_memory : (s : FlatState) (thread : ThreadNo) → (applied s (Complete thread)).memory ≡ s.memory
unfolding after_completion
call_memory s thread = completion_memory s thread.0 (slice_get s.threads thread.0)

-- the call of a thread that can complete it fits
pub call_fits : (s : FlatState) (thread : ThreadNo) (t : FlatThread) → slice_get s.threads thread.0 ≡ Some t → is_completable t ≡ true → is_some (after_event s (Complete thread)) ≡ true
unfolding after_completion
call_fits s thread t here able = ap (λ (o : Option FlatThread). is_some (completion_for s thread.0 o)) here ∙ ap (λ (b : Bool). is_some (complete_if b s thread.0 t)) able
