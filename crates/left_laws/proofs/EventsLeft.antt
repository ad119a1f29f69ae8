-- A step brings at most one call, a completed call takes one, and no other event changes how many there are.
use Rattle.std.proofs.Common.{◌≡◌, ℕ, zero, suc, ◌+◌, ◌<◌, ◌≤◌, Bool, true, false, List, [], ◌∷◌, ◌++◌, set, get_or, Option, Some, None, is_some, slice_get, refl, ap, sym, ◌∙◌, arith, length, add-zero}
use Rattle.std.specs.Prelude.{if◌then◌else◌, ◌&&◌, not, unwrap_or, count_by}
use Rattle.std.proofs.lemmas.List.Sums.{sum_by-set, sum_by-append}
use Rattle.std.proofs.lemmas.Option.{same_Some}
use Rattle.cache_ident.specs.declared.names.ThreadNo.{ThreadNo}
use Rattle.cache_ident.specs.declared.names.Vpn.{Vpn}
use Rattle.phys_groups.specs.Translation.{row_of, without}
use Rattle.board_core.specs.signal_pages.specs.Signals.{address_of}
use Rattle.board_core.specs.rv32_exec.specs.declared.statuses.Status.{Status}
use Rattle.board_core.specs.rv32_exec.specs.declared.statuses.Status.TheVariants.{Ready, Trapped, Ended}
use Rattle.board_core.specs.rv32_exec.specs.declared.steps.Stepped.{Stepped}
use Rattle.board_core.specs.rv32_exec.specs.declared.steps.Stepped.TheVariants.{Next, Call, Stop, Miss}
use Rattle.board_core.specs.rv32_exec.specs.Steps.{After}
use Rattle.board_core.specs.fault_forward.specs.declared.effects.Effect.{Effect}
use Rattle.board_core.specs.fault_forward.specs.declared.effects.Effect.TheVariants as effects
use Rattle.board_core.specs.fault_forward.specs.Calls.{Completion, completion_of}
use Rattle.board_core.specs.flat_state.specs.declared.events.Decl.{Decl}
use Rattle.board_core.specs.flat_state.specs.declared.events.Decl.TheVariants as decls
use Rattle.board_core.specs.flat_state.specs.declared.events.Event.{Event}
use Rattle.board_core.specs.flat_state.specs.declared.events.Event.TheVariants.{Declare, Step, Complete}
use Rattle.board_core.specs.flat_state.specs.declared.records.FlatThread.{FlatThread}
use Rattle.board_core.specs.flat_state.specs.declared.records.Signal.{Signal}
use Rattle.board_core.specs.flat_state.specs.State.{FlatState, with_thread, is_trapped, is_ended}
use Rattle.board_core.specs.flat_state.specs.Declaration.{broken_rule, declared}
use Rattle.board_core.specs.flat_state.specs.Signals.{is_runnable, next_signal, receivers_for, with_address, sent_to, sent, delivered}
use Rattle.board_core.specs.flat_state.specs.Step.{outcome, went_on, stepped_so, step_if, step_of, after_step}
use Rattle.board_core.specs.flat_state.specs.Call.{answered, refusal, made, mapping, rule_of_mapping, mapped, unmapped, spawning, spawned, is_first, granting, rule_of_granting, granted, completed_so, complete_if, completion_for, after_completion, is_completable, waits}
use Rattle.board_core.specs.flat_state.specs.Events.{declared_unless, applied, after_events}
use Rattle.board_core.specs.flat_state.proofs.Places.{count_by-cons, get-append}
use Rattle.board_core.specs.run_journal.specs.Entries.{is_step}
use Rattle.left_laws.specs.Left.{in_call, calls_among, calls_in}

-- ---- one thread in the place of another

-- what is in a place is what the list has there
at_place : (ts : List FlatThread) (n : ℕ) (t : FlatThread) → slice_get ts n ≡ Some t → (n < length ts) × (get_or ts n t ≡ t)
at_place [] n t e = absurd (cc)
at_place (x ∷ ts) zero t e = (omega arith, same_Some x t e)
at_place (x ∷ ts) (suc n) t e = let rest = at_place ts n t e in (omega (arith, rest.0), rest.1)

placed : (ts : List FlatThread) (n : ℕ) (t u : FlatThread) → slice_get ts n ≡ Some t → calls_among (set ts n u) + in_call t ≡ calls_among ts + in_call u
placed ts n t u here =
    let at = at_place ts n t here in
    ap (λ v. calls_among (set ts n u) + in_call v) (sym at.1) ∙ sum_by-set in_call ts n u t at.0

-- ---- what a signal leaves

addressed : (va : ℕ) (t : FlatThread) → in_call (with_address va t) ≡ in_call t
addressed va t = by (is_ended t.status)
  where
    by : (b : Bool) → in_call (if b then t else record t { queue = record { items = t.queue.items ++ va ∷ [] } }) ≡ in_call t
    by true = refl
    by false = refl

sent_to_same : (ts : List FlatThread) (thread : ThreadNo) (va : ℕ) (o : Option FlatThread) → slice_get ts thread.0 ≡ o → calls_among (sent_to ts thread va o) ≡ calls_among ts
sent_to_same ts thread va None here = refl
sent_to_same ts thread va (Some t) here =
    let one = placed ts thread.0 t (with_address va t) here in
    let same = addressed va t in
    omega (arith, one, same)

sent_same : (ts : List FlatThread) (offset : ℕ) (receivers : List (ThreadNo × Vpn)) → calls_among (sent ts offset receivers) ≡ calls_among ts
sent_same ts offset [] = refl
sent_same ts offset ((thread, vpn) ∷ rest) =
    sent_same (sent_to ts thread (address_of vpn offset) (slice_get ts thread.0)) offset rest
    ∙ sent_to_same ts thread (address_of vpn offset) (slice_get ts thread.0) refl

delivered_same : (ts : List FlatThread) (o : Option Signal) (receivers : List (ThreadNo × Vpn)) → calls_among (delivered ts o receivers) ≡ calls_among ts
delivered_same ts None receivers = refl
delivered_same ts (Some signal) receivers = sent_same ts signal.offset receivers

-- ---- a step

most_one : (t : FlatThread) → in_call t ≤ 1
most_one t = by (is_trapped t.status)
  where
    by : (b : Bool) → (if b then 1 else 0) ≤ 1
    by true = omega arith
    by false = omega arith

module _ (s : FlatState) (n : ℕ) (t : FlatThread) (here : slice_get s.threads n ≡ Some t) where
  in_its_place : (u : FlatThread) → calls_among (set s.threads n u) ≤ calls_in s + 1
  in_its_place u =
      let one = placed s.threads n t u here in
      let most = most_one u in
      omega (arith, one, most)

  goes_on : (after : After) (status : Status) → calls_in (went_on s n t after status) ≤ calls_in s + 1
  goes_on after status =
      let u : FlatThread = record t { context = after.context; status = status } in
      let same = delivered_same (set s.threads n u) (next_signal s t) (receivers_for s (next_signal s t)) in
      let most = in_its_place u in
      omega (arith, same, most)

  by_answer : (after : After) (answer : Stepped) → calls_in (stepped_so s n t after answer) ≤ calls_in s + 1
  by_answer after Next = goes_on after Ready
  by_answer after Call = goes_on after Trapped
  by_answer after (Stop reason) = goes_on after (Ended reason)
  by_answer after (Miss va access) = in_its_place _

pub step_brings_one : (s : FlatState) (thread : ThreadNo) → calls_in (applied s (Step thread)) ≤ calls_in s + 1
unfolding after_step
step_brings_one s thread = by (slice_get s.threads thread.0) refl
  where
    by_test : (t : FlatThread) → slice_get s.threads thread.0 ≡ Some t → (runnable : Bool) → calls_in (unwrap_or (step_if runnable s thread.0 t) s) ≤ calls_in s + 1
    by_test t here true = by_answer s thread.0 t here (outcome s t) (outcome s t).answer
    by_test t here false = omega arith

    by : (o : Option FlatThread) → slice_get s.threads thread.0 ≡ o → calls_in (unwrap_or (step_of s thread.0 o) s) ≤ calls_in s + 1
    by None here = omega arith
    by (Some t) here = by_test t here (is_runnable s t)

-- ---- a declaration

pub declared_same : (s : FlatState) (d : Decl) → calls_in (declared s d) ≡ calls_in s
unfolding declared
declared_same s (decls.Machine machine) = refl
declared_same s (decls.Kernel number limits) = refl
declared_same s (decls.Right kernel group read write) = refl
declared_same s (decls.Space number kernel) = refl
declared_same s (decls.Thread number space pc priority a0 a1) = sum_by-append in_call s.threads _ ∙ add-zero _
declared_same s (decls.Map space vpn frame flags receiver) = refl
declared_same s (decls.Word frame offset value) = refl

-- ---- a completion

module _ (s : FlatState) (n : ℕ) (t : FlatThread) (here : slice_get s.threads n ≡ Some t) (trapped : in_call t ≡ 1) where
  comes_back : (ts : List FlatThread) (u : FlatThread) → calls_among ts ≡ calls_in s → slice_get ts n ≡ Some t → in_call u ≡ 0 → calls_among (set ts n u) + 1 ≡ calls_in s
  comes_back ts u same there free =
      let one = placed ts n t u there in
      omega (arith, one, same, trapped, free)

  made_takes : (d : Decl) (answer : ℕ) (rule : Option ℕ) → slice_get (declared s d).threads n ≡ Some t → calls_in (made s n t d answer rule) + 1 ≡ calls_in s
  made_takes d answer None there = comes_back (declared s d).threads (answered t answer) (declared_same s d) there refl
  made_takes d answer (Some rule) there = comes_back s.threads (answered t (refusal rule)) refl here refl

  mapped_takes : (vpn frame bits receiver flags : ℕ) → calls_in (mapped s n t (mapping t vpn frame bits receiver) flags) + 1 ≡ calls_in s
  unfolding declared
  mapped_takes vpn frame bits receiver flags = made_takes (mapping t vpn frame bits receiver) 0 (rule_of_mapping s (mapping t vpn frame bits receiver) flags) here

  unmapped_takes : (vpn : ℕ) → calls_in (unmapped s n t vpn) + 1 ≡ calls_in s
  unmapped_takes vpn = by (is_some (row_of s.rows t.space vpn))
    where
      by : (b : Bool) → calls_in (if b then with_thread (record s { rows = without t.space vpn s.rows }) n (answered t 0) else with_thread s n (answered t (refusal 1))) + 1 ≡ calls_in s
      by true = comes_back s.threads (answered t 0) refl here refl
      by false = comes_back s.threads (answered t (refusal 1)) refl here refl

  spawned_takes : (pc a0 priority : ℕ) → calls_in (spawned s n t (spawning s t pc a0 priority)) + 1 ≡ calls_in s
  unfolding declared
  spawned_takes pc a0 priority = made_takes (spawning s t pc a0 priority) _ (broken_rule s (spawning s t pc a0 priority)) (get-append s.threads _ n t here)

  granted_takes : (kernel group bits : ℕ) → calls_in (granted s n t (granting kernel group bits) bits) + 1 ≡ calls_in s
  unfolding declared
  granted_takes kernel group bits = by (is_first (slice_get s.spaces t.space.0))
    where
      by : (b : Bool) → calls_in (if b then made s n t (granting kernel group bits) 0 (rule_of_granting s (granting kernel group bits) bits) else with_thread s n (answered t (refusal 1))) + 1 ≡ calls_in s
      by true = made_takes (granting kernel group bits) 0 (rule_of_granting s (granting kernel group bits) bits) here
      by false = comes_back s.threads (answered t (refusal 1)) refl here refl

  completed_takes : (c : Completion) (effect : Effect) → calls_in (completed_so s n t c effect) + 1 ≡ calls_in s
  completed_takes c effects.Ready = comes_back s.threads _ refl here refl
  completed_takes c (effects.Put byte) = comes_back s.threads _ refl here refl
  completed_takes c (effects.Decimal number) = comes_back s.threads _ refl here refl
  completed_takes c (effects.End reason) = comes_back s.threads _ refl here refl
  completed_takes c (effects.Map vpn frame flags receiver) = mapped_takes vpn frame flags receiver flags
  completed_takes c (effects.Unmap vpn) = unmapped_takes vpn
  completed_takes c (effects.Spawn pc a0 priority) = spawned_takes pc a0 priority
  completed_takes c (effects.Grant kernel group bits) = granted_takes kernel group bits

abbrev one_of : Bool → ℕ
one_of b = if b then 1 else 0

-- who can be completed is in a call
completable_in_call : (t : FlatThread) → is_completable t ≡ true → in_call t ≡ 1
completable_in_call t e = by (is_trapped t.status) e
  where
    by : (b : Bool) → (b && not (waits t)) ≡ true → one_of b ≡ 1
    by true e = refl
    by false e = absurd (cc)

-- a call that can be completed is one that is gone then
pub completion_takes_one : (s : FlatState) (thread : ThreadNo) (t : FlatThread) → slice_get s.threads thread.0 ≡ Some t → is_completable t ≡ true → calls_in (applied s (Complete thread)) + 1 ≡ calls_in s
unfolding after_completion
completion_takes_one s thread t here completable =
    let c = completion_of t.no t.context t.queue.items in
    let so = completed_takes s thread.0 t here (completable_in_call t completable) c c.effect in
    let is : applied s (Complete thread) ≡ completed_so s thread.0 t c c.effect = ap (λ o. unwrap_or (completion_for s thread.0 o) s) here ∙ ap (λ b. unwrap_or (complete_if b s thread.0 t) s) completable in
    ap (λ u. calls_in u + 1) is ∙ so

-- ---- events

event_brings : (s : FlatState) (e : Event) → calls_in (applied s e) ≤ calls_in s + (if is_step e then 1 else 0)
unfolding after_completion
event_brings s (Declare d) = by (broken_rule s d)
  where
    by : (rule : Option ℕ) → calls_in (unwrap_or (declared_unless rule s d) s) ≤ calls_in s + 0
    by None = let same = declared_same s d in omega (arith, same)
    by (Some rule) = omega arith
event_brings s (Step thread) = step_brings_one s thread
event_brings s (Complete thread) = by (slice_get s.threads thread.0) refl
  where
    by_test : (t : FlatThread) → slice_get s.threads thread.0 ≡ Some t → (b : Bool) → is_completable t ≡ b → calls_in (unwrap_or (complete_if b s thread.0 t) s) ≤ calls_in s + 0
    by_test t here true completable =
        let c = completion_of t.no t.context t.queue.items in
        let so = completed_takes s thread.0 t here (completable_in_call t completable) c c.effect in
        omega (arith, so)
    by_test t here false completable = omega arith

    by : (o : Option FlatThread) → slice_get s.threads thread.0 ≡ o → calls_in (unwrap_or (completion_for s thread.0 o) s) ≤ calls_in s + 0
    by None here = omega arith
    by (Some t) here = by_test t here (is_completable t) refl

-- as many steps, at most so many calls more
pub events_bring : (s : FlatState) (es : List Event) → calls_in (after_events s es) ≤ calls_in s + count_by is_step es
events_bring s [] = omega arith
events_bring s (e ∷ es) =
    let one = event_brings s e in
    let rest = events_bring (applied s e) es in
    let both = count_by-cons is_step e es in
    omega (arith, one, rest, both)
