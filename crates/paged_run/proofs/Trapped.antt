-- How many threads are in a call.
use Rattle.std.proofs.Common.{◌≡◌, ℕ, ◌+◌, ◌<◌, ◌≤◌, Bool, true, false, not, cond, List, [], ◌∷◌, ◌++◌, length, get_or, Option, Some, None, refl, sym, ap, ◌∙◌, subst, arith}
use Rattle.std.specs.Prelude.{slice_get, slice_set, unwrap_or, is_some, count_by}
use Rattle.std.proofs.lemmas.Bool.{and_parts}
use Rattle.std.proofs.lemmas.List.{length-append}
use Rattle.std.proofs.lemmas.List.Sums.{sum_by-set, sum_by-append}
use Rattle.std.proofs.lemmas.Option.{slice_get_within, get_or_from_slice_get, slice_get_read}
use Rattle.std.proofs.Math.ListN.{get_or-append}
use Rattle.cache_ident.specs.declared.names.ThreadNo.{ThreadNo}
use Rattle.cache_ident.specs.declared.names.Vpn.{Vpn}
use Rattle.run_journal.specs.fault_forward.specs.declared.effects.Effect.{Effect}
use Rattle.run_journal.specs.fault_forward.specs.declared.effects.Effect.TheVariants as effects
use Rattle.run_journal.specs.fault_forward.specs.Calls.{Completion, completion_of}
use Rattle.flat_rules.specs.flat_state.specs.declared.events.Decl.{Decl}
use Rattle.flat_rules.specs.flat_state.specs.declared.events.Decl.TheVariants as decls
use Rattle.flat_rules.specs.flat_state.specs.declared.records.FlatThread.{FlatThread}
use Rattle.flat_rules.specs.flat_state.specs.State.{FlatState, is_ended, is_trapped}
use Rattle.flat_rules.specs.flat_state.specs.Declaration.{declared, new_thread}
use Rattle.flat_rules.specs.flat_state.specs.Signals.{with_address, sent_to, sent}
use Rattle.flat_rules.specs.flat_state.specs.Call.{waits, is_completable, answered, refusal, made, granting, rule_of_granting, is_first, completed_so, completion_for, after_completion}
use Rattle.phys_groups.specs.Translation.{row_of}
use Rattle.flat_machine.specs.signal_pages.specs.Signals.{address_of}
use Rattle.paged_run.specs.Runs.{trapped_count}

abbrev in_call : FlatThread → Bool
in_call t = is_trapped t.status

-- how many of some threads are in a call
abbrev calls : List FlatThread → ℕ
calls ts = count_by in_call ts

-- a count of a list with one element changed
count_at : (ts : List FlatThread) (n : ℕ) (old new : FlatThread) → slice_get ts n ≡ Some old
    → calls (slice_set ts n new) + cond (in_call old) 1 0 ≡ calls ts + cond (in_call new) 1 0
count_at ts n old new e =
    let f : FlatThread → ℕ = λ t. cond (in_call t) 1 0 in
    subst (λ (y : FlatThread). calls (slice_set ts n new) + f y ≡ calls ts + f new)
    (get_or_from_slice_get ts n old old e)
    (sum_by-set f ts n new old (slice_get_within ts n old e))

at_most_one : (b : Bool) → cond b 1 0 ≤ 1
at_most_one true = omega arith
at_most_one false = omega arith

pub one_more : (ts : List FlatThread) (n : ℕ) (old new : FlatThread) → slice_get ts n ≡ Some old → calls (slice_set ts n new) ≤ calls ts + 1
one_more ts n old new e = omega (arith, count_at ts n old new e, at_most_one (in_call new))

-- a thread that is in a call no more
one_less : (ts : List FlatThread) (n : ℕ) (old new : FlatThread) → slice_get ts n ≡ Some old → in_call old ≡ true → in_call new ≡ false → calls (slice_set ts n new) + 1 ≡ calls ts
one_less ts n old new e was isnt =
    let one : ◌≡◌ {A = ℕ} (cond (in_call old) 1 0) 1 = rw was refl in
    let none : ◌≡◌ {A = ℕ} (cond (in_call new) 1 0) 0 = rw isnt refl in
    omega (arith, count_at ts n old new e, one, none)

same_count : (ts : List FlatThread) (n : ℕ) (old new : FlatThread) → slice_get ts n ≡ Some old → in_call new ≡ in_call old → calls (slice_set ts n new) ≡ calls ts
same_count ts n old new e same =
    let change = ap {B = ℕ} (λ (b : Bool). cond b 1 0) same in
    omega (arith, count_at ts n old new e, change)

-- ---- signals

signal_in_call : (va : ℕ) (t : FlatThread) (ended : Bool) → in_call (cond ended t (record t { queue = record { items = t.queue.items ++ va ∷ [] } })) ≡ in_call t
signal_in_call va t true = refl
signal_in_call va t false = refl

sent_to_count : (ts : List FlatThread) (thread : ThreadNo) (va : ℕ) (o : Option FlatThread) → slice_get ts thread.0 ≡ o → calls (sent_to ts thread va o) ≡ calls ts
sent_to_count ts thread va None e = refl
sent_to_count ts thread va (Some t) e = same_count ts thread.0 t (with_address va t) e (signal_in_call va t (is_ended t.status))

pub sent_count : (ts : List FlatThread) (offset : ℕ) (receivers : List (ThreadNo × Vpn)) → calls (sent ts offset receivers) ≡ calls ts
sent_count ts offset [] = refl
sent_count ts offset ((thread, vpn) ∷ rest) =
    sent_count (sent_to ts thread (address_of vpn offset) (slice_get ts thread.0)) offset rest ∙ sent_to_count ts thread (address_of vpn offset) (slice_get ts thread.0) refl

-- ---- a completion

found_in_front : (ts more : List FlatThread) (n : ℕ) (t : FlatThread) → slice_get ts n ≡ Some t → slice_get (ts ++ more) n ≡ Some t
found_in_front ts more n t e =
    let lt : n < length ts = slice_get_within ts n t e in
    let there : get_or (ts ++ more) n t ≡ t = get_or-append ts more t n lt ∙ get_or_from_slice_get ts n t t e in
    slice_get_read (ts ++ more) (length (ts ++ more)) n t refl (omega (arith, length-append ts more)) (sym there)

-- a declaration leaves the threads that there are, and brings none into a call
record Keeps (s u : FlatState) : Type 0 where
  found : (n : ℕ) (t : FlatThread) → slice_get s.threads n ≡ Some t → slice_get u.threads n ≡ Some t
  count : trapped_count u ≡ trapped_count s

declared_keeps : (s : FlatState) (d : Decl) → Keeps s (declared s d)
unfolding declared
declared_keeps s (decls.Machine machine) = record { found = λ n t e. e; count = refl }
declared_keeps s (decls.Kernel kernel limits) = record { found = λ n t e. e; count = refl }
declared_keeps s (decls.Right kernel group read write) = record { found = λ n t e. e; count = refl }
declared_keeps s (decls.Space space kernel) = record { found = λ n t e. e; count = refl }
declared_keeps s (decls.Thread thread space pc priority a0 a1) =
    let new : FlatThread = new_thread thread space pc priority a0 a1 in
    record {
      found = λ n t e. found_in_front s.threads (new ∷ []) n t e;
      count = omega (arith, sum_by-append (λ t. cond (in_call t) 1 0) s.threads (new ∷ []));
    }
declared_keeps s (decls.Map space vpn frame flags receiver) = record { found = λ n t e. e; count = refl }
declared_keeps s (decls.Word frame offset value) = record { found = λ n t e. e; count = refl }

made_count : (s : FlatState) (n : ℕ) (t : FlatThread) (d : Decl) (answer : ℕ) (rule : Option ℕ) → slice_get s.threads n ≡ Some t → in_call t ≡ true → trapped_count (made s n t d answer rule) + 1 ≡ trapped_count s
made_count s n t d answer None e was =
    let kept = declared_keeps s d in
    one_less (declared s d).threads n t (answered t answer) (kept.found n t e) was refl ∙ kept.count
made_count s n t d answer (Some rule) e was = one_less s.threads n t _ e was refl

-- of two states that both have one thread less in a call
either_less : (s u v : FlatState) (test : Bool) → trapped_count u + 1 ≡ trapped_count s → trapped_count v + 1 ≡ trapped_count s → trapped_count (cond test u v) + 1 ≡ trapped_count s
either_less s u v true p q = p
either_less s u v false p q = q

completed_count : (s : FlatState) (n : ℕ) (t : FlatThread) (c : Completion) (effect : Effect) → slice_get s.threads n ≡ Some t → in_call t ≡ true → trapped_count (completed_so s n t c effect) + 1 ≡ trapped_count s
completed_count s n t c effects.Ready e was = one_less s.threads n t _ e was refl
completed_count s n t c (effects.Put byte) e was = one_less s.threads n t _ e was refl
completed_count s n t c (effects.Decimal number) e was = one_less s.threads n t _ e was refl
completed_count s n t c (effects.End reason) e was = one_less s.threads n t _ e was refl
completed_count s n t c (effects.Map vpn frame flags receiver) e was = made_count s n t _ 0 _ e was
completed_count s n t c (effects.Unmap vpn) e was =
    either_less s _ _ (is_some (row_of s.rows t.space vpn)) (one_less s.threads n t (answered t 0) e was refl) (one_less s.threads n t (answered t (refusal 1)) e was refl)
completed_count s n t c (effects.Spawn pc a0 priority) e was = made_count s n t _ _ _ e was
completed_count s n t c (effects.Grant kernel group bits) e was =
    let d = granting kernel group bits in
    either_less s _ _ (is_first (slice_get s.spaces t.space.0)) (made_count s n t d 0 (rule_of_granting s d bits) e was) (one_less s.threads n t (answered t (refusal 1)) e was refl)

-- a thread whose call can be completed is in one
completable_in_call : (t : FlatThread) → is_completable t ≡ true → in_call t ≡ true
completable_in_call t completable = (and_parts (in_call t) (not (waits t)) completable).0

completion_at : (s : FlatState) (n : ℕ) (t : FlatThread) → slice_get s.threads n ≡ Some t → is_completable t ≡ true → trapped_count (unwrap_or (completion_for s n (Some t)) s) + 1 ≤ trapped_count s
completion_at s n t e completable =
    let c = completion_of t.no t.context t.queue.items in
    let change = completed_count s n t c c.effect e (completable_in_call t completable) in
    rw completable (omega (arith, change))

-- a completion brings one out of it
pub trapped_completion : (s : FlatState) (n : ℕ) (t : FlatThread) → slice_get s.threads n ≡ Some t → is_completable t ≡ true → trapped_count (unwrap_or (after_completion s n) s) + 1 ≤ trapped_count s
unfolding after_completion
trapped_completion s n t here completable = subst (λ (o : Option FlatThread). trapped_count (unwrap_or (completion_for s n o) s) + 1 ≤ trapped_count s) (sym here) (completion_at s n t here completable)

-- ---- a store that signals

pub sent_more : (ts : List FlatThread) (n : ℕ) (old new : FlatThread) → slice_get ts n ≡ Some old → (offset : ℕ) (receivers : List (ThreadNo × Vpn)) (threads : List FlatThread) → threads ≡ sent (slice_set ts n new) offset receivers → calls threads ≤ calls ts + 1
sent_more ts n old new here offset receivers threads is = omega (arith, ap calls is, sent_count (slice_set ts n new) offset receivers, one_more ts n old new here)
