-- Each event keeps a state well-formed, so each state that events can reach is.
use Rattle.std.proofs.Common.{◌≡◌, ℕ, zero, suc, ◌+◌, ◌*◌, ◌%◌, ◌<◌, ◌≤◌, Bool, true, false, not, List, [], ◌∷◌, ◌++◌, map, length, set, Option, Some, None, slice_get, filter, refl, ap, sym, ◌∙◌, subst, inl, inr, arith, length-set}
use Rattle.std.specs.Prelude.{if◌then◌else◌, ◌==◌, ◌&&◌, nat_lt, is_some, option_to_list, unwrap_or, find}
use Rattle.std.specs.Option.{option_map}
use Rattle.std.proofs.lemmas.Bool.{cases_eq, and_parts, not-true, ltb-false}
use Rattle.std.proofs.lemmas.Option.{same_Some, slice_get_within}
use Rattle.cache_ident.specs.declared.names.Frame.{Frame}
use Rattle.cache_ident.specs.declared.names.SpaceNo.{SpaceNo}
use Rattle.cache_ident.specs.declared.names.ThreadNo.{ThreadNo}
use Rattle.cache_ident.specs.declared.names.Vpn.{Vpn}
use Rattle.phys_groups.specs.declared.rows.Row.{Row}
use Rattle.phys_groups.specs.Memory.{with_page}
use Rattle.phys_groups.specs.Translation.{row_of, without}
use Rattle.phys_groups.proofs.Pages.{length-page_at, length-with_page}
use Rattle.signal_pages.specs.Signals.{times_in, receiver_of, receivers_in, would_pass, room_in}
use Rattle.rv32_exec.specs.declared.contexts.Context.{Context}
use Rattle.rv32_exec.specs.declared.statuses.Access.{Access}
use Rattle.rv32_exec.specs.declared.statuses.Status.{Status}
use Rattle.rv32_exec.specs.declared.statuses.Status.TheVariants.{Ready, Trapped, Ended}
use Rattle.rv32_exec.specs.declared.steps.Stepped.{Stepped}
use Rattle.rv32_exec.specs.declared.steps.Stepped.TheVariants.{Next, Call, Stop, Miss}
use Rattle.rv32_exec.specs.Pages.{Page}
use Rattle.rv32_exec.specs.Steps.{After}
use Rattle.fault_forward.specs.declared.effects.Effect.{Effect}
use Rattle.fault_forward.specs.declared.effects.Effect.TheVariants as effects
use Rattle.fault_forward.specs.Calls.{Completion, completion_of, call_number, brings, answers, taken}
use Rattle.flat_state.specs.declared.events.Decl.{Decl}
use Rattle.flat_state.specs.declared.events.Event.{Event}
use Rattle.flat_state.specs.declared.events.Event.TheVariants.{Declare, Step, Complete}
use Rattle.flat_state.specs.declared.records.FlatThread.{FlatThread}
use Rattle.flat_state.specs.declared.records.Signal.{Signal}
use Rattle.flat_state.specs.State.{FlatState, nothing_declared, with_thread, is_ended, is_ready}
use Rattle.flat_state.specs.Pages.{is_in, pages_of, with_pages, with_marks_of, with_marks}
use Rattle.flat_state.specs.Signals.{HasRoom, next_signal, receivers_of, receivers_for, full_receiver, is_runnable, delivered, has_ended, queued, queued_by, ended_by, full_among}
use Rattle.flat_state.specs.Translation.{is_fit_row}
use Rattle.flat_state.specs.Step.{outcome, faulted, written_back, moved, went_on, stepped_so, step_if, step_of, after_step}
use Rattle.flat_state.specs.Call.{answered, refusal, made, mapping, rule_of_mapping, mapped, unmapped, spawning, spawned, is_first, granting, rule_of_granting, granted, completed_so, complete_if, completion_for, after_completion, is_completable}
use Rattle.flat_state.specs.Events.{declared_unless, after_event, applied, after_events, flat}
use Rattle.flat_state.specs.Declaration.{breaks, broken_rule, declared, thread_is_in, is_receiver_in}
use Rattle.flat_state.specs.WellFormed.{IsRow, IsWellFormed}
use Rattle.flat_state.proofs.Places.{get-append, get-set_same, get-set_other, Contains-from_get, get_from_filter, get_from_map}
use Rattle.flat_state.proofs.FormedParts.{KeepsRow, memory_formed, rows_formed, thread_formed, sent_formed, without_formed, nothing_formed, declared_formed, times_in-le}
use Rattle.flat_state.proofs.StepKeeps.{IsPageOf, ArePagesOf, step_keeps}

-- the pages of a space are those of memory
pub pages_are : (s : FlatState) (space : SpaceNo) → IsWellFormed s → ArePagesOf (length s.memory) (pages_of s space)
pages_are s space formed = record {
  each = λ k p there.
      let old = get_from_map _ (filter (is_in space) s.rows) k p there in
      let row = get_from_filter (is_in space) s.rows k old.0 old.1 in
      let frame = (formed.rows.each old.0 (Contains-from_get s.rows row.0 old.0 row.1)).frame in
      let size = formed.memory.size in
      let within : 4096 * old.0.frame.0 + 4096 ≤ length s.memory = omega (arith, frame, size) in
      subst (IsPageOf (length s.memory)) old.2 (record { frame = within; whole = length-page_at s.memory old.0.frame within });
}

length-with_pages : (memory : List ℕ) (ps : List Page) (size : ℕ) → length memory ≡ size → ArePagesOf size ps → length (with_pages memory ps) ≡ size
length-with_pages memory [] size same are = same
length-with_pages memory (p ∷ ps) size same are =
    let first = are.each zero p refl in
    let one : length (with_page memory (record { 0 = p.frame }) p.bytes) ≡ size = length-with_page memory (record { 0 = p.frame }) p.bytes (rw same first.frame) first.whole ∙ same in
    length-with_pages (with_page memory (record { 0 = p.frame }) p.bytes) ps size one (record { each = λ k q there. are.each (suc k) q there })

-- the marks of pages are bits of rows, and nothing else
pub marks_keep : (space : SpaceNo) (ps : List Page) → KeepsRow (with_marks space ps)
marks_keep space ps = record {
  space = λ row. by (λ (r : Row). r.space) row (is_in space row) (find (λ p. p.number == row.vpn.0) ps) refl (λ p. refl);
  vpn = λ row. by (λ (r : Row). r.vpn) row (is_in space row) (find (λ p. p.number == row.vpn.0) ps) refl (λ p. refl);
  frame = λ row. by (λ (r : Row). r.frame) row (is_in space row) (find (λ p. p.number == row.vpn.0) ps) refl (λ p. refl);
  flags = λ row. by (λ (r : Row). r.flags) row (is_in space row) (find (λ p. p.number == row.vpn.0) ps) refl (λ p. refl);
  receiver = λ row. by (λ (r : Row). r.receiver) row (is_in space row) (find (λ p. p.number == row.vpn.0) ps) refl (λ p. refl);
}
  where
    by : {X : Type 0} (part : Row → X) (row : Row) (b : Bool) (o : Option Page) → part row ≡ part row → ((p : Page) → part (record row { referenced = p.touched; modified = p.written }) ≡ part row) → part (if b then with_marks_of o row else row) ≡ part row
    by part row true None here same = here
    by part row true (Some p) here same = same p
    by part row false o here same = here

-- what a step leaves in its pages keeps a state well-formed
pub written_back_formed : (s : FlatState) (space : SpaceNo) (ps : List Page) → IsWellFormed s → ArePagesOf (length s.memory) ps → IsWellFormed (written_back s space ps)
written_back_formed s space ps formed are =
    rows_formed (with_marks space ps) (marks_keep space ps) (record s { memory = with_pages s.memory ps }) (memory_formed s (with_pages s.memory ps) formed (length-with_pages s.memory ps (length s.memory) refl are))

-- receivers that could be those of rows
pub record AreReceivers (threads : List FlatThread) (receivers : List (ThreadNo × Vpn)) : Type 0 where
  pub each : (k : ℕ) (r : ThreadNo × Vpn) → slice_get receivers k ≡ Some r → (r.0.0 < length threads) × (r.1.0 < 1048576)

-- the receiver that a row gives is a thread, and its page one of a space
given : (s : FlatState) (frame : Frame) (row : Row) (fit : Bool) (r : ThreadNo × Vpn) → IsRow s.machine s.spaces s.threads row → receiver_of frame row fit ≡ Some r → (r.0.0 < length s.threads) × (r.1.0 < 1048576)
given s frame row fit r is = by ((row.frame.0 == frame.0) && fit) row.receiver is.receiver
  where
    thread_within : (space : SpaceNo) (thread : ThreadNo) (o : Option FlatThread) → slice_get s.threads thread.0 ≡ o → thread_is_in space o ≡ true → thread.0 < length s.threads
    thread_within space thread None here is_in = absurd (cc)
    thread_within space thread (Some t) here is_in = slice_get_within s.threads thread.0 t here

    by : (b : Bool) (o : Option ThreadNo) → is_receiver_in row.space s.threads o ≡ true → (if b then option_map (λ thread. (thread, row.vpn)) o else None) ≡ Some r → (r.0.0 < length s.threads) × (r.1.0 < 1048576)
    by true None is_in e = absurd (cc)
    by true (Some thread) is_in e =
        let same : (thread, row.vpn) ≡ r = same_Some _ _ e in
        let page = is.page in
        subst (λ (x : ThreadNo × Vpn). (x.0.0 < length s.threads) × (x.1.0 < 1048576)) same (thread_within row.space thread (slice_get s.threads thread.0) refl is_in, omega (arith, page))
    by false o is_in e = absurd (cc)

receivers_push : (threads : List FlatThread) (o : Option (ThreadNo × Vpn)) (rest : List (ThreadNo × Vpn)) → ((r : ThreadNo × Vpn) → o ≡ Some r → (r.0.0 < length threads) × (r.1.0 < 1048576)) → AreReceivers threads rest → AreReceivers threads (option_to_list o ++ rest)
receivers_push threads None rest first are = are
receivers_push threads (Some x) rest first are = record { each = by }
  where
    by : (k : ℕ) (r : ThreadNo × Vpn) → slice_get (x ∷ rest) k ≡ Some r → (r.0.0 < length threads) × (r.1.0 < 1048576)
    by zero r there = first r there
    by (suc k) r there = are.each k r there

-- those of rows that could be declared are
receivers_in_are : (s : FlatState) (frame : Frame) (rows : List Row) (fits : List Bool) → ((k : ℕ) (row : Row) → slice_get rows k ≡ Some row → IsRow s.machine s.spaces s.threads row) → AreReceivers s.threads (receivers_in frame rows fits)
receivers_in_are s frame [] fits each = record { each = λ k r there. absurd (cc) }
receivers_in_are s frame (row ∷ rows) [] each = record { each = λ k r there. absurd (cc) }
receivers_in_are s frame (row ∷ rows) (fit ∷ fits) each =
    receivers_push s.threads (receiver_of frame row fit) (receivers_in frame rows fits) (λ r gives. given s frame row fit r (each zero row refl) gives) (receivers_in_are s frame rows fits (λ k x there. each (suc k) x there))

pub receivers_are : (s : FlatState) (frame : Frame) → IsWellFormed s → AreReceivers s.threads (receivers_of s frame)
receivers_are s frame formed = receivers_in_are s frame s.rows (map (is_fit_row s) s.rows) (λ k row there. formed.rows.each row (Contains-from_get s.rows k row there))

-- where no receiver is full each has room, also behind some others
room_behind : (threads : List FlatThread) (to : List ThreadNo) (receivers : List (ThreadNo × Vpn)) → ((t : ThreadNo) → times_in (map (λ r. r.0) receivers) t ≤ times_in to t) → AreReceivers threads receivers → room_in to (map (queued threads) (map (λ r. r.0) receivers)) (map (has_ended threads) (map (λ r. r.0) receivers)) (map (λ r. r.0) receivers) ≡ None → HasRoom threads receivers
room_behind threads to [] fewer are none = tt
room_behind threads to ((thread, vpn) ∷ rest) fewer are none =
    let first = are.each zero (thread, vpn) refl in
    let passes = first_passes (would_pass to thread (queued threads thread) (has_ended threads thread)) _ none in (
      first.0,
      first.1,
      λ running. let le = fewer thread in let short = room_for (queued threads thread) (times_in to thread) (has_ended threads thread) running passes.0 in omega (arith, le, short),
      room_behind threads to rest (λ t. let le = fewer t in let less = times_in-le thread (map (λ r. r.0) rest) t in omega (arith, le, less)) (record { each = λ k r there. are.each (suc k) r there }) passes.1,
    )
  where
    first_passes : (b : Bool) (later : Option ThreadNo) → (if b then Some thread else later) ≡ None → (b ≡ false) × (later ≡ None)
    first_passes true later e = absurd (cc)
    first_passes false later e = (refl, e)

    room_for : (queue times : ℕ) (ended : Bool) → ended ≡ false → (not ended && nat_lt 64 (queue + times)) ≡ false → queue + times ≤ 64
    room_for queue times true is e = absurd (cc)
    room_for queue times false is e = ltb-false 64 (queue + times) e

pub room_if_none_full : (threads : List FlatThread) (receivers : List (ThreadNo × Vpn)) → AreReceivers threads receivers → full_among threads (map (λ r. r.0) receivers) ≡ None → HasRoom threads receivers
room_if_none_full threads receivers are none = room_behind threads (map (λ r. r.0) receivers) receivers (λ t. omega arith) are none

-- Threads of which some may have ended meanwhile.
pub record EndAtMost (before after : List FlatThread) : Type 0 where
  pub many : length after ≡ length before
  pub same : (thread : ThreadNo) → queued after thread ≡ queued before thread
  pub running : (thread : ThreadNo) → has_ended after thread ≡ false → has_ended before thread ≡ false

-- they have room too
pub room_kept : (before after : List FlatThread) (receivers : List (ThreadNo × Vpn)) → EndAtMost before after → HasRoom before receivers → HasRoom after receivers
room_kept before after [] at_most has = tt
room_kept before after ((thread, vpn) ∷ rest) at_most has =
    let many = at_most.many in
    let lt = has.0 in (
      omega (arith, many, lt),
      has.1,
      λ running. let same = at_most.same thread in let short = has.2 (at_most.running thread running) in omega (arith, same, short),
      room_kept before after rest at_most has.3,
    )

-- a thread that was ready is replaced by one with its queue
pub ends_at_most : (threads : List FlatThread) (n : ℕ) (t u : FlatThread) → slice_get threads n ≡ Some t → u.queue ≡ t.queue → is_ended t.status ≡ false → EndAtMost threads (set threads n u)
ends_at_most threads n t u here same_queue ready = record {
  many = length-set threads n u;
  same = λ thread. elim (cases_eq thread.0 n) [
    | inl same ↦ ap queued_by (now thread same) ∙ ap (λ q. length q.items) same_queue ∙ sym (ap queued_by (was thread same))
    | inr other ↦ ap queued_by (get-set_other threads n thread.0 u other)
  ];
  running = λ thread runs. elim (cases_eq thread.0 n) [
    | inl same ↦ ap ended_by (was thread same) ∙ ready
    | inr other ↦ sym (ap ended_by (get-set_other threads n thread.0 u other)) ∙ runs
  ];
}
  where
    now : (thread : ThreadNo) → thread.0 ≡ n → slice_get (set threads n u) thread.0 ≡ Some u
    now thread same = rw same (get-set_same threads n u t here)

    was : (thread : ThreadNo) → thread.0 ≡ n → slice_get threads thread.0 ≡ Some t
    was thread same = rw same here

-- a runnable thread is ready, and no receiver is full
pub runnable_parts : (s : FlatState) (t : FlatThread) → is_runnable s t ≡ true → (is_ended t.status ≡ false) × (full_receiver s t ≡ None)
runnable_parts s t runs =
    let parts = and_parts (is_ready t.status) (not (is_some (full_receiver s t))) runs in
    (goes_on t.status parts.0, none_from (full_receiver s t) (not-true _ parts.1))
  where
    goes_on : (status : Status) → is_ready status ≡ true → is_ended status ≡ false
    goes_on Ready e = refl
    goes_on Trapped e = refl
    goes_on (Ended reason) e = absurd (cc)

    none_from : (o : Option ThreadNo) → is_some o ≡ false → o ≡ None
    none_from None e = refl
    none_from (Some thread) e = absurd (cc)

-- the receivers of what a runnable thread's next step sends have room
pub runnable_room : (s : FlatState) (t : FlatThread) → IsWellFormed s → is_runnable s t ≡ true → HasRoom s.threads (receivers_for s (next_signal s t))
runnable_room s t formed runs = by (next_signal s t) (runnable_parts s t runs).1
  where
    by : (o : Option Signal) → full_among s.threads (map (λ r. r.0) (receivers_for s o)) ≡ None → HasRoom s.threads (receivers_for s o)
    by None none = tt
    by (Some signal) none = room_if_none_full s.threads (receivers_of s signal.frame) (receivers_are s signal.frame formed) none

-- signals with room, if there are any
delivered_formed : (u : FlatState) (o : Option Signal) (receivers : List (ThreadNo × Vpn)) → IsWellFormed u → HasRoom u.threads receivers → IsWellFormed (record u { threads = delivered u.threads o receivers })
delivered_formed u None receivers formed has = formed
delivered_formed u (Some signal) receivers formed has = sent_formed u signal.offset receivers formed has

module _ (s : FlatState) (n : ℕ) (t : FlatThread) (formed : IsWellFormed s) (here : slice_get s.threads n ≡ Some t) where
  pub moved_formed : (after : After) (status : Status) → after.context.pc % 4 ≡ 0 → ArePagesOf (length s.memory) after.pages → IsWellFormed (moved s n t after status)
  moved_formed after status aligned are =
      thread_formed (written_back s t.space after.pages) n t (record t { context = after.context; status = status }) (written_back_formed s t.space after.pages formed are) here refl refl refl aligned (formed.threads.each n t here).queued

  went_on_formed : (after : After) (status : Status) → is_runnable s t ≡ true → after.context.pc % 4 ≡ 0 → ArePagesOf (length s.memory) after.pages → IsWellFormed (went_on s n t after status)
  went_on_formed after status runs aligned are =
      let u : FlatThread = record t { context = after.context; status = status } in
      delivered_formed (moved s n t after status) (next_signal s t) (receivers_for s (next_signal s t)) (moved_formed after status aligned are)
      (room_kept s.threads (set s.threads n u) (receivers_for s (next_signal s t)) (ends_at_most s.threads n t u here refl (runnable_parts s t runs).0) (runnable_room s t formed runs))

  faulted_formed : (va : ℕ) (access : Access) → IsWellFormed (faulted s n t va access)
  faulted_formed va access = thread_formed s n t _ formed here refl refl refl (formed.threads.each n t here).aligned (formed.threads.each n t here).queued

  stepped_formed : is_runnable s t ≡ true → (after : After) (answer : Stepped) → after.context.pc % 4 ≡ 0 → ArePagesOf (length s.memory) after.pages → IsWellFormed (stepped_so s n t after answer)
  stepped_formed runs after Next aligned are = went_on_formed after Ready runs aligned are
  stepped_formed runs after Call aligned are = went_on_formed after Trapped runs aligned are
  stepped_formed runs after (Stop reason) aligned are = went_on_formed after (Ended reason) runs aligned are
  stepped_formed runs after (Miss va access) aligned are = faulted_formed va access

  step_if_formed : (b : Bool) (u : FlatState) → is_runnable s t ≡ b → step_if b s n t ≡ Some u → IsWellFormed u
  step_if_formed true u runs e =
      let kept = step_keeps (length s.memory) t.context (pages_of s t.space) (formed.threads.each n t here).aligned (pages_are s t.space formed) in
      subst IsWellFormed (same_Some _ u e) (stepped_formed runs (outcome s t) (outcome s t).answer kept.aligned kept.pages)
  step_if_formed false u runs e = absurd (cc)

-- a step keeps a state well-formed
pub step_formed : (s : FlatState) (n : ℕ) (u : FlatState) → IsWellFormed s → after_step s n ≡ Some u → IsWellFormed u
unfolding after_step
step_formed s n u formed e = by (slice_get s.threads n) refl e
  where
    by : (o : Option FlatThread) → slice_get s.threads n ≡ o → step_of s n o ≡ Some u → IsWellFormed u
    by None here e = absurd (cc)
    by (Some t) here e = step_if_formed s n t formed here (is_runnable s t) u refl e

-- a completed call leaves pc, and no more in the queue than there was
pub record KeepsCall (c : Context) (queue : List ℕ) (x : Completion) : Type 0 where
  pub pc : x.context.pc ≡ c.pc
  pub shorter : length x.queue ≤ length queue

module _ (thread : ThreadNo) (c : Context) (queue : List ℕ) where
  either_keeps : (b : Bool) (x y : Completion) → KeepsCall c queue x → KeepsCall c queue y → KeepsCall c queue (if b then x else y)
  either_keeps true x y first second = first
  either_keeps false x y first second = second

  brings_keeps : (effect : Effect) → KeepsCall c queue (brings effect c queue)
  brings_keeps effect = record { pc = refl; shorter = omega arith }

  answers_keeps : (answer : ℕ) → KeepsCall c queue (answers answer c queue)
  answers_keeps answer = record { pc = refl; shorter = omega arith }

  taken_keeps : (q : List ℕ) → KeepsCall c q (taken c q)
  taken_keeps [] = record { pc = refl; shorter = omega arith }
  taken_keeps (first ∷ q) = record { pc = refl; shorter = omega arith }

  pub call_keeps : KeepsCall c queue (completion_of thread c queue)
  call_keeps =
      either_keeps (call_number c == 0) _ _ (brings_keeps _)
      (either_keeps (call_number c == 1) _ _ (brings_keeps _)
      (either_keeps (call_number c == 2) _ _ (brings_keeps _)
      (either_keeps (call_number c == 3) _ _ (taken_keeps queue)
      (either_keeps (call_number c == 4) _ _ (brings_keeps _)
      (either_keeps (call_number c == 5) _ _ (answers_keeps _)
      (either_keeps (call_number c == 6) _ _ (brings_keeps _)
      (either_keeps (call_number c == 7) _ _ (brings_keeps _)
      (either_keeps (call_number c == 8) _ _ (brings_keeps _)
      (either_keeps (call_number c == 9) _ _ (brings_keeps _) (brings_keeps _))))))))))

module _ (s : FlatState) (n : ℕ) (t : FlatThread) (formed : IsWellFormed s) (here : slice_get s.threads n ≡ Some t) where
  -- the thread goes on in any such state
  goes_on_formed : (s' : FlatState) (u : FlatThread) → IsWellFormed s' → slice_get s'.threads n ≡ Some t → u.no ≡ t.no → u.space ≡ t.space → u.priority ≡ t.priority → u.context.pc ≡ t.context.pc → length u.queue.items ≤ length t.queue.items → IsWellFormed (with_thread s' n u)
  goes_on_formed s' u formed' there same_no same_space same_priority same_pc shorter =
      let is = formed.threads.each n t here in
      let queued = is.queued in
      thread_formed s' n t u formed' there same_no same_space same_priority (rw same_pc is.aligned) (omega (arith, queued, shorter))

  answered_formed : (s' : FlatState) (answer : ℕ) → IsWellFormed s' → slice_get s'.threads n ≡ Some t → IsWellFormed (with_thread s' n (answered t answer))
  answered_formed s' answer formed' there = goes_on_formed s' (answered t answer) formed' there refl refl refl refl (omega arith)

  made_formed : (d : Decl) (answer : ℕ) (rule : Option ℕ) → (rule ≡ None → broken_rule s d ≡ None) → slice_get (declared s d).threads n ≡ Some t → IsWellFormed (made s n t d answer rule)
  made_formed d answer None fits there = answered_formed (declared s d) answer (declared_formed s d formed (fits refl)) there
  made_formed d answer (Some rule) fits there = answered_formed s (refusal rule) formed here

  later_rule : (test : Bool) (rule : ℕ) (later : Option ℕ) → breaks test rule later ≡ None → later ≡ None
  later_rule true rule later e = absurd (cc)
  later_rule false rule later e = e

  mapped_formed : (vpn frame bits receiver flags : ℕ) → IsWellFormed (mapped s n t (mapping t vpn frame bits receiver) flags)
  unfolding declared
  mapped_formed vpn frame bits receiver flags =
      made_formed (mapping t vpn frame bits receiver) 0 (rule_of_mapping s (mapping t vpn frame bits receiver) flags) (λ e. later_rule _ 4 _ e) here

  unmapped_formed : (vpn : ℕ) → IsWellFormed (unmapped s n t vpn)
  unmapped_formed vpn = by (is_some (row_of s.rows t.space vpn))
    where
      by : (b : Bool) → IsWellFormed (if b then with_thread (record s { rows = without t.space vpn s.rows }) n (answered t 0) else with_thread s n (answered t (refusal 1)))
      by true = answered_formed (record s { rows = without t.space vpn s.rows }) 0 (without_formed s t.space vpn formed) here
      by false = answered_formed s (refusal 1) formed here

  spawned_formed : (pc a0 priority : ℕ) → IsWellFormed (spawned s n t (spawning s t pc a0 priority))
  unfolding declared
  spawned_formed pc a0 priority =
      made_formed (spawning s t pc a0 priority) (length s.threads) (broken_rule s (spawning s t pc a0 priority)) (λ e. e) (get-append s.threads _ n t here)

  granted_formed : (kernel group bits : ℕ) → IsWellFormed (granted s n t (granting kernel group bits) bits)
  unfolding declared
  granted_formed kernel group bits = by (is_first (slice_get s.spaces t.space.0))
    where
      by : (b : Bool) → IsWellFormed (if b then made s n t (granting kernel group bits) 0 (rule_of_granting s (granting kernel group bits) bits) else with_thread s n (answered t (refusal 1)))
      by true = made_formed (granting kernel group bits) 0 (rule_of_granting s (granting kernel group bits) bits) (λ e. later_rule _ 4 _ e) here
      by false = answered_formed s (refusal 1) formed here

  completed_so_formed : (c : Completion) (effect : Effect) → KeepsCall t.context t.queue.items c → IsWellFormed (completed_so s n t c effect)
  completed_so_formed c effects.Ready keeps = goes_on_formed s _ formed here refl refl refl keeps.pc keeps.shorter
  completed_so_formed c (effects.Put byte) keeps = goes_on_formed s _ formed here refl refl refl keeps.pc keeps.shorter
  completed_so_formed c (effects.Decimal number) keeps = goes_on_formed s _ formed here refl refl refl keeps.pc keeps.shorter
  completed_so_formed c (effects.End reason) keeps = goes_on_formed s _ formed here refl refl refl refl (omega arith)
  completed_so_formed c (effects.Map vpn frame flags receiver) keeps = mapped_formed vpn frame flags receiver flags
  completed_so_formed c (effects.Unmap vpn) keeps = unmapped_formed vpn
  completed_so_formed c (effects.Spawn pc a0 priority) keeps = spawned_formed pc a0 priority
  completed_so_formed c (effects.Grant kernel group bits) keeps = granted_formed kernel group bits

  complete_if_formed : (b : Bool) (u : FlatState) → complete_if b s n t ≡ Some u → IsWellFormed u
  complete_if_formed true u e =
      let c = completion_of t.no t.context t.queue.items in
      subst IsWellFormed (same_Some _ u e) (completed_so_formed c c.effect (call_keeps t.no t.context t.queue.items))
  complete_if_formed false u e = absurd (cc)

-- a completion keeps a state well-formed
pub completion_formed : (s : FlatState) (n : ℕ) (u : FlatState) → IsWellFormed s → after_completion s n ≡ Some u → IsWellFormed u
unfolding after_completion
completion_formed s n u formed e = by (slice_get s.threads n) refl e
  where
    by : (o : Option FlatThread) → slice_get s.threads n ≡ o → completion_for s n o ≡ Some u → IsWellFormed u
    by None here e = absurd (cc)
    by (Some t) here e = complete_if_formed s n t formed here (is_completable t) u e

-- an event that fits keeps a state well-formed
pub event_formed : (s : FlatState) (e : Event) (u : FlatState) → IsWellFormed s → after_event s e ≡ Some u → IsWellFormed u
event_formed s (Declare d) u formed is = by (broken_rule s d) refl is
  where
    by : (rule : Option ℕ) → broken_rule s d ≡ rule → declared_unless rule s d ≡ Some u → IsWellFormed u
    by None fits is = subst IsWellFormed (same_Some _ u is) (declared_formed s d formed fits)
    by (Some rule) fits is = absurd (cc)
event_formed s (Step thread) u formed is = step_formed s thread.0 u formed is
event_formed s (Complete thread) u formed is = completion_formed s thread.0 u formed is

-- so does each event
pub applied_formed : (s : FlatState) (e : Event) → IsWellFormed s → IsWellFormed (applied s e)
applied_formed s e formed = by (after_event s e) refl
  where
    by : (o : Option FlatState) → after_event s e ≡ o → IsWellFormed (unwrap_or o s)
    by None is = formed
    by (Some u) is = event_formed s e u formed is

after_events_formed : (s : FlatState) (es : List Event) → IsWellFormed s → IsWellFormed (after_events s es)
after_events_formed s [] formed = formed
after_events_formed s (e ∷ es) formed = after_events_formed (applied s e) es (applied_formed s e formed)

-- each state that events can reach is well-formed
pub flat_formed : (es : List Event) → IsWellFormed (flat es)
flat_formed es = after_events_formed nothing_declared es nothing_formed
