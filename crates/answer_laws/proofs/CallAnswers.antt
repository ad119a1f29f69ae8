-- What a completion and a confirmed fault are answered whose identifiers are live and of their kinds.
use Rattle.std.proofs.Common.{◌≡◌, ◌<◌, ◌-◌, ℕ, Bool, true, false, not, List, [], Option, Some, None, slice_get, refl, sym, ap, ◌∙◌, arith}
use Rattle.std.specs.Prelude.{if◌then◌else◌, ◌&&◌}
use Rattle.std.specs.Option.{option_and_then, option_map, option_or}
use Rattle.std.proofs.lemmas.Bool.{le-ltb}
use Rattle.std.proofs.lemmas.Option.{same_Some}
use Rattle.cache_ident.specs.declared.idents.Ident.{Ident}
use Rattle.cache_ident.specs.declared.idents.Kind.TheVariants as kind
use Rattle.cache_ident.specs.declared.names.KernelNo.{KernelNo}
use Rattle.cache_ident.specs.declared.names.Name.TheVariants as name
use Rattle.cache_ident.specs.declared.names.ThreadNo.{ThreadNo}
use Rattle.cache_ident.specs.Residents.{IsResident}
use Rattle.phys_groups.specs.declared.rows.Row.{Row}
use Rattle.phys_groups.specs.Rows.{row_name}
use Rattle.board_loads.specs.flat_state.specs.declared.events.Machine.{Machine}
use Rattle.board_loads.specs.flat_state.specs.declared.records.FlatThread.{FlatThread}
use Rattle.board_loads.specs.flat_state.specs.declared.records.NextStep.{NextStep}
use Rattle.board_loads.specs.flat_state.specs.Call.{has_nothing_to_take, is_completable}
use Rattle.board_loads.specs.flat_state.specs.Dependence.{owner, owner_of_thread}
use Rattle.board_loads.specs.flat_state.specs.NextSteps.{data_row, faults, fetch_row, next_step_if, next_step_of}
use Rattle.board_loads.specs.flat_state.specs.State.{is_ready, is_trapped}
use Rattle.board_threads.specs.run_journal.specs.Legal.{IsRowResident}
use Rattle.board_loads.specs.thread_cache.specs.declared.ThreadRec.{ThreadRec}
use Rattle.board_threads.specs.desc_stores.specs.declared.items.Item.TheVariants as item
use Rattle.board_threads.specs.desc_stores.specs.Contents.{item_as, residents_of, Contents}
use Rattle.board_threads.specs.desc_stores.specs.Sound.{IsExactlyOne}
use Rattle.board_loads.specs.desc_parents.specs.Seen.{seen}
use Rattle.board_threads.specs.shown_state.specs.Shown.{flat_thread, shown, thread_of}
use Rattle.board_threads.specs.shown_state.proofs.LookupLemmas.{found_thread}
use Rattle.board_threads.specs.board_ops.specs.declared.refusals.Refused.{Refused}
use Rattle.board_threads.specs.board_ops.specs.declared.refusals.Refused.TheVariants as why
use Rattle.board_threads.specs.cached_machine.specs.Cached.{state_of}
use Rattle.board_threads.specs.cached_machine.specs.Posts.{mark_of}
use Rattle.board_threads.specs.board_core.specs.Core.{contents_of, Recorded}
use Rattle.board_threads.specs.board_core.specs.Refusals.{not_waiting, over}
use Rattle.board_threads.specs.board_checks.specs.Identifiers.{not_a, thread_as}
use Rattle.board_threads.specs.board_checks.specs.Refusals.{not_completable, not_owned_as, not_owner, not_trapped, refusal_of_complete, wait_empty}
use Rattle.board_threads.specs.board_checks.proofs.IdentifierLemmas.{call_tested, thread_is}
use Rattle.board_threads.specs.Refusals.{mapped_by, refusal_of_ending, refusal_of_fault, refusal_of_next, row_absent}
use Rattle.board_threads.proofs.IdentLemmas.{content_named, loaded_if, record_named}
use Rattle.answer_laws.proofs.Passing.{first, item_named, owns_itself, second, skip, thread_tested}

or_or : (a b d e : Option Refused) → option_or (option_or a (option_or b d)) e ≡ option_or a (option_or b (option_or d e))
or_or None None d e = refl
or_or None (Some b) d e = refl
or_or (Some a) b d e = refl

completes : (t : FlatThread) → is_completable t ≡ true → option_or (not_trapped t) (wait_empty t) ≡ None
completes t is = by (is_trapped t.status) (has_nothing_to_take t) is
  where
    by : (b w : Bool) → (b && not (b && w)) ≡ true → option_or (if b then None else Some (why.NotTrapped t.status)) (if w then Some (why.WaitEmpty t.no) else None) ≡ None
    by true true is = absurd (cc)
    by true false is = refl
    by false w is = absurd (cc)

module _ (c : Contents) (one : IsExactlyOne c) (machine : Option Machine) (memory : List ℕ) (ident : Ident) (thread : ThreadNo) (q : IsResident (residents_of c) ident (name.Thread thread)) (t : FlatThread) (here : slice_get (shown machine memory c).threads thread.0 ≡ Some t) where
  -- what is loaded with the identifier shows that thread
  pub found : (rec : ThreadRec) × (item_as c ident ≡ Some (item.Thread rec)) × (flat_thread rec ≡ t) × (rec.no ≡ thread)
  found =
      let rec = record_named c one ident thread q in
      let named : name.Thread rec.0.no ≡ name.Thread thread = item_named c one ident (name.Thread thread) q (item.Thread rec.0) rec.1 in
      let content = content_named c one ident (name.Thread thread) q (item.Thread rec.0) rec.1 in
      (rec.0, rec.1, same_Some (flat_thread rec.0) t (sym (found_thread machine memory c one thread.0 ∙ ap thread_of content) ∙ here), (cc))

module _ (c : Contents) (one : IsExactlyOne c) where
  pub call_answers : (caller ident : Ident) (given kernel : KernelNo) (thread : ThreadNo) (t : FlatThread) → IsResident (residents_of c) caller (name.Kernel given) → IsResident (residents_of c) ident (name.Thread thread) → slice_get (seen c).threads thread.0 ≡ Some t → slice_get (seen c).spaces t.space.0 ≡ Some kernel → refusal_of_complete c caller ident ≡ option_or (not_owner given kernel) (option_or (not_trapped t) (wait_empty t))
  unfolding owner
  call_answers caller ident given kernel thread t r q here its =
      let rec = found c one None [] ident thread q t here in
      let of : owner (seen c) (name.Thread thread) ≡ Some kernel = ap (owner_of_thread (seen c)) here ∙ its in
      let can : not_completable c ident ≡ option_or (not_trapped t) (wait_empty t) = sym (call_tested c ident rec.0 rec.1) ∙ ap (λ (x : FlatThread). option_or (not_trapped x) (wait_empty x)) rec.2 in
      sym (or_or (not_a kind.Kernel c caller) (not_a kind.Thread c ident) (not_owned_as c caller ident) (not_completable c ident))
      ∙ first _ _ _ (thread_tested c one caller ident given kernel thread r q of)
      ∙ second _ _ _ can

  pub call_right : (caller ident : Ident) (kernel : KernelNo) (thread : ThreadNo) (t : FlatThread) → IsResident (residents_of c) caller (name.Kernel kernel) → IsResident (residents_of c) ident (name.Thread thread) → slice_get (seen c).threads thread.0 ≡ Some t → slice_get (seen c).spaces t.space.0 ≡ Some kernel → is_completable t ≡ true → refusal_of_complete c caller ident ≡ None
  call_right caller ident kernel thread t r q here its can =
      call_answers caller ident kernel kernel thread t r q here its
      ∙ skip _ _ _ (owns_itself kernel) (completes t can)

-- ---- a fault

module _ (b : Recorded) (one : IsExactlyOne (contents_of b)) where
  pub fault_answers : (caller ident : Ident) (given kernel : KernelNo) (thread : ThreadNo) (t : FlatThread) → IsResident (residents_of (contents_of b)) caller (name.Kernel given) → IsResident (residents_of (contents_of b)) ident (name.Thread thread) → slice_get (state_of b.machine).threads thread.0 ≡ Some t → slice_get (state_of b.machine).spaces t.space.0 ≡ Some kernel
      → (refusal_of_fault b caller ident ≡ option_or (not_owner given kernel) (refusal_of_ending b t)) × (t.no ≡ thread)
  unfolding owner shown thread_as
  fault_answers caller ident given kernel thread t r q here its =
      let c = contents_of b in
      let rec = found c one (Some b.machine.machine) b.machine.memory ident thread q t here in
      let of : owner (seen c) (name.Thread thread) ≡ Some kernel = ap (owner_of_thread (seen c)) here ∙ its in
      let its_thread : thread_as c ident ≡ Some t = thread_is c ident rec.0 rec.1 ∙ ap (λ (x : FlatThread). Some x) rec.2 in (
        first _ _ _ (thread_tested c one caller ident given kernel thread r q of)
            ∙ second _ _ _ (ap (option_and_then (refusal_of_ending b)) its_thread),
        sym (ap (λ (x : FlatThread). x.no) rec.2) ∙ rec.3,
      )

  left_passes : b.steps < b.limit → over b 1 ≡ None
  unfolding over
  left_passes left = ap (λ (x : Bool). if x then Some (why.Over (b.limit - b.steps)) else None) (le-ltb (b.limit - b.steps) 1 (omega (arith, left)))

  waits_so : (t : FlatThread) → is_ready t.status ≡ true → mark_of (contents_of b) t.no ≡ None → not_waiting (contents_of b) t ≡ None
  unfolding not_waiting
  waits_so t ready free =
      skip _ _ _ (ap (λ (x : Bool). if x then None else Some (why.NotRunnable t.status)) ready) (ap (option_map why.OnCpu) free)

  present : (o : Option Row) → IsRowResident (residents_of (contents_of b)) (option_map row_name o) → row_absent (contents_of b) (option_map row_name o) ≡ None
  unfolding row_absent
  present None there = refl
  present (Some row) there = ap (λ (x : Bool). if x then None else Some (why.NotLoaded row.vpn)) (loaded_if (contents_of b) (row_name row) there)

  pub fault_right : (caller ident : Ident) (kernel : KernelNo) (thread : ThreadNo) (t : FlatThread) → IsResident (residents_of (contents_of b)) caller (name.Kernel kernel) → IsResident (residents_of (contents_of b)) ident (name.Thread thread) → slice_get (state_of b.machine).threads thread.0 ≡ Some t → slice_get (state_of b.machine).spaces t.space.0 ≡ Some kernel
      → is_ready t.status ≡ true → mark_of (contents_of b) thread ≡ None → faults (state_of b.machine) t ≡ true → IsRowResident (residents_of (contents_of b)) (option_map row_name (fetch_row (state_of b.machine) t)) → b.steps < b.limit → refusal_of_fault b caller ident ≡ None
  unfolding refusal_of_ending
  fault_right caller ident kernel thread t r q here its ready free missed there left =
      let s = state_of b.machine in
      let answers = fault_answers caller ident kernel kernel thread t r q here its in
      let next : NextStep = next_step_if true s t in
      let goes : next_step_of s t ≡ next = ap (λ (x : Bool). next_step_if x s t) ready in
      answers.0
      ∙ skip _ _ _ (owns_itself kernel)
      (skip _ _ _ (waits_so t ready (ap (mark_of (contents_of b)) answers.1 ∙ free))
      (ap (refusal_of_next b) goes
      ∙ skip _ _ _ (ap (λ (x : Bool). if x then None else mapped_by (option_or next.data_row next.fetch_row)) missed)
      (skip _ _ _ (present (fetch_row s t) there) (left_passes left))))
