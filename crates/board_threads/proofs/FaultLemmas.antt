-- When a step faults, and when a fault may be confirmed.
use Rattle.std.proofs.Common.{◌≡◌, ℕ, ◌%◌, Bool, true, false, not, ◌&&◌, eqb, map, List, Option, Some, None, Result, Err, IfErr, refl, sym, ap, ap₂, ◌∙◌, subst, arith, slice_get}
use Rattle.std.specs.Prelude.{if◌then◌else◌}
use Rattle.std.specs.Option.{is_some, option_and_then, option_map, option_or}
use Rattle.cache_ident.specs.declared.idents.Ident.{Ident}
use Rattle.cache_ident.specs.declared.names.Name.TheVariants as name
use Rattle.cache_ident.specs.declared.names.ThreadNo.{ThreadNo}
use Rattle.cache_ident.specs.Residents.{IsNameResident, Resident}
use Rattle.phys_groups.specs.declared.rows.Row.{Row}
use Rattle.phys_groups.specs.Rows.{row_name}
use Rattle.phys_groups.specs.Translation.{Translated, through, no_row, no_flag, no_right}
use Rattle.rv32_isa.specs.Table.{instruction_of}
use Rattle.rv32_exec.specs.declared.actions.Action.{Action}
use Rattle.rv32_exec.specs.declared.actions.Action.TheVariants as actions
use Rattle.rv32_exec.specs.declared.spaces.Width.TheVariants.{Byte, Half, Word}
use Rattle.rv32_exec.specs.declared.statuses.Access.TheVariants.{Write}
use Rattle.rv32_exec.specs.Actions.{action_of}
use Rattle.rv32_exec.specs.Pages.{fetched, translates}
use Rattle.flat_state.specs.declared.records.FlatThread.{FlatThread}
use Rattle.flat_state.specs.declared.records.NextStep.{NextStep}
use Rattle.flat_state.specs.declared.records.Signal.{Signal}
use Rattle.flat_state.specs.NextSteps.{data_row, faults, fetch_row, next_step, next_step_if, next_step_of}
use Rattle.flat_state.specs.Pages.{page_of, pages_of}
use Rattle.flat_state.specs.Signals.{full_among, is_runnable, next_action, next_signal, receivers_for, signal_of, signal_through}
use Rattle.flat_state.specs.State.{FlatState, is_ready}
use Rattle.flat_state.specs.Translation.{reached, rights_of, row_through}
use Rattle.flat_state.proofs.Translating.{translation-pages}
use Rattle.board_checks.specs.flat_laws.proofs.Members.{is_some-option_map}
use Rattle.board_checks.specs.flat_laws.proofs.RowMarks.{fetches_through}
use Rattle.flat_rules.specs.Looking.{does_any_miss}
use Rattle.flat_rules.proofs.Missing.{faults_decoded, miss-store}
use Rattle.board_checks.specs.run_journal.specs.Legal.{IsRowResident, MayStep}
use Rattle.thread_cache.specs.declared.ThreadRec.{ThreadRec}
use Rattle.board_checks.specs.desc_stores.specs.declared.items.Item.{Item}
use Rattle.board_checks.specs.desc_stores.specs.declared.items.Item.TheVariants as item
use Rattle.board_checks.specs.desc_stores.specs.Contents.{item_as, residents_of, Contents}
use Rattle.board_checks.specs.shown_state.specs.Shown.{flat_thread, thread_of}
use Rattle.board_checks.specs.board_ops.specs.declared.refusals.Refused.{Refused}
use Rattle.board_checks.specs.board_ops.specs.declared.refusals.Refused.TheVariants as why
use Rattle.board_checks.specs.Identifiers.{thread_as}
use Rattle.board_checks.specs.Refusals.{refusal_of_thread}
use Rattle.board_core.specs.cached_machine.specs.Cached.{is_loaded, state_of}
use Rattle.board_core.specs.cached_machine.specs.Posts.{mark_of}
use Rattle.board_core.specs.cached_machine.proofs.LoadedLaws.{loaded_by}
use Rattle.board_core.specs.Core.{contents_of, Recorded}
use Rattle.board_core.specs.Growth.{IsRoomMade}
use Rattle.board_core.proofs.CheckLaws.{enough_left}
use Rattle.board_checks.proofs.FirstLemmas.{both_pass, first_fails, first_passes, none_mapped, passes_if}
use Rattle.board_threads.specs.Faults.{IsFaulting}
use Rattle.board_core.specs.Refusals.{not_ready, not_waiting, over}
use Rattle.board_threads.specs.Refusals.{mapped_by, not_faulting, refusal_of_ending, refusal_of_fault, refusal_of_next, row_absent}

-- ---- a step that faults sends no signal

module _ (s : FlatState) (t : FlatThread) where
  -- what doesn't translate goes through no row
  unreached : (va : ℕ) → translates (pages_of s t.space) va Write ≡ false → is_some (row_through (reached s Write t.space va)) ≡ false
  unfolding translates
  unreached va lost =
      sym (is_some-option_map (page_of (rights_of s t.space) s.memory) (row_through (reached s Write t.space va)))
      ∙ (sym (ap is_some (translation-pages (rights_of s t.space) s.memory s.rows t.space va Write)) ∙ lost)

  silent_through : (va : ℕ) (to : Translated) → is_some (row_through to) ≡ false → signal_through va to ≡ None
  silent_through va (through row) lost = absurd (cc)
  silent_through va no_row lost = refl
  silent_through va no_flag lost = refl
  silent_through va no_right lost = refl

  lost_if : (x y : Bool) → (x && not y) ≡ true → y ≡ false
  lost_if true true missed = absurd (cc)
  lost_if true false missed = refl
  lost_if false y missed = absurd (cc)

  silent_action : (action : Option Action) → does_any_miss t.context (pages_of s t.space) action ≡ true → signal_of s t action ≡ None
  silent_action None missed = absurd (cc)
  silent_action (Some (actions.Store va Word value)) missed =
      silent_through va (reached s Write t.space va) (unreached va (lost_if (eqb (va % 4) 0) (translates (pages_of s t.space) va Write) (sym (miss-store t.context (pages_of s t.space) va Word value) ∙ missed)))
  silent_action (Some (actions.Store va Byte value)) missed = refl
  silent_action (Some (actions.Store va Half value)) missed = refl
  silent_action (Some (actions.Load rd va width signed)) missed = refl
  silent_action (Some (actions.Atomic rd va op operand)) missed = refl
  silent_action (Some (actions.Set rd value)) missed = refl
  silent_action (Some actions.Pass) missed = refl
  silent_action (Some (actions.Jump rd target)) missed = refl
  silent_action (Some actions.Call) missed = refl
  silent_action (Some actions.Break) missed = refl

  silent : faults s t ≡ true → next_signal s t ≡ None
  unfolding next_signal next_action
  silent missed = by (fetched (pages_of s t.space) t.context.pc) refl
    where
      by : (word : Option ℕ) → fetched (pages_of s t.space) t.context.pc ≡ word → signal_of s t (option_and_then (λ word. option_map (λ instr. action_of instr t.context) (instruction_of word)) word) ≡ None
      by None is = refl
      by (Some word) is = silent_action (option_map (λ instr. action_of instr t.context) (instruction_of word)) (sym (faults_decoded t.context (pages_of s t.space) word is) ∙ missed)

  -- so it may be taken
  pub faults_run : is_ready t.status ≡ true → faults s t ≡ true → is_runnable s t ≡ true
  faults_run ready missed = ap₂ (λ (a : Bool) (signal : Option Signal). a && not (is_some (full_among s.threads (map (λ receiver. receiver.0) (receivers_for s signal))))) ready (silent missed)

-- ---- of a thread and its next step

pub err_given : {T F : Type 0} (r : Result T F) (x : F) (P : F → Type 0) → (y : F) × (r ≡ Err y) × (y ≡ x) → P x → IfErr r P
err_given {T} {F} r x P p holds = subst (λ (q : Result T F). IfErr q P) (sym p.1) (subst P (sym p.2) holds)

-- what is said of the step of a thread that there is
pub next_is : (s : FlatState) (n : ℕ) (t : FlatThread) (next : NextStep) → slice_get s.threads n ≡ Some t → Some next ≡ next_step s n → next ≡ next_step_of s t
unfolding next_step
next_is s n t next there is = let same : Some next ≡ Some (next_step_of s t) = is ∙ ap (option_map (next_step_of s)) there in cc

pub no_next : (s : FlatState) (n : ℕ) (t : FlatThread) → slice_get s.threads n ≡ Some t → None ≡ next_step s n → ⊥
unfolding next_step
no_next s n t there is = let same : None ≡ Some (next_step_of s t) = is ∙ ap (option_map (next_step_of s)) there in cc

module _ (c : Contents) (t : FlatThread) (passes : None ≡ not_waiting c t) where
  both : (None ≡ not_ready t) × (None ≡ option_map why.OnCpu (mark_of c t.no))
  unfolding not_waiting
  both = both_pass (not_ready t) (option_map why.OnCpu (mark_of c t.no)) passes

  pub waits_ready : is_ready t.status ≡ true
  waits_ready = passes_if (is_ready t.status) (why.NotRunnable t.status) both.0

  pub waits_free : mark_of c t.no ≡ None
  waits_free = none_mapped why.OnCpu (mark_of c t.no) both.1

-- a step that isn't refused as one that doesn't fault does
module _ (s : FlatState) (t : FlatThread) (next : NextStep) (is : next ≡ next_step_of s t) (ready : is_ready t.status ≡ true) where
  ready_is : next ≡ next_step_if true s t
  ready_is = is ∙ ap (λ (b : Bool). next_step_if b s t) ready

  some_row : (o p : Option Row) → is_some p ≡ true → None ≡ mapped_by (option_or (option_map row_name o) (option_map row_name p)) → ⊥
  some_row (Some row) p some passes = cc
  some_row None (Some row) some passes = cc
  some_row None None some passes = cc

  faulting_if : (b : Bool) → next.faults ≡ b → None ≡ not_faulting next → next.faults ≡ true
  faulting_if true faults passes = faults
  faulting_if false hit passes =
      let misses_not : faults s t ≡ false = ap (λ (x : NextStep). x.faults) (sym ready_is) ∙ hit in
      let rows : None ≡ mapped_by (option_or next.data_row next.fetch_row) = passes ∙ ap (λ (b : Bool). if b then None else mapped_by (option_or next.data_row next.fetch_row)) hit in
      absurd (some_row (data_row s t) (fetch_row s t) (fetches_through s t misses_not) (rows ∙ ap (λ (x : NextStep). mapped_by (option_or x.data_row x.fetch_row)) ready_is))

  module _ (c : Contents) (missed : next.faults ≡ true) (present : None ≡ row_absent c next.fetch_row) where
    row_there : (o : Option Row) → None ≡ row_absent c (option_map row_name o) → IsRowResident (residents_of c) (option_map row_name o)
    unfolding row_absent
    row_there None passes = tt
    row_there (Some row) passes =
        let there = passes_if (is_loaded c (row_name row)) (why.NotLoaded row.vpn) passes in
        loaded_by (residents_of c) (row_name row) there

    may_step : (n : ThreadNo) → next_step s n.0 ≡ Some next → MayStep s (residents_of c) n next.faults
    may_step n its = record {
      next = next;
      its = its;
      runs = ap (λ (x : NextStep). x.runnable) ready_is ∙ faults_run s t ready (ap (λ (x : NextStep). x.faults) (sym ready_is) ∙ missed);
      faulty = refl;
      fetch = subst (λ (x : NextStep). IsRowResident (residents_of c) x.fetch_row) (sym ready_is) (row_there (fetch_row s t) (present ∙ ap (λ (x : NextStep). row_absent c x.fetch_row) ready_is));
      «data» = λ hit. absurd (let never : true ≡ false = sym missed ∙ hit in cc);
    }

-- ---- of the board

module _ (b : Recorded) (t : FlatThread) (next : NextStep) where
  pub by_waiting : (e : Refused) → Some e ≡ not_waiting (contents_of b) t → Some e ≡ refusal_of_ending b t
  unfolding refusal_of_ending
  by_waiting e fails = first_fails (not_waiting (contents_of b) t) (refusal_of_next b (next_step_of (state_of b.machine) t)) e fails

  pub by_next : (o : Option Refused) → None ≡ not_waiting (contents_of b) t → next ≡ next_step_of (state_of b.machine) t → o ≡ refusal_of_next b next → o ≡ refusal_of_ending b t
  unfolding refusal_of_ending
  by_next o waits is so = first_passes (not_waiting (contents_of b) t) (refusal_of_next b (next_step_of (state_of b.machine) t)) o waits (so ∙ ap (refusal_of_next b) is)

pub by_ending : (b : Recorded) (caller ident : Ident) (found : ThreadRec) (o : Option Refused) → None ≡ refusal_of_thread (contents_of b) caller ident → item_as (contents_of b) ident ≡ Some (item.Thread found) → o ≡ refusal_of_ending b (flat_thread found) → o ≡ refusal_of_fault b caller ident
unfolding thread_as
by_ending b caller ident found o passes there so =
    first_passes (refusal_of_thread (contents_of b) caller ident) (option_and_then (refusal_of_ending b) (thread_of (item_as (contents_of b) ident))) o passes
    (so ∙ ap (λ (x : Option Item). option_and_then (refusal_of_ending b) (thread_of x)) (sym there))

-- all tests pass
pub is_faulting : (b : Recorded) (t : FlatThread) (next : NextStep) → slice_get (state_of b.machine).threads t.no.0 ≡ Some t → Some next ≡ next_step (state_of b.machine) t.no.0 → IsNameResident (residents_of (contents_of b)) (name.Thread t.no)
    → None ≡ not_waiting (contents_of b) t → None ≡ not_faulting next → None ≡ row_absent (contents_of b) next.fetch_row → None ≡ over b 1 → IsFaulting b t.no next
is_faulting b t next there its loaded waits missed present left =
    let s = state_of b.machine in
    let is = next_is s t.no.0 t next there its in
    let ready = waits_ready (contents_of b) t waits in
    let faulting = faulting_if s t next is ready next.faults refl missed in
    record {
      its = sym its;
      faults = faulting;
      may = may_step s t next is ready (contents_of b) faulting present t.no (sym its);
      loaded = loaded;
      unmarked = waits_free (contents_of b) t waits;
      left = let enough = enough_left b 1 left in omega arith;
    }

-- where room was made it still faults
pub faulting_still : (old new : Recorded) → IsRoomMade old new → (whom : ThreadNo) (next : NextStep) → IsFaulting old whom next → IsFaulting new whom next
faulting_still old new room whom next is = record {
  its = ap (λ (s : FlatState). next_step s whom.0) room.only.state ∙ is.its;
  faults = is.faults;
  may = subst (λ (s : FlatState). MayStep s (residents_of (contents_of new)) whom next.faults) (sym room.only.state)
      (subst (λ (rs : List Resident). MayStep (state_of old.machine) rs whom next.faults) (sym room.only.loaded.residents) is.may);
  loaded = subst (λ (rs : List Resident). IsNameResident rs (name.Thread whom)) (sym room.only.loaded.residents) is.loaded;
  unmarked = room.only.marks.marks whom ∙ is.unmarked;
  left =
      let left = is.left in
      let steps = ap (λ (b : Recorded). b.steps) room.rest in
      let limit = ap (λ (b : Recorded). b.limit) room.rest in
      omega arith;
}
