-- What calls for a thread are answered, and what a fault leaves of it.
use Rattle.std.proofs.Common.{◌≡◌, ℕ, ◌<◌, Bool, true, false, List, [], ◌∷◌, ◌++◌, Option, Some, None, slice_get, count_by, sym, ap, ◌∙◌, subst, inl, inr, arith}
use Rattle.std.specs.Prelude.{slice_set, unwrap_or}
use Rattle.std.specs.Option.{option_map}
use Rattle.std.proofs.lemmas.Option.{same_Some}
use Rattle.cache_ident.specs.declared.idents.Cause.TheVariants.{Unloaded}
use Rattle.cache_ident.specs.declared.idents.Ident.{Ident}
use Rattle.cache_ident.specs.declared.names.Name.TheVariants as name
use Rattle.cache_ident.specs.declared.names.SpaceNo.{SpaceNo}
use Rattle.cache_ident.specs.declared.names.ThreadNo.{ThreadNo}
use Rattle.cache_ident.specs.Residents.{Resident, IsResident}
use Rattle.phys_groups.specs.Rows.{row_name}
use Rattle.board_calls.specs.rv32_exec.specs.declared.statuses.Reason.TheVariants.{Fault}
use Rattle.board_calls.specs.rv32_exec.specs.declared.statuses.Status.TheVariants.{Ended}
use Rattle.board_calls.specs.rv32_exec.specs.declared.steps.Stepped.{Stepped}
use Rattle.board_calls.specs.rv32_exec.specs.declared.steps.Stepped.TheVariants.{Next, Call, Stop, Miss}
use Rattle.board_calls.specs.rv32_exec.specs.Steps.{After}
use Rattle.board_calls.specs.flat_state.specs.declared.events.Event.{Event}
use Rattle.board_calls.specs.flat_state.specs.declared.events.Event.TheVariants.{Step}
use Rattle.board_calls.specs.flat_state.specs.declared.records.FlatThread.{FlatThread}
use Rattle.board_calls.specs.flat_state.specs.declared.records.NextStep.{NextStep}
use Rattle.board_calls.specs.flat_state.specs.Call.{is_completable}
use Rattle.board_calls.specs.flat_state.specs.Events.{applied}
use Rattle.board_calls.specs.flat_state.specs.NextSteps.{faults, fetch_row, is_miss, next_step, next_step_if, next_step_of}
use Rattle.board_calls.specs.flat_state.specs.Signals.{is_runnable}
use Rattle.board_calls.specs.flat_state.specs.State.{is_ended, is_ready, FlatState}
use Rattle.board_calls.specs.flat_state.specs.Step.{after_step, outcome, step_if, step_of, stepped, stepped_so}
use Rattle.board_calls.specs.flat_state.specs.Translation.{fault_kind, reached}
use Rattle.board_calls.specs.flat_state.proofs.Places.{get-set_same}
use Rattle.board_calls.specs.run_journal.specs.declared.entries.Entry.{Entry}
use Rattle.board_calls.specs.run_journal.specs.declared.entries.Entry.TheVariants as entry
use Rattle.board_calls.specs.run_journal.specs.Entries.{erase, is_step, steps_in}
use Rattle.board_calls.specs.run_journal.specs.Legal.{AreLegal, IsRowResident, MayStep}
use Rattle.board_calls.specs.run_journal.specs.Told.{nothing_told, told}
use Rattle.board_calls.specs.run_journal.proofs.Growth.{erase-append, legal-split, steps-append}
use Rattle.board_calls.specs.desc_stores.specs.Contents.{residents_of}
use Rattle.board_calls.specs.desc_groups.specs.Moves.{gone_as}
use Rattle.board_calls.specs.desc_parents.specs.Seen.{seen}
use Rattle.board_calls.specs.shown_state.specs.Shown.{shown}
use Rattle.board_calls.specs.store_residents.proofs.ResidentLemmas.{one_each}
use Rattle.board_calls.specs.cached_machine.specs.Cached.{state_of}
use Rattle.board_calls.specs.cached_machine.specs.Posts.{mark_of}
use Rattle.board_calls.specs.board_core.specs.Core.{contents_of, IsSound, Recorded}
use Rattle.board_calls.specs.board_core.proofs.GrowthLaws.{erase_back}
use Rattle.board_calls.specs.Calls.{IsCompletion}
use Rattle.board_calls.specs.Departures.{LeaveInTurn, LeavesIfThere}
use Rattle.board_calls.specs.board_checks.specs.Refusals.{refusal_of_complete}
use Rattle.owner_laws.specs.board_threads.specs.Faults.{HasEnded}
use Rattle.owner_laws.specs.board_threads.specs.Refusals.{refusal_of_fault}
use Rattle.owner_laws.specs.answer_laws.proofs.CallAnswers.{call_right, fault_right}
use Rattle.owner_laws.specs.owners.specs.Known.{Known}
use Rattle.owner_laws.specs.owners.specs.Owning.{IsThreadOf}
use Rattle.reach_laws.specs.Reaching.{IsOwned, IsReached}

-- ---- calls for a thread of a space that is reached

module _ (b : Recorded) (o : Known) (owned : IsOwned b o) (space : SpaceNo) (reached : IsReached b o space) (thread : ThreadNo) (is : IsThreadOf (state_of b.machine) space thread)
    (t : FlatThread) (here : slice_get (state_of b.machine).threads thread.0 ≡ Some t) (ident : Ident) (live : IsResident (residents_of (contents_of b)) ident (name.Thread thread)) where
  its_kernel : slice_get (state_of b.machine).spaces t.space.0 ≡ Some reached.kernel
  its_kernel =
      let at : t.space ≡ space = same_Some t.space space (sym (ap (option_map (λ (x : FlatThread). x.space)) here) ∙ is) in
      ap (λ (x : SpaceNo). slice_get (state_of b.machine).spaces x.0) at ∙ reached.its

  pub completes : is_completable t ≡ true → refusal_of_complete (contents_of b) reached.caller ident ≡ None
  unfolding shown
  completes can = call_right (contents_of b) owned.sound.tables.1.whole.one reached.caller ident reached.kernel thread t reached.caller_live live here its_kernel can

  pub confirms : is_ready t.status ≡ true → mark_of (contents_of b) thread ≡ None → faults (state_of b.machine) t ≡ true → IsRowResident (residents_of (contents_of b)) (option_map row_name (fetch_row (state_of b.machine) t)) → b.steps < b.limit
      → refusal_of_fault b reached.caller ident ≡ None
  confirms ready free missed there left = fault_right b owned.sound.tables.1.whole.one reached.caller ident reached.kernel thread t reached.caller_live live here its_kernel ready free missed there left

-- ---- a step that faults

module _ (s : FlatState) (n : ℕ) (t : FlatThread) (here : slice_get s.threads n ≡ Some t) where
  missed_ends : (after : After) (answer : Stepped) → is_miss answer ≡ true → (u : FlatThread) → slice_get (stepped_so s n t after answer).threads n ≡ Some u → is_ended u.status ≡ true
  missed_ends after Next missed u now = absurd (cc)
  missed_ends after Call missed u now = absurd (cc)
  missed_ends after (Stop reason) missed u now = absurd (cc)
  missed_ends after (Miss va access) missed u now =
      let it : FlatThread = record t { status = Ended (Fault (fault_kind (reached s access t.space va)) access va) } in
      let placed : slice_get (slice_set s.threads n it) n ≡ Some it = get-set_same s.threads n it t here in
      let same : it ≡ u = same_Some it u (sym placed ∙ now) in
      ap (λ (x : FlatThread). is_ended x.status) (sym same)

  pub faults_end : is_runnable s t ≡ true → faults s t ≡ true → (u : FlatThread) → slice_get (unwrap_or (after_step s n) s).threads n ≡ Some u → is_ended u.status ≡ true
  unfolding after_step
  faults_end runs missed u now =
      let is : after_step s n ≡ Some (stepped s n t (outcome s t)) = ap (step_of s n) here ∙ ap (λ (b : Bool). step_if b s n t) runs in
      missed_ends (outcome s t) (outcome s t).answer missed u (ap (λ (o : Option FlatState). slice_get (unwrap_or o s).threads n) (sym is) ∙ now)

  -- what a step that may be taken says of the thread
  pub may_faults : (next : NextStep) → next_step s n ≡ Some next → next.runnable ≡ true → next.faults ≡ true → (is_runnable s t ≡ true) × (faults s t ≡ true)
  unfolding next_step
  may_faults next its runs faulty = by (is_ready t.status) (same_Some next (next_step_of s t) (sym its ∙ ap (option_map (next_step_of s)) here))
    where
      by : (ready : Bool) → next ≡ next_step_if ready s t → (is_runnable s t ≡ true) × (faults s t ≡ true)
      by true is = (sym (ap (λ (x : NextStep). x.runnable) is) ∙ runs, sym (ap (λ (x : NextStep). x.faults) is) ∙ faulty)
      by false is = absurd (let clash : false ≡ true = sym (ap (λ (x : NextStep). x.runnable) is) ∙ runs in cc)

module _ (b c : Recorded) (ident : Ident) (cpu : ℕ) (thread : ThreadNo) (was : IsSound b) (sound : IsSound c) (ended : HasEnded ident cpu b c) (live : IsResident (residents_of (contents_of b)) ident (name.Thread thread)) where
  pub ended_thread : ended.whom ≡ thread
  ended_thread =
      let named = ended.named in
      let one : named.0 ≡ live.0 = (one_each (contents_of b) was.tables.1.whole.one).idents named.0 live.0 named.1 live.1 (named.2 ∙ sym live.2) in
      let same : name.Thread ended.whom ≡ name.Thread thread = sym named.3 ∙ ap (λ (r : Resident). r.name) one ∙ live.3 in
      cc

  -- it has ended
  pub has_ended : (t u : FlatThread) → slice_get (state_of b.machine).threads thread.0 ≡ Some t → slice_get (state_of c.machine).threads thread.0 ≡ Some u → is_ended u.status ≡ true
  has_ended t u here now =
      let legal = (legal-split nothing_told b.journal.entries (entry.Ended ended.whom cpu ∷ []) (subst (AreLegal nothing_told) ended.entries.entries sound.told.legal.each)).1 in
      let step : MayStep (told b.journal.entries).state (told b.journal.entries).residents ended.whom true = legal.0.happens.step in
      let s : FlatState = state_of b.machine in
      let its : next_step s thread.0 ≡ Some step.next = subst (λ (x : FlatState). next_step x thread.0 ≡ Some step.next) was.told.state (subst (λ (w : ThreadNo). next_step (told b.journal.entries).state w.0 ≡ Some step.next) ended_thread step.its) in
      let may = may_faults s thread.0 t here step.next its step.runs step.faulty in
      let made : state_of c.machine ≡ applied s (Step thread) = ended.entries.state ∙ ap (λ (w : ThreadNo). applied s (Step w)) ended_thread in
      faults_end s thread.0 t here may.0 may.1 u (ap (λ (x : FlatState). slice_get x.threads thread.0) (sym made) ∙ now)

-- ---- a completion takes no step

leaves_erased : (s : FlatState) (cpu : ℕ) (ident : Ident) (rs : List Resident) (entries : List Entry) (left : List Resident) → LeavesIfThere s cpu ident rs entries left → erase entries ≡ []
leaves_erased s cpu ident rs entries left (inl gone) = ap erase gone.nothing
leaves_erased s cpu ident rs entries left (inr whole) = ap erase whole.told ∙ erase_back cpu (gone_as Unloaded whole.idents)

turns_erased : (s : FlatState) (cpu : ℕ) (idents : List Ident) (rs : List Resident) (entries : List Entry) (left : List Resident) → LeaveInTurn s cpu idents rs entries left → erase entries ≡ []
turns_erased s cpu [] rs entries left turns = ap erase turns.0
turns_erased s cpu (ident ∷ idents) rs entries left turns =
    let first = turns.0 in
    let later = turns.1 in
    ap erase turns.3
    ∙ erase-append first later
    ∙ ap (λ (es : List Event). es ++ erase later) (leaves_erased s cpu ident rs first turns.2 turns.4)
    ∙ turns_erased s cpu idents turns.2 later left turns.5

pub completion_steps : (cpu : ℕ) (ident : Ident) (b c : Recorded) → IsSound b → IsSound c → IsCompletion cpu ident b c → c.steps ≡ b.steps
completion_steps cpu ident b c was sound done =
    let es : List Entry = done.departures ++ entry.Completed done.no cpu ∷ [] in
    let gone = turns_erased (seen (contents_of b)) cpu done.idents (residents_of (contents_of b)) done.departures (residents_of (contents_of c)) done.turns in
    let none : steps_in es ≡ 0 = ap (λ (events : List Event). count_by is_step events) (erase-append done.departures (entry.Completed done.no cpu ∷ []) ∙ ap (λ (events : List Event). events ++ erase (entry.Completed done.no cpu ∷ [])) gone) in
    let grown = ap steps_in done.grows.entries ∙ steps-append b.journal.entries es in
    let before = was.steps in
    let now = sound.steps in
    omega (arith, none, grown, before, now)
