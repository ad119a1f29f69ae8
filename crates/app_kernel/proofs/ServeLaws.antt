-- What comes of a thread that is served.
use Rattle.std.proofs.Common.{◌≡◌, ◌⊎◌, ℕ, Bool, true, false, List, [], ◌∷◌, ◌++◌, Option, Some, None, is_some, slice_get, refl, sym, ap, ◌∙◌, subst, inl, inr}
use Rattle.std.specs.Prelude.{◌↔◌, Result, Ok, Err, IfErr, IfOk, IfSome}
use Rattle.std.specs.Option.{option_map}
use Rattle.std.proofs.lemmas.List.{append_assoc}
use Rattle.std.proofs.lemmas.Option.{same_Some}
use Rattle.cache_ident.specs.declared.idents.Ident.{Ident}
use Rattle.cache_ident.specs.declared.names.KernelNo.{KernelNo}
use Rattle.cache_ident.specs.declared.names.Name.{Name}
use Rattle.cache_ident.specs.declared.names.Name.TheVariants as name
use Rattle.cache_ident.specs.declared.names.SpaceNo.{SpaceNo}
use Rattle.cache_ident.specs.declared.names.ThreadNo.{ThreadNo}
use Rattle.cache_ident.specs.Residents.{Resident, IsResident}
use Rattle.fault_forward.specs.declared.effects.Notice.{Notice}
use Rattle.fault_forward.specs.declared.effects.Notice.TheVariants as notices
use Rattle.rv32_exec.specs.declared.statuses.Access.{Access}
use Rattle.rv32_exec.specs.declared.statuses.Reason.{Reason}
use Rattle.rv32_exec.specs.declared.statuses.Status.{Status}
use Rattle.rv32_exec.specs.declared.statuses.Status.TheVariants as statuses
use Rattle.owners.specs.flat_state.specs.declared.events.Event.TheVariants.{Complete}
use Rattle.owners.specs.flat_state.specs.declared.records.FlatThread.{FlatThread}
use Rattle.owners.specs.flat_state.specs.Events.{applied}
use Rattle.owners.specs.flat_state.specs.Names.{stands}
use Rattle.owners.specs.flat_state.specs.State.{is_ended, FlatState}
use Rattle.owners.specs.run_journal.specs.declared.entries.Entry.TheVariants as entry
use Rattle.page_laws.specs.board_ops.specs.declared.refusals.Refused.{Refused}
use Rattle.page_laws.specs.board_ops.specs.declared.refusals.Refused.TheVariants as why
use Rattle.page_laws.specs.cached_machine.specs.Cached.{state_of}
use Rattle.page_laws.specs.shown_state.specs.Shown.{shown}
use Rattle.page_laws.specs.desc_stores.specs.Contents.{residents_of}
use Rattle.page_laws.specs.board_core.specs.Core.{contents_of, IsSound, Recorded}
use Rattle.page_laws.specs.desc_parents.specs.Seen.{seen}
use Rattle.page_laws.specs.board_calls.specs.Calls.{IsCompletion}
use Rattle.page_laws.specs.board_checks.specs.Refusals.{refusal_of_complete}
use Rattle.page_laws.specs.board_threads.specs.Faults.{HasEnded}
use Rattle.page_laws.specs.board_threads.specs.Refusals.{refusal_of_fault}
use Rattle.owners.specs.Known.{ident_of, Known}
use Rattle.owners.specs.Owning.{AreOwnersOf, IsThreadOf}
use Rattle.page_laws.specs.owner_laws.proofs.Naming.{names_it}
use Rattle.owner_ports.specs.Boards.{IsCall, IsRoomyCall, OnTold}
use Rattle.page_laws.specs.reach_laws.specs.Reaching.{kernel_ident, IsOwned}
use Rattle.page_laws.specs.reach_laws.proofs.Calling.{completes, completion_steps, has_ended}
use Rattle.page_laws.specs.reach_laws.proofs.Owning.{spaces_known, still_owned}
use Rattle.app_kernel.specs.declared.serving.Served.{Served}
use Rattle.app_kernel.specs.declared.serving.Served.TheVariants as served
use Rattle.app_kernel.specs.Serving.{Finishes, FinishesAt, Helps, IsCallCompleted, IsEnded, IsHelped, IsInCall, IsToldOf, Serves}
use Rattle.app_kernel.specs.declared.walk.Trust.{Trust}
use Rattle.app_kernel.specs.declared.walk.Trust.TheVariants.{Nothing}
use Rattle.app_kernel.specs.Walks.{AreWalked, Finds, IsFound, IsHad, IsThreadReached, IsWalked}
use Rattle.app_kernel.proofs.Changes.{told_both, told_from, told_once, told_twice}
use Rattle.app_kernel.proofs.WalkLaws.{by_refused}

-- ---- what is said of an answer that is known

pub at_err : {T : Type 0} (P : Refused → Type 0) (w : Refused) (r : Result T Refused) → r ≡ Err w → P w → IfErr r P
at_err {T} P w r is so = subst (λ (x : Result T Refused). IfErr x P) (sym is) so

pub more_err : {T : Type 0} (r : Result T Refused) (P Q : Refused → Type 0) → ((w : Refused) → P w → Q w) → IfErr r P → IfErr r Q
more_err (Ok t) P Q so is = tt
more_err (Err w) P Q so is = so w is

pub more_ok : {T : Type 0} (r : Result T Refused) (P Q : T → Type 0) → ((t : T) → P t → Q t) → IfOk r P → IfOk r Q
more_ok (Ok t) P Q so is = so t is
more_ok (Err w) P Q so is = tt

-- ---- statuses

-- a thread has ended in each board that shows the same
pub ended_so : (b c : Recorded) (thread : ThreadNo) → state_of c.machine ≡ state_of b.machine → IsEnded c thread → IsEnded b thread
ended_so b c thread same ended = record {
  reason = ended.reason;
  status = ap (λ (s : FlatState). option_map (λ (t : FlatThread). t.status) (slice_get s.threads thread.0)) (sym same) ∙ ended.status;
}

in_call_so : (s u : FlatState) (thread : ThreadNo) → u ≡ s → IsInCall s thread → IsInCall u thread
in_call_so s u thread same call = subst (λ (x : FlatState). IsInCall x thread) (sym same) call

-- ---- a completion

abbrev pub CompleteCall : Ident → Ident → Result (Unit {0}) Refused → Recorded → Recorded → Type 0
CompleteCall caller ident answer old new = IsCall (refusal_of_complete (contents_of old) caller ident) (λ _. IsCompletion 0 ident old new) old new answer

pub complete_refused : (a b : Option Recorded) (caller ident : Ident) (r : Result (Unit {0}) Refused) (w : Refused) (o : Known) → r ≡ Err w → OnTold a b (CompleteCall caller ident r) → AreWalked a b o o
complete_refused a b caller ident r w o is call = record {
  told = told_once a b (CompleteCall caller ident r) (λ x y. IsWalked x y o o)
      (λ x y made. by_refused (refusal_of_complete (contents_of x) caller ident) (λ _. IsCompletion 0 ident x y) x y w o (subst (λ (r : Result (Unit {0}) Refused). CompleteCall caller ident r x y) is made)) call;
}

-- what the entries of a completion say
completed_so : (b c : Recorded) (o : Known) (thread : ThreadNo) (ident : Ident) → IsOwned b o → IsSound c → ident_of o (name.Thread thread) ≡ Some ident → IsCompletion 0 ident b c → IsCallCompleted thread b c
completed_so b c o thread ident owned sound noted is =
    let named : name.Thread is.no ≡ name.Thread thread = names_it b owned.sound o ident (name.Thread thread) (name.Thread is.no) owned.are noted is.its in
    let same : is.no ≡ thread = cc in
    record {
      state = is.state ∙ ap (λ (n : ThreadNo). applied (state_of b.machine) (Complete n)) same;
      before = b.journal.entries ++ is.departures;
      entries = is.grows.entries ∙ sym (append_assoc b.journal.entries is.departures (entry.Completed is.no 0 ∷ [])) ∙ ap (λ (n : ThreadNo). (b.journal.entries ++ is.departures) ++ entry.Completed n 0 ∷ []) same;
      steps = completion_steps 0 ident b c owned.sound sound is;
      limit = is.grows.limit;
    }

-- what the answer says of the thread
ended_iff : (b : Recorded) (thread : ThreadNo) (over : Bool) → ((over ≡ true) ↔ IsEnded b thread) → (answer : Served) → (over ≡ true → answer ≡ served.Ended) → (over ≡ false → answer ≡ served.Resumed) → (answer ≡ served.Ended) ↔ IsEnded b thread
ended_iff b thread true so answer when_over when_open = (λ _. so.0 refl, λ _. when_over refl)
ended_iff b thread false so answer when_over when_open = (λ is. absurd (let clash : served.Resumed ≡ served.Ended = sym (when_open refl) ∙ is in cc), λ ended. absurd (let clash : false ≡ true = so.1 ended in cc))

gone_on : (over : Bool) (answer : Served) → (over ≡ true → answer ≡ served.Ended) → (over ≡ false → answer ≡ served.Resumed) → (answer ≡ served.Resumed) ⊎ (answer ≡ served.Ended)
gone_on true answer when_over when_open = inr (when_over refl)
gone_on false answer when_over when_open = inl (when_open refl)

-- a call that was completed after a walk
completed_since : (a b c : Recorded) (o p : Known) (thread : ThreadNo) → IsOwned a o → IsWalked a b o p → IsCallCompleted thread b c → IsCallCompleted thread a c
completed_since a b c o p thread owned walked is = record {
  state = is.state ∙ ap (λ (s : FlatState). applied s (Complete thread)) walked.state;
  before = is.before;
  entries = is.entries;
  steps = is.steps ∙ walked.steps owned;
  limit = is.limit ∙ walked.limit;
}

-- the thread is completed, and its status asked for
pub complete_helps : (a m b c : Option Recorded) (o q : Known) (thread : ThreadNo) (caller ident : Ident) (r : Result (Unit {0}) Refused) (done : Unit {0}) (over : Bool) (answer : Served) → AreWalked a m o q → ident_of q (name.Thread thread) ≡ Some ident → r ≡ Ok done
    → OnTold m b (CompleteCall caller ident r) → OnTold b c (λ old new. IsToldOf thread old new over) → (over ≡ true → answer ≡ served.Ended) → (over ≡ false → answer ≡ served.Resumed)
    → OnTold a c (λ old new. IsOwned old o → IsHelped thread notices.Trap old new q answer)
complete_helps a m b c o q thread caller ident r done over answer walked noted is call asked when_over when_open =
    let both : OnTold m c (λ old new. CompleteCall caller ident r old new × IsToldOf thread new new over) =
    told_twice m b c (CompleteCall caller ident r) (λ old new. IsToldOf thread old new over) (λ old new. CompleteCall caller ident r old new × IsToldOf thread new new over)
    (λ x y z made tells. (subst (CompleteCall caller ident r x) (sym tells.same) made, subst (λ (w : Recorded). IsToldOf thread w w over) (sym tells.same) (record { same = refl; sound = tells.sound; ended = tells.ended }))) call asked in
    told_twice a m c (λ x y. IsWalked x y o q) (λ old new. CompleteCall caller ident r old new × IsToldOf thread new new over) (λ old new. IsOwned old o → IsHelped thread notices.Trap old new q answer)
    (λ x y z first second owned.
    let made : CompleteCall caller ident (Ok done) y z = subst (λ (w : Result (Unit {0}) Refused). CompleteCall caller ident w y z) is second.0 in
    let mid : IsOwned y q = first.owned owned in
    let full : IsCallCompleted thread y z = completed_so y z q thread ident mid made.event.sound noted made.made in
    record {
      owners = (still_owned y q mid z made.event.grew made.event.sound).are;
      ended = ended_iff z thread over second.1.ended answer when_over when_open;
      trap = λ _. record {
        so = gone_on over answer when_over when_open;
        completed = completed_since x y z o q thread owned first full;
      };
    }) walked.told both

-- whoever has it at hand isn't refused before
pub kernel_finishes : (a m : Option Recorded) (o p : Known) (space : SpaceNo) (thread : ThreadNo) (w : Refused) (up : Result Ident Refused) → ((its : KernelNo) (known : Ident) → slice_get o.spaces space.0 ≡ Some its → kernel_ident o its ≡ Some known → IsHad a m o p known up) → up ≡ Err w
    → AreWalked a m o p → OnTold a m (FinishesAt o space thread w)
kernel_finishes a m o p space thread w up had_so is walked = told_once a m (λ x y. IsWalked x y o p) (FinishesAt o space thread w)
    (λ x y _ owned reached _ _. absurd (
    let first = had_so reached.reached.kernel reached.reached.caller (ap (λ (ks : List KernelNo). slice_get ks space.0) (spaces_known x o owned) ∙ reached.reached.its) reached.reached.caller_known in
    let clash : Err w ≡ Ok reached.reached.caller = sym is ∙ first.its in cc)) walked.told

-- the call that is completable is completed, or memory is wanted
module _ (a m n : Option Recorded) (o p q : Known) (space : SpaceNo) (thread : ThreadNo) (up here : Result Ident Refused)
    (kernel_had_so : (its : KernelNo) (known : Ident) → slice_get o.spaces space.0 ≡ Some its → kernel_ident o its ≡ Some known → IsHad a m o p known up)
    (thread_had_so : (known : Ident) → ident_of p (name.Thread thread) ≡ Some known → IsHad m n p q known here) where
  -- what is reached is at hand
  record IsReady (b : Recorded) (owned : IsOwned b o) (is : IsThreadReached b o space thread) : Type 0 where
    up_is : up ≡ Ok is.reached.caller
    here_is : here ≡ Ok is.ident
    board : n ≡ a

  ready : (b : Recorded) (owned : IsOwned b o) (is : IsThreadReached b o space thread) → IsReady b owned is
  ready b owned is =
      let its : slice_get o.spaces space.0 ≡ Some is.reached.kernel = ap (λ (ks : List KernelNo). slice_get ks space.0) (spaces_known b o owned) ∙ is.reached.its in
      let first = kernel_had_so is.reached.kernel is.reached.caller its is.reached.caller_known in
      let second = thread_had_so is.ident (subst (λ (x : Known). ident_of x (name.Thread thread) ≡ Some is.ident) (sym first.owners) is.known) in
      record { up_is = first.its; here_is = second.its; board = second.board ∙ first.board }

  pub thread_finishes : AreWalked a n o q → (w : Refused) → here ≡ Err w → OnTold a n (FinishesAt o space thread w)
  thread_finishes walked w is = told_once a n (λ x y. IsWalked x y o q) (FinishesAt o space thread w)
      (λ x y _ owned reached _ _. absurd (let clash : Err w ≡ Ok reached.ident = sym is ∙ (ready x owned reached).here_is in cc)) walked.told

  module _ (b : Option Recorded) (caller ident : Ident) (r : Result (Unit {0}) Refused) (w : Refused) (up_is : up ≡ Ok caller) (here_is : here ≡ Ok ident) (is : r ≡ Err w) where
    pub call_finishes : AreWalked a n o q → OnTold n b (CompleteCall caller ident r) → OnTold a b (FinishesAt o space thread w)
    call_finishes walked call =
        let at = told_from a n (λ x y. IsWalked x y o q) (λ x y. (a ≡ Some x) × (n ≡ Some y)) (λ x y is_a is_n _. (is_a, is_n)) walked.told in
        told_twice a n b (λ x y. (a ≡ Some x) × (n ≡ Some y)) (CompleteCall caller ident r) (FinishesAt o space thread w)
        (λ x y z boards made owned reached of call_is.
        let hand = ready x owned reached in
        let same : y ≡ x = same_Some y x (sym boards.1 ∙ hand.board ∙ boards.0) in
        let by : caller ≡ reached.reached.caller = let e = sym up_is ∙ hand.up_is in cc in
        let whom : ident ≡ reached.ident = let e = sym here_is ∙ hand.here_is in cc in
        let none : refusal_of_complete (contents_of y) caller ident ≡ None =
        subst (λ (v : Recorded). refusal_of_complete (contents_of v) caller ident ≡ None) (sym same)
        (subst (λ (i : Ident). refusal_of_complete (contents_of x) i ident ≡ None) (sym by)
        (subst (λ (i : Ident). refusal_of_complete (contents_of x) reached.reached.caller i ≡ None) (sym whom)
        (completes x o owned space reached.reached thread of call_is.found call_is.there reached.ident reached.live call_is.completable))) in
        let refused : CompleteCall caller ident (Err w) y z = subst (λ (v : Result (Unit {0}) Refused). CompleteCall caller ident v y z) is made in
        elim refused.refused.why [
          | inl wants ↦ wants
          | inr tells ↦ absurd (let clash : None ≡ Some w = sym none ∙ tells in cc)
        ]) at call

-- ---- a fault that is confirmed

abbrev pub FaultCall : Ident → Ident → Result (Unit {0}) Refused → Recorded → Recorded → Type 0
FaultCall caller ident answer old new = IsRoomyCall (refusal_of_fault old caller ident) (λ _. HasEnded ident 0 old new) old new answer

pub fault_refused : (a b : Option Recorded) (caller ident : Ident) (r : Result (Unit {0}) Refused) (w : Refused) (o : Known) → r ≡ Err w → OnTold a b (FaultCall caller ident r) → AreWalked a b o o
fault_refused a b caller ident r w o is call = record {
  told = told_once a b (FaultCall caller ident r) (λ x y. IsWalked x y o o)
      (λ x y made. by_refused (refusal_of_fault x caller ident) (λ _. HasEnded ident 0 x y) x y w o (subst (λ (r : Result (Unit {0}) Refused). FaultCall caller ident r x y) is made).call) call;
}

-- a walk that leaves the thread as it was, which hadn't ended
pub goes_on_so : (a b : Option Recorded) (o p : Known) (thread : ThreadNo) (va : ℕ) (access : Access) → AreWalked a b o p → OnTold a b (λ old new. IsOwned old o → (IsEnded old thread → ⊥) → IsHelped thread (notices.Fault va access) old new p served.Resumed)
goes_on_so a b o p thread va access walked = told_once a b (λ x y. IsWalked x y o p) (λ old new. IsOwned old o → (IsEnded old thread → ⊥) → IsHelped thread (notices.Fault va access) old new p served.Resumed)
    (λ x y first owned going. record {
      owners = (first.owned owned).are;
      ended = (λ is. absurd (cc), λ ended. absurd (going (ended_so x y thread first.state ended)));
      trap = λ is. absurd (cc);
    }) walked.told

-- a thread stands still after a step
status_of_ended : (t : FlatThread) → is_ended t.status ≡ true → (reason : Reason) × (t.status ≡ statuses.Ended reason)
status_of_ended t is = by t.status is
  where
    by : (s : Status) → is_ended s ≡ true → (reason : Reason) × (s ≡ statuses.Ended reason)
    by statuses.Ready is = absurd (cc)
    by statuses.Trapped is = absurd (cc)
    by (statuses.Ended reason) is = (reason, refl)

-- what is loaded stands
there_of : (b : Recorded) → IsSound b → (ident : Ident) (thread : ThreadNo) → IsResident (residents_of (contents_of b)) ident (name.Thread thread) → (t : FlatThread) × (slice_get (state_of b.machine).threads thread.0 ≡ Some t)
unfolding stands shown
there_of b sound ident thread live =
    let good : stands (seen (contents_of b)) live.0.name ≡ true = (sound.tables.1.whole.good live.0 live.1).there in
    some_there (slice_get (state_of b.machine).threads thread.0) (subst (λ (n : Name). stands (seen (contents_of b)) n ≡ true) live.3 good)
  where
    some_there : (o : Option FlatThread) → is_some o ≡ true → (t : FlatThread) × (o ≡ Some t)
    some_there None is = absurd (cc)
    some_there (Some t) is = (t, refl)

ended_after : (b c : Recorded) (ident : Ident) (thread : ThreadNo) → IsSound b → IsSound c → HasEnded ident 0 b c → IsResident (residents_of (contents_of b)) ident (name.Thread thread) → IsEnded c thread
ended_after b c ident thread was sound over live =
    let still : IsResident (residents_of (contents_of c)) ident (name.Thread thread) = subst (λ (rs : List Resident). IsResident rs ident (name.Thread thread)) (sym over.loaded.residents) live in
    let t = there_of b was ident thread live in
    let u = there_of c sound ident thread still in
    let is = status_of_ended u.0 (has_ended b c ident 0 thread was sound over live t.0 u.0 t.1 u.1) in
    record { reason = is.0; status = ap (option_map (λ (x : FlatThread). x.status)) u.1 ∙ ap (λ (x : Status). Some x) is.1 }

pub confirm_ends : (a m b : Option Recorded) (o q : Known) (thread : ThreadNo) (va : ℕ) (access : Access) (caller ident : Ident) (r : Result (Unit {0}) Refused) (done : Unit {0}) → AreWalked a m o q → ident_of q (name.Thread thread) ≡ Some ident → r ≡ Ok done
    → OnTold m b (FaultCall caller ident r) → OnTold a b (λ old new. IsOwned old o → (IsEnded old thread → ⊥) → IsHelped thread (notices.Fault va access) old new q served.Ended)
confirm_ends a m b o q thread va access caller ident r done walked noted is call =
    told_twice a m b (λ x y. IsWalked x y o q) (FaultCall caller ident r) (λ old new. IsOwned old o → (IsEnded old thread → ⊥) → IsHelped thread (notices.Fault va access) old new q served.Ended)
    (λ x y z first second owned going.
    let made : FaultCall caller ident (Ok done) y z = subst (λ (v : Result (Unit {0}) Refused). FaultCall caller ident v y z) is second in
    let mid : IsOwned y q = first.owned owned in
    let over : HasEnded ident 0 y z = made.call.made in
    let named : name.Thread over.whom ≡ name.Thread thread = names_it y mid.sound q ident (name.Thread thread) (name.Thread over.whom) mid.are noted over.named in
    let live : IsResident (residents_of (contents_of y)) ident (name.Thread thread) = subst (IsResident (residents_of (contents_of y)) ident) named over.named in
    record {
      owners = (still_owned y q mid z made.call.event.grew made.call.event.sound).are;
      ended = (λ _. ended_after y z ident thread mid.sound made.call.event.sound over live, λ _. refl);
      trap = λ is. absurd (cc);
    }) walked.told call

-- ---- one walk behind another

pub helps_after : (a b c : Option Recorded) (o p q : Known) (thread : ThreadNo) (notice : Notice) (answer : Served) → AreWalked a b o p → OnTold b c (Helps thread notice p q answer) → OnTold a c (Helps thread notice o q answer)
helps_after a b c o p q thread notice answer walked helps = told_twice a b c (λ x y. IsWalked x y o p) (Helps thread notice p q answer) (Helps thread notice o q answer)
    (λ x y z first second owned going.
    let is = second (first.owned owned) (λ ended. going (ended_so x y thread first.state ended)) in
    record {
      owners = is.owners;
      ended = is.ended;
      trap = λ trap. let gone = is.trap trap in record { so = gone.so; completed = completed_since x y z o p thread owned first gone.completed };
    }) walked.told helps

pub finishes_after : (a b c : Option Recorded) (o p : Known) (thread : ThreadNo) (notice : Notice) (w : Refused) → AreWalked a b o p → OnTold b c (Finishes thread notice p w) → OnTold a c (Finishes thread notice o w)
finishes_after a b c o p thread notice w walked finishes = told_twice a b c (λ x y. IsWalked x y o p) (Finishes thread notice p w) (Finishes thread notice o w)
    (λ x y z first second owned trap call. second (first.owned owned) trap (in_call_so (state_of x.machine) (state_of y.machine) thread first.state call)) walked.told finishes

-- what was completed helps whom a walk found
pub traps_after : (a b c : Option Recorded) (o p q : Known) (thread : ThreadNo) (notice : Notice) (answer : Served) → notice ≡ notices.Trap → AreWalked a b o p → OnTold b c (λ old new. IsOwned old p → IsHelped thread notices.Trap old new q answer) → OnTold a c (Helps thread notice o q answer)
traps_after a b c o p q thread notice answer is walked helps =
    subst (λ (n : Notice). OnTold a c (Helps thread n o q answer)) (sym is)
    (helps_after a b c o p q thread notices.Trap answer walked (told_once b c (λ old new. IsOwned old p → IsHelped thread notices.Trap old new q answer) (Helps thread notices.Trap p q answer) (λ x y so owned going. so owned) helps))

-- .. and so does what was done for its fault
pub faults_after : (a b c : Option Recorded) (o p q : Known) (thread : ThreadNo) (notice : Notice) (va : ℕ) (access : Access) (answer : Served) → notice ≡ notices.Fault va access → AreWalked a b o p → OnTold b c (Helps thread (notices.Fault va access) p q answer) → OnTold a c (Helps thread notice o q answer)
faults_after a b c o p q thread notice va access answer is walked helps = subst (λ (n : Notice). OnTold a c (Helps thread n o q answer)) (sym is) (helps_after a b c o p q thread (notices.Fault va access) answer walked helps)

-- a fault is no call
pub fault_finishes : (a b : Option Recorded) (o p : Known) (thread : ThreadNo) (notice : Notice) (va : ℕ) (access : Access) (w : Refused) → notice ≡ notices.Fault va access → AreWalked a b o p → OnTold a b (Finishes thread notice o w)
fault_finishes a b o p thread notice va access w is walked = told_once a b (λ x y. IsWalked x y o p) (Finishes thread notice o w) (λ x y _ owned trap call. absurd (let clash : notices.Fault va access ≡ notices.Trap = sym is ∙ trap in cc)) walked.told

-- a thread that is found is completed

its_of : (s : FlatState) (thread : ThreadNo) (call : IsInCall s thread) → IsThreadOf s call.found.space thread
its_of s thread call = ap (option_map (λ (t : FlatThread). t.space)) call.there

pub unfound_finishes : (a b : Option Recorded) (o p : Known) (thread : ThreadNo) (notice : Notice) (trust : Trust) (r : Result SpaceNo Refused) (w : Refused) → OnTold a b (Finds o p thread trust r) → r ≡ Err w → trust ≡ Nothing → OnTold a b (Finishes thread notice o w)
unfound_finishes a b o p thread notice trust r w finds is nothing = told_once a b (Finds o p thread trust r) (Finishes thread notice o w)
    (λ x y so owned trap call.
    let found : IsFound y p call.found.space thread (Err w) = subst (IsFound y p call.found.space thread) is (so owned call.found.space (its_of (state_of x.machine) thread call) nothing) in
    found) finds

pub found_finishes : (a b c : Option Recorded) (o p q : Known) (thread : ThreadNo) (notice : Notice) (trust : Trust) (r : Result SpaceNo Refused) (space : SpaceNo) (w : Refused) → AreWalked a b o p → OnTold a b (Finds o p thread trust r) → r ≡ Ok space → trust ≡ Nothing
    → OnTold b c (FinishesAt p space thread w) → OnTold a c (Finishes thread notice o w)
found_finishes a b c o p q thread notice trust r space w walked finds is nothing finishes =
    let at = told_both a b (λ x y. IsWalked x y o p) (Finds o p thread trust r) (λ x y. IsWalked x y o p × Finds o p thread trust r x y) (λ x y one two. (one, two)) walked.told finds in
    told_twice a b c (λ x y. IsWalked x y o p × Finds o p thread trust r x y) (FinishesAt p space thread w) (Finishes thread notice o w)
    (λ x y z first second owned trap call.
    let its = its_of (state_of x.machine) thread call in
    let found : IsFound y p call.found.space thread (Ok space) = subst (IsFound y p call.found.space thread) is (first.1 owned call.found.space its nothing) in
    let of : IsThreadOf (state_of y.machine) space thread = subst (λ (s : FlatState). IsThreadOf s space thread) (sym first.0.state) (subst (λ (sp : SpaceNo). IsThreadOf (state_of x.machine) sp thread) (sym found.0) its) in
    second (first.0.owned owned) found.1 of (in_call_so (state_of x.machine) (state_of y.machine) thread first.0.state call)) at finishes

-- ---- a whole serve

-- the last try was refused, which no call that can be completed is but for want of memory
abbrev pub IsTried : ThreadNo → Notice → Known → Refused → Option Recorded → Type 0
IsTried thread notice o last b = IfSome b (λ x. IsOwned x o → notice ≡ notices.Trap → IsInCall (state_of x.machine) thread → last ≡ why.NoMemory)

abbrev pub TellsWhether : ThreadNo → Bool → Recorded → Recorded → Type 0
TellsWhether thread over old new = IsToldOf thread old new over

-- it hadn't, and owners walked
pub record HasBegun (thread : ThreadNo) (o p : Known) (old new : Recorded) : Type 0 where
  pub owned : old.sealed ≡ true → AreOwnersOf old.journal.entries o → IsOwned old o
  pub going : IsEnded old thread → ⊥
  pub walked : IsWalked old new o p

pub begun : (a m b : Option Recorded) (o p : Known) (thread : ThreadNo) (over : Bool) → over ≡ false → OnTold a m (TellsWhether thread over) → AreWalked m b o p → OnTold a b (HasBegun thread o p)
begun a m b o p thread over is asked walked = told_twice a m b (TellsWhether thread over) (λ x y. IsWalked x y o p) (HasBegun thread o p)
    (λ x y z tells second. record {
      owned = λ sealed are. record { sound = tells.sound; sealed = sealed; are = are };
      going = λ ended. absurd (let clash : false ≡ true = sym is ∙ tells.ended.1 ended in cc);
      walked = subst (λ (v : Recorded). IsWalked v z o p) tells.same second;
    }) asked walked.told

module _ (a m b : Option Recorded) (o p : Known) (thread : ThreadNo) (notice : Notice) (over : Bool) (is : over ≡ false) (asked : OnTold a m (TellsWhether thread over)) (walked : AreWalked m b o p) where
  pub served_helped : (c : Option Recorded) (q : Known) (answer : Served) → OnTold b c (Helps thread notice p q answer) → OnTold a c (Serves thread notice o q answer)
  served_helped c q answer helps = told_twice a b c (HasBegun thread o p) (Helps thread notice p q answer) (Serves thread notice o q answer)
      (λ x y z first second sealed are.
      let owned = first.owned sealed are in
      let helped = second (first.walked.owned owned) (λ ended. first.going (ended_so x y thread first.walked.state ended)) in
      record {
        owners = helped.owners;
        ended = helped.ended;
        trap = λ trap call. let gone = helped.trap trap in inr (record { so = gone.so; completed = completed_since x y z o p thread owned first.walked gone.completed });
      }) (begun a m b o p thread over is asked walked) helps

  -- memory is wanted
  pub served_wanting : OnTold a b (Serves thread notice o p (served.Again why.NoMemory))
  served_wanting = told_once a b (HasBegun thread o p) (Serves thread notice o p (served.Again why.NoMemory))
      (λ x y first sealed are. record {
        owners = (first.walked.owned (first.owned sealed are)).are;
        ended = (λ again. absurd (cc), λ ended. absurd (first.going (ended_so x y thread first.walked.state ended)));
        trap = λ _ _. inl refl;
      }) (begun a m b o p thread over is asked walked)

  -- the last try was refused, and the thread is asked for again
  module _ (c : Option Recorded) (again : Bool) (asked_again : OnTold b c (TellsWhether thread again)) where
    abbrev Asks : Recorded → Recorded → Type 0
    Asks old new = HasBegun thread o p old new × ((again ≡ true) ↔ IsEnded new thread)

    since : OnTold a c Asks
    since = told_twice a b c (HasBegun thread o p) (TellsWhether thread again) Asks
        (λ x y z first tells. (subst (λ (v : Recorded). HasBegun thread o p x v) (sym tells.same) first, subst (λ (v : Recorded). (again ≡ true) ↔ IsEnded v thread) (sym tells.same) tells.ended)) (begun a m b o p thread over is asked walked) asked_again

    pub served_again : (last : Refused) → again ≡ false → IsTried thread notice o last a → OnTold a c (Serves thread notice o p (served.Again last))
    served_again last when_open tried = told_from a c Asks (Serves thread notice o p (served.Again last))
        (λ x y is_a is_c first sealed are. record {
          owners = (first.0.walked.owned (first.0.owned sealed are)).are;
          ended = (λ again_is. absurd (cc), λ ended. absurd (first.0.going (ended_so x y thread first.0.walked.state ended)));
          trap = λ trap call. inl (ap (λ (w : Refused). served.Again w) (subst (IsTried thread notice o last) is_a tried (first.0.owned sealed are) trap call));
        }) since

  -- a try that was refused
  pub tried_then : (c : Option Recorded) (w : Refused) → OnTold b c (Finishes thread notice p w) → IsTried thread notice o w a
  tried_then c w finishes = by a c (told_twice a b c (HasBegun thread o p) (Finishes thread notice p w) (Finishes thread notice o w)
      (λ x y z first second owned trap call. second (first.walked.owned owned) trap (in_call_so (state_of x.machine) (state_of y.machine) thread first.walked.state call)) (begun a m b o p thread over is asked walked) finishes)
    where
      by : (a c : Option Recorded) → OnTold a c (Finishes thread notice o w) → IsTried thread notice o w a
      by None c so = tt
      by (Some x) None so = absurd so
      by (Some x) (Some y) so = so
