-- What a load leaves of a board and its owners, and one walk behind another.
use Rattle.std.proofs.Common.{◌≡◌, List, Option, Some, None, refl, sym, ap, ◌∙◌, subst, inl, inr}
use Rattle.std.specs.Prelude.{Result, Ok, Err, IfErr, IfOk, IfSome, OnErr, OnOk}
use Rattle.std.proofs.lemmas.Option.{same_Some}
use Rattle.cache_ident.specs.declared.idents.Ident.{Ident}
use Rattle.cache_ident.specs.declared.names.KernelNo.{KernelNo}
use Rattle.cache_ident.specs.declared.names.Name.{Name}
use Rattle.cache_ident.specs.declared.names.Name.TheVariants as name
use Rattle.cache_ident.specs.declared.names.SpaceNo.{SpaceNo}
use Rattle.cache_ident.specs.declared.names.ThreadNo.{ThreadNo}
use Rattle.cache_ident.specs.declared.names.Vpn.{Vpn}
use Rattle.cache_ident.specs.Residents.{IsResident}
use Rattle.owners.specs.flat_state.specs.State.{FlatState}
use Rattle.owners.specs.run_journal.specs.declared.entries.Entry.{Entry}
use Rattle.page_laws.specs.board_ops.specs.declared.refusals.Refused.{Refused}
use Rattle.page_laws.specs.board_ops.specs.declared.refusals.Refused.TheVariants as why
use Rattle.page_laws.specs.cached_machine.specs.Cached.{state_of}
use Rattle.page_laws.specs.desc_stores.specs.Contents.{residents_of}
use Rattle.page_laws.specs.board_core.specs.Answers.{IsRefused}
use Rattle.page_laws.specs.board_core.specs.Core.{contents_of, IsSound, Recorded}
use Rattle.page_laws.specs.board_core.specs.Growth.{IsRoomMade}
use Rattle.page_laws.specs.board_core.proofs.RoomLaws.{same_entries}
use Rattle.page_laws.specs.board_checks.specs.Identifiers.{space_as}
use Rattle.page_laws.specs.board_checks.specs.Refusals.{refusal_of_load_kernel, refusal_of_load_mapping, refusal_of_load_space, refusal_of_load_thread}
use Rattle.page_laws.specs.board_loads.specs.Loads.{IsLoadedAs}
use Rattle.owners.specs.Known.{ident_of, IsNoted, IsReceiverLearnt, Known}
use Rattle.owners.specs.Owning.{IsThreadOf, WasLoadedAs}
use Rattle.owners.proofs.Learning.{noted_so}
use Rattle.page_laws.specs.owner_laws.specs.Passing.{thread_named}
use Rattle.page_laws.specs.owner_laws.proofs.Naming.{was_given, was_loaded}
use Rattle.page_laws.specs.owner_laws.proofs.Receivers.{is_receiver}
use Rattle.page_laws.specs.owner_laws.proofs.Spaces.{stands_for}
use Rattle.page_laws.specs.owner_laws.proofs.Tests.{both_pass}
use Rattle.owner_ports.specs.Boards.{IsCall, IsRoomyCall, OnTold}
use Rattle.page_laws.specs.reach_laws.specs.Reaching.{loaded_as, IsOwned}
use Rattle.page_laws.specs.reach_laws.proofs.Keeping.{steps_stay}
use Rattle.page_laws.specs.reach_laws.proofs.Owning.{owned_receiver, still_owned}
use Rattle.page_laws.specs.reach_laws.proofs.Showing.{shows}
use Rattle.page_laws.specs.reach_laws.proofs.Telling.{told_loaded}
use Rattle.app_kernel.specs.Walks.{AreWalked, IsLearntSo, IsNotedSo, IsReceiverTold, IsWalked}
use Rattle.app_kernel.proofs.Changes.{told_both, told_once, told_twice}
use Rattle.app_kernel.proofs.ToldLoaded.{kernel_told, space_told, thread_told}

-- ---- what is said of an answer that is known

pub ok_at : {T E P : Type 0} (r : Result T E) (t : T) → r ≡ Ok t → OnOk r P → P
ok_at {T} {E} {P} r t is so = subst (λ (x : Result T E). OnOk x P) is so

pub err_at : {T E P : Type 0} (r : Result T E) (e : E) → r ≡ Err e → OnErr r P → P
err_at {T} {E} {P} r e is so = subst (λ (x : Result T E). OnErr x P) is so

-- ---- nothing, and one after another

pub further : (a b c : Recorded) (o p q : Known) → IsWalked a b o p → IsWalked b c p q → IsWalked a c o q
further a b c o p q first second = record {
  owned = λ was. second.owned (first.owned was);
  state = second.state ∙ first.state;
  steps = λ was. second.steps (first.owned was) ∙ first.steps was;
  limit = second.limit ∙ first.limit;
}

pub walked_on : (a b c : Option Recorded) (o p q : Known) → AreWalked a b o p → AreWalked b c p q → AreWalked a c o q
walked_on a b c o p q first second = record { told = told_twice a b c (λ x y. IsWalked x y o p) (λ x y. IsWalked x y p q) (λ x y. IsWalked x y o q) (λ x y z. further x y z o p q) first.told second.told }

-- ---- what shows the same

-- a board shows what it showed, and no step was taken
pub record IsQuiet (old new : Recorded) : Type 0 where
  pub state : state_of new.machine ≡ state_of old.machine
  pub steps : IsSound old → IsSound new → new.steps ≡ old.steps
  pub limit : new.limit ≡ old.limit

quiet_room : (old new : Recorded) → IsRoomMade old new → IsQuiet old new
quiet_room old new room = record {
  state = room.only.state;
  steps = λ was is. ap (λ (b : Recorded). b.steps) room.rest;
  limit = ap (λ (b : Recorded). b.limit) room.rest;
}

quiet_load : (n : Name) (ident : Ident) (old new : Recorded) → IsLoadedAs 0 n ident old new → IsQuiet old new
quiet_load n ident old new is = record {
  state = is.state;
  steps = λ was after. steps_stay 0 n ident old new was is after;
  limit = is.entries.limit;
}

-- whatever was refused shows the same
module _ {T : Type 0} (refusal : Option Refused) (does : T → Type 0) (old new : Recorded) where
  quiet_call : (answer : Result T Refused) → ((t : T) → does t → IsQuiet old new) → IfErr answer (IsRefused refusal old new) → IfOk answer does → IsQuiet old new
  quiet_call (Ok t) quiet refused made = quiet t made
  quiet_call (Err w) quiet refused made = quiet_room old new refused.only

  pub by_call : (answer : Result T Refused) (o : Known) → ((t : T) → does t → IsQuiet old new) → IsCall refusal does old new answer → IsWalked old new o o
  by_call answer o quiet call =
      let same = quiet_call answer quiet call.refused call.made in
      record {
        owned = λ was. still_owned old o was new call.event.grew call.event.sound;
        state = same.state;
        steps = λ was. same.steps was.sound call.event.sound;
        limit = same.limit;
      }

module _ {T : Type 0} (refusal : Option Refused) (does : T → Type 0) (old new : Recorded) where
  pub by_refused : (w : Refused) (o : Known) → IsCall refusal does old new (Err w) → IsWalked old new o o
  by_refused w o call =
      let same = quiet_room old new call.refused.only in
      record {
        owned = λ was. still_owned old o was new call.event.grew call.event.sound;
        state = same.state;
        steps = λ was. same.steps was.sound call.event.sound;
        limit = same.limit;
      }

-- ---- loads

pub told_as : (w : Refused) (ident : Ident) → loaded_as (Err w) ≡ Ok ident → w ≡ why.AlreadyLoaded ident
told_as (why.AlreadyLoaded given) ident is = cc
told_as w ident is = absurd (cc)

-- a call that loads the n, for these owners, or was told that it is loaded
record IsLoadOf (n : Name) (refusal : Option Refused) (does : Ident → Type 0) (old new : Recorded) (o : Known) : Type 0 where
  quiet : (ident : Ident) → does ident → IsQuiet old new
  given : IsOwned old o → (ident : Ident) → refusal ≡ None → does ident → IsLoadedAs 0 n ident old new
  told : IsOwned old o → (ident : Ident) → refusal ≡ Some (why.AlreadyLoaded ident) → IsResident (residents_of (contents_of old)) ident n

module _ (n : Name) (refusal : Option Refused) (does : Ident → Type 0) (old new : Recorded) (o : Known) (of : IsLoadOf n refusal does old new o) where
  -- what was told as loaded, or given, was loaded
  was_so : IsOwned old o → (answer : Result Ident Refused) (ident : Ident) → loaded_as answer ≡ Ok ident → IsCall refusal does old new answer → WasLoadedAs new.journal.entries n ident
  was_so was (Ok given) ident told_so call = subst (λ (r : Result Ident Refused). IfOk r (WasLoadedAs new.journal.entries n)) told_so (was_given 0 n given old new (of.given was given call.done call.made))
  was_so was (Err w) ident told_so call =
      let is = told_as w ident told_so in
      let there : WasLoadedAs old.journal.entries n ident = elim call.refused.why [
        | inl wants ↦ absurd (cc (wants, is))
        | inr tells ↦ was_loaded old was.sound ident n (of.told was ident (tells ∙ ap (λ (x : Refused). Some x) is))
      ] in
      subst (λ (es : List Entry). WasLoadedAs es n ident) (sym (same_entries old new call.refused.only)) there

  -- and may be noted
  by_noting : (answer : Result Ident Refused) (ident : Ident) (p : Known) → IsCall refusal does old new answer → loaded_as answer ≡ Ok ident → IsNoted n ident o p → IsWalked old new o p
  by_noting answer ident p call told_so noted =
      let walked = by_call refusal does old new answer o of.quiet call in
      record {
        owned = λ was.
            let is = walked.owned was in
            record { sound = is.sound; sealed = is.sealed; are = noted_so new.journal.entries o p n ident is.are (was_so was answer ident told_so call) noted };
        state = walked.state;
        steps = walked.steps;
        limit = walked.limit;
      }

  -- what owners took of the answer
  by_taking : (answer : Result Ident Refused) (p : Known) (result : Result Ident Refused) → IsCall refusal does old new answer
      → IfOk result (λ ident. IsNoted n ident o p) → IfOk result (λ ident. loaded_as answer ≡ Ok ident) → OnErr result (p ≡ o) → IsWalked old new o p
  by_taking answer p (Ok ident) call noted taken same = by_noting answer ident p call taken noted
  by_taking answer p (Err w) call noted taken same = subst (IsWalked old new o) (sym same) (by_call refusal does old new answer o of.quiet call)

abbrev Asked : (Recorded → Option Refused) → (Recorded → Recorded → Ident → Type 0) → Result Ident Refused → Recorded → Recorded → Type 0
Asked refusal does answer old new = IsRoomyCall (refusal old) (does old new) old new answer

-- the same over a port
module _ (n : Name) (refusal : Recorded → Option Refused) (does : Recorded → Recorded → Ident → Type 0) (o : Known) (of : (old new : Recorded) → IsLoadOf n (refusal old) (does old new) old new o) where
  takes : (a b : Option Recorded) (answer : Result Ident Refused) (p : Known) (result : Result Ident Refused) → OnTold a b (Asked refusal does answer)
      → IfOk result (λ ident. IsNoted n ident o p) → IfOk result (λ ident. loaded_as answer ≡ Ok ident) → OnErr result (p ≡ o) → AreWalked a b o p
  takes a b answer p result asked noted taken same = record {
    told = told_once a b (Asked refusal does answer) (λ old new. IsWalked old new o p)
        (λ old new call. by_taking n (refusal old) (does old new) old new o (of old new) answer p result call.call noted taken same) asked;
  }

  asks : (a b : Option Recorded) (answer : Result Ident Refused) → OnTold a b (Asked refusal does answer) → AreWalked a b o o
  asks a b answer asked = record {
    told = told_once a b (Asked refusal does answer) (λ old new. IsWalked old new o o)
        (λ old new call. by_call (refusal old) (does old new) old new answer o (of old new).quiet call.call) asked;
  }

module _ (n : Name) (refusal : Recorded → Option Refused) (o : Known) (told : (b : Recorded) (ident : Ident) → refusal b ≡ Some (why.AlreadyLoaded ident) → IsResident (residents_of (contents_of b)) ident n) where
  plainly : (old new : Recorded) → IsLoadOf n (refusal old) (λ ident. IsLoadedAs 0 n ident old new) old new o
  plainly old new = record {
    quiet = λ ident load. quiet_load n ident old new load;
    given = λ was ident done load. load;
    told = λ was ident is. told old ident is;
  }

module _ (a b : Option Recorded) (answer : Result Ident Refused) (o p : Known) (result : Result Ident Refused) where
  pub kernel_taken : (caller : Ident) (kernel : KernelNo) → OnTold a b (λ old new. IsRoomyCall (refusal_of_load_kernel (contents_of old) caller kernel) (λ ident. IsLoadedAs 0 (name.Kernel kernel) ident old new) old new answer)
      → IfOk result (λ ident. IsNoted (name.Kernel kernel) ident o p) → IfOk result (λ ident. loaded_as answer ≡ Ok ident) → OnErr result (p ≡ o) → AreWalked a b o p
  kernel_taken caller kernel =
      takes (name.Kernel kernel) (λ old. refusal_of_load_kernel (contents_of old) caller kernel) (λ old new ident. IsLoadedAs 0 (name.Kernel kernel) ident old new) o
      (plainly (name.Kernel kernel) (λ old. refusal_of_load_kernel (contents_of old) caller kernel) o (λ c ident is. kernel_told (contents_of c) ident caller kernel is)) a b answer p result

  pub space_taken : (caller : Ident) (space : SpaceNo) → OnTold a b (λ old new. IsRoomyCall (refusal_of_load_space (contents_of old) caller space) (λ ident. IsLoadedAs 0 (name.Space space) ident old new) old new answer)
      → IfOk result (λ ident. IsNoted (name.Space space) ident o p) → IfOk result (λ ident. loaded_as answer ≡ Ok ident) → OnErr result (p ≡ o) → AreWalked a b o p
  space_taken caller space =
      takes (name.Space space) (λ old. refusal_of_load_space (contents_of old) caller space) (λ old new ident. IsLoadedAs 0 (name.Space space) ident old new) o
      (plainly (name.Space space) (λ old. refusal_of_load_space (contents_of old) caller space) o (λ c ident is. space_told (contents_of c) ident caller space is)) a b answer p result

  pub thread_taken : (caller parent : Ident) (thread : ThreadNo) → OnTold a b (λ old new. IsRoomyCall (refusal_of_load_thread (contents_of old) caller parent thread) (λ ident. IsLoadedAs 0 (name.Thread thread) ident old new) old new answer)
      → IfOk result (λ ident. IsNoted (name.Thread thread) ident o p) → IfOk result (λ ident. loaded_as answer ≡ Ok ident) → OnErr result (p ≡ o) → AreWalked a b o p
  thread_taken caller parent thread =
      takes (name.Thread thread) (λ old. refusal_of_load_thread (contents_of old) caller parent thread) (λ old new ident. IsLoadedAs 0 (name.Thread thread) ident old new) o
      (plainly (name.Thread thread) (λ old. refusal_of_load_thread (contents_of old) caller parent thread) o (λ c ident is. thread_told (contents_of c) ident caller parent thread is)) a b answer p result

-- ---- rows

abbrev pub RowDone : Ident → Vpn → Recorded → Recorded → Ident → Type 0
RowDone parent vpn old new ident = (space : SpaceNo) × (space_as (contents_of old) parent ≡ Some space) × IsLoadedAs 0 (name.Mapping space vpn) ident old new

abbrev pub RowCall : Ident → Ident → Vpn → Option Ident → Result Ident Refused → Recorded → Recorded → Type 0
RowCall caller parent vpn receiver answer old new = IsRoomyCall (refusal_of_load_mapping (contents_of old) caller parent vpn receiver) (RowDone parent vpn old new) old new answer

module _ (o : Known) (caller parent : Ident) (space : SpaceNo) (vpn : Vpn) (receiver : Option Ident) (noted : ident_of o (name.Space space) ≡ Some parent) where
  stands : (b : Recorded) → IsOwned b o → refusal_of_load_mapping (contents_of b) caller parent vpn receiver ≡ None → space_as (contents_of b) parent ≡ Some space
  stands b was done = stands_for b o parent space was.sound was.are noted (both_pass _ _ (both_pass _ _ done).1).0

  row_of_owners : (old new : Recorded) → IsLoadOf (name.Mapping space vpn) (refusal_of_load_mapping (contents_of old) caller parent vpn receiver) (RowDone parent vpn old new) old new o
  row_of_owners old new = record {
    quiet = λ ident load. quiet_load (name.Mapping load.0 vpn) ident old new load.2;
    given = λ was ident done load.
        let same : load.0 ≡ space = same_Some load.0 space (sym load.1 ∙ stands old was done) in
        subst (λ (s : SpaceNo). IsLoadedAs 0 (name.Mapping s vpn) ident old new) same load.2;
    told = λ was ident is. told_loaded old o was caller parent space noted vpn receiver ident is;
  }

  module _ (a b : Option Recorded) (answer : Result Ident Refused) (call : OnTold a b (RowCall caller parent vpn receiver answer)) where
    -- nothing was noted of it
    pub row_asked : AreWalked a b o o
    row_asked = asks (name.Mapping space vpn) (λ old. refusal_of_load_mapping (contents_of old) caller parent vpn receiver) (RowDone parent vpn) o row_of_owners a b answer call

    -- its identifier was
    pub row_noted : (ident : Ident) (p : Known) → loaded_as answer ≡ Ok ident → IsNoted (name.Mapping space vpn) ident o p → AreWalked a b o p
    row_noted ident p told_so is = record {
      told = told_once a b (RowCall caller parent vpn receiver answer) (λ old new. IsWalked old new o p)
          (λ old new made. by_noting (name.Mapping space vpn) (refusal_of_load_mapping (contents_of old) caller parent vpn receiver) (RowDone parent vpn old new) old new o (row_of_owners old new) answer ident p made.call told_so is) call;
    }

    -- its identifier was, if there is one
    pub row_noted_so : (p : Known) → IsNotedSo (name.Mapping space vpn) (loaded_as answer) o p → AreWalked a b o p
    row_noted_so p noted_so_far = by (loaded_as answer) refl noted_so_far
      where
        by : (r : Result Ident Refused) → loaded_as answer ≡ r → IsNotedSo (name.Mapping space vpn) r o p → AreWalked a b o p
        by (Ok ident) told_so is = row_noted ident p told_so is
        by (Err w) told_so is = subst (AreWalked a b o) (sym is) row_asked

    -- the receiver that is told is one of the space
    pub receiver_told : OnTold a b (λ old new. IsOwned old o → IsReceiverTold new space answer)
    receiver_told = told_once a b (RowCall caller parent vpn receiver answer) (λ old new. IsOwned old o → IsReceiverTold new space answer) (λ old new made was. tells_so old new answer made.call was) call
      where
        tells_so : (old new : Recorded) (r : Result Ident Refused) → IsCall (refusal_of_load_mapping (contents_of old) caller parent vpn receiver) (RowDone parent vpn old new) old new r → IsOwned old o → IsReceiverTold new space r
        tells_so old new (Ok ident) made was = tt
        tells_so old new (Err (why.WrongParent given declared)) made was = elim made.refused.why [
          | inl wants ↦ absurd (cc)
          | inr tells ↦ subst (λ (s : FlatState). IfSome (thread_named declared) (IsThreadOf s space)) (shows old was.sound ∙ sym made.refused.only.only.state)
              (is_receiver old o caller parent space vpn receiver given declared was.sound was.are noted tells)
        ]
        tells_so old new (Err w) made was = tt

pub receiver_told_since : (a m b : Option Recorded) (o p : Known) (space : SpaceNo) (answer : Result Ident Refused) → AreWalked a m o p → OnTold m b (λ old new. IsOwned old p → IsReceiverTold new space answer) → OnTold a b (λ old new. IsOwned old o → IsReceiverTold new space answer)
receiver_told_since a m b o p space answer walked tells = told_twice a m b (λ x y. IsWalked x y o p) (λ old new. IsOwned old p → IsReceiverTold new space answer) (λ old new. IsOwned old o → IsReceiverTold new space answer)
    (λ x y z first second was. second (first.owned was)) walked.told tells

-- a receiver that was told may be learnt
pub receiver_learnt : (a b : Option Recorded) (o p q : Known) (space : SpaceNo) (vpn : Vpn) (given declared : Option Name) (answer : Result Ident Refused) → answer ≡ Err (why.WrongParent given declared) → AreWalked a b o p → OnTold a b (λ old new. IsOwned old o → IsReceiverTold new space answer)
    → IsReceiverLearnt (space, vpn) (thread_named declared) p q → AreWalked a b o q
receiver_learnt a b o p q space vpn given declared answer is walked tells learnt = record {
  told = told_both a b (λ x y. IsWalked x y o p) (λ old new. IsOwned old o → IsReceiverTold new space answer) (λ x y. IsWalked x y o q)
      (λ x y first told_so. record {
        owned = λ was. owned_receiver y p (first.owned was) q space vpn (thread_named declared) (subst (IsReceiverTold y space) is (told_so was)) learnt;
        state = first.state;
        steps = first.steps;
        limit = first.limit;
      }) walked.told tells;
}

pub told_learnt : (a b : Option Recorded) (o p q : Known) (space : SpaceNo) (vpn : Vpn) (answer : Result Ident Refused) → AreWalked a b o p → OnTold a b (λ old new. IsOwned old o → IsReceiverTold new space answer) → IsLearntSo (space, vpn) answer p q → AreWalked a b o q
told_learnt a b o p q space vpn (Ok ident) walked tells learnt = subst (AreWalked a b o) (sym learnt) walked
told_learnt a b o p q space vpn (Err (why.WrongParent given declared)) walked tells learnt = receiver_learnt a b o p q space vpn given declared (Err (why.WrongParent given declared)) refl walked tells learnt
told_learnt a b o p q space vpn (Err w) walked tells learnt = subst (AreWalked a b o) (sym learnt) walked
