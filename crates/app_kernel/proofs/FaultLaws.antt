-- What comes of faults: a row is loaded, or the fault is confirmed.
use Rattle.std.proofs.Common.{◌≡◌, ℕ, ◌+◌, List, [], ◌∷◌, ◌++◌, Option, Some, None, true, false, slice_get, refl, sym, ap, ◌∙◌, subst, inl, inr}
use Rattle.std.specs.Prelude.{Result, Ok, Err, IsSome}
use Rattle.std.specs.Option.{option_map}
use Rattle.std.proofs.lemmas.Option.{same_Some}
use Rattle.cache_ident.specs.declared.idents.Ident.{Ident}
use Rattle.cache_ident.specs.declared.names.Frame.{Frame}
use Rattle.cache_ident.specs.declared.names.KernelNo.{KernelNo}
use Rattle.cache_ident.specs.declared.names.Name.{Name}
use Rattle.cache_ident.specs.declared.names.Name.TheVariants as name
use Rattle.cache_ident.specs.declared.names.SpaceNo.{SpaceNo}
use Rattle.cache_ident.specs.declared.names.ThreadNo.{ThreadNo}
use Rattle.cache_ident.specs.declared.names.Vpn.{Vpn}
use Rattle.phys_groups.specs.declared.rows.Row.{Row}
use Rattle.phys_groups.specs.Rows.{row_name}
use Rattle.owners.specs.flat_state.specs.declared.events.Event.TheVariants.{Step}
use Rattle.owners.specs.flat_state.specs.declared.records.FlatThread.{FlatThread}
use Rattle.owners.specs.flat_state.specs.Events.{applied}
use Rattle.owners.specs.flat_state.specs.NextSteps.{fetch_row}
use Rattle.owners.specs.flat_state.specs.State.{FlatState}
use Rattle.owners.specs.run_journal.specs.declared.entries.Entry.TheVariants as entry
use Rattle.owners.specs.run_journal.specs.Legal.{IsRowResident}
use Rattle.page_laws.specs.board_ops.specs.declared.refusals.Refused.{Refused}
use Rattle.page_laws.specs.board_ops.specs.declared.refusals.Refused.TheVariants as why
use Rattle.page_laws.specs.desc_stores.specs.Contents.{residents_of}
use Rattle.page_laws.specs.cached_machine.specs.Cached.{state_of}
use Rattle.page_laws.specs.board_core.specs.Core.{contents_of, Recorded}
use Rattle.page_laws.specs.board_threads.specs.Faults.{HasEnded}
use Rattle.page_laws.specs.board_threads.specs.Refusals.{refusal_of_fault}
use Rattle.owner_ports.specs.Boards.{OnTold}
use Rattle.owners.specs.Known.{ident_of, space_of, Known}
use Rattle.owners.specs.Owning.{IsThreadOf}
use Rattle.page_laws.proofs.Filled.{fetched_space}
use Rattle.page_laws.specs.owner_laws.proofs.Naming.{names_it}
use Rattle.page_laws.specs.reach_laws.specs.Filling.{IsElse, IsFillable, IsNothingToLoad, IsUnfillable}
use Rattle.page_laws.specs.reach_laws.specs.Reaching.{kernel_ident, IsOwned, IsReached}
use Rattle.page_laws.specs.reach_laws.proofs.Calling.{confirms}
use Rattle.page_laws.specs.reach_laws.proofs.Owning.{space_known, spaces_known}
use Rattle.page_laws.specs.reach_laws.proofs.Telling.{told_mapped}
use Rattle.app_kernel.specs.declared.serving.Served.{Served}
use Rattle.app_kernel.specs.declared.serving.Served.TheVariants as served
use Rattle.app_kernel.specs.declared.walk.Trust.{Trust}
use Rattle.app_kernel.specs.declared.walk.Trust.TheVariants.{Nothing}
use Rattle.app_kernel.specs.Pages.{AreGentle, Confirms, Fills, IsConfirmedOr, IsConfirmedUnless, IsFaulted, IsFaultTaken, IsFilledOr, IsFilledUnless, IsGentle, IsWanting, RowFills, RowIsVain, TryConfirms, TryFills, WalkConfirms, WalkFills}
use Rattle.app_kernel.specs.Walks.{AreWalked, Finds, IsFound, IsHad, IsThreadGot, IsThreadReached, IsWalked, ThreadReaches}
use Rattle.app_kernel.proofs.AskLaws.{Asked}
use Rattle.app_kernel.proofs.Changes.{told_both, told_from, told_once, told_twice}
use Rattle.app_kernel.proofs.GentleLaws.{faulted_gentle, fillable_gentle, gentle_further, gentle_on, gentle_refused, unfillable_gentle}
use Rattle.app_kernel.proofs.ServeLaws.{FaultCall}

-- ---- threads whose next step faults

-- such a thread is of the space
of_faulted : (b : Recorded) (space : SpaceNo) (thread : ThreadNo) → IsFaulted b space thread → IsThreadOf (state_of b.machine) space thread
of_faulted b space thread is = ap (option_map (λ (t : FlatThread). t.space)) is.there ∙ ap (λ (x : SpaceNo). Some x) is.its

-- the row that its fetch goes through is loaded
fetch_loaded : (b : Recorded) (space : SpaceNo) (thread : ThreadNo) (is : IsFaulted b space thread) → IsRowResident (residents_of (contents_of b)) (option_map row_name (fetch_row (state_of b.machine) is.found))
fetch_loaded b space thread is = by (fetch_row (state_of b.machine) is.found) refl
  where
    by : (x : Option Row) → fetch_row (state_of b.machine) is.found ≡ x → IsRowResident (residents_of (contents_of b)) (option_map row_name x)
    by None through = tt
    by (Some row) through =
        let loaded = is.fetch row through in
        let home : row.space ≡ space = fetched_space (state_of b.machine) is.found row through ∙ is.its in
        let named : name.Mapping space row.vpn ≡ row_name row = ap (λ (x : SpaceNo). name.Mapping x row.vpn) (sym home) in
        (loaded.0, loaded.1, loaded.2 ∙ named)

-- its step was taken
taken_so : (b c : Recorded) (o : Known) (thread : ThreadNo) (ident : Ident) → IsOwned b o → ident_of o (name.Thread thread) ≡ Some ident → HasEnded ident 0 b c → IsFaultTaken thread b c
taken_so b c o thread ident owned noted over =
    let named : name.Thread over.whom ≡ name.Thread thread = names_it b owned.sound o ident (name.Thread thread) (name.Thread over.whom) owned.are noted over.named in
    let same : over.whom ≡ thread = cc in
    record {
      state = over.entries.state ∙ ap (λ (n : ThreadNo). applied (state_of b.machine) (Step n)) same;
      before = b.journal.entries;
      entries = over.entries.entries ∙ ap (λ (n : ThreadNo). b.journal.entries ++ entry.Ended n 0 ∷ []) same;
      steps = over.steps;
      limit = over.entries.limit;
    }

taken_since : (a b c : Recorded) (o p : Known) (thread : ThreadNo) → IsOwned a o → IsWalked a b o p → IsFaultTaken thread b c → IsFaultTaken thread a c
taken_since a b c o p thread owned walked is = record {
  state = is.state ∙ ap (λ (s : FlatState). applied s (Step thread)) walked.state;
  before = is.before;
  entries = is.entries;
  steps = is.steps ∙ ap (λ (n : ℕ). n + 1) (walked.steps owned);
  limit = is.limit ∙ walked.limit;
}

-- a fault that was confirmed behind a gentle walk
confirmed_since : (a b c : Recorded) (o p q : Known) (space : SpaceNo) (thread : ThreadNo) (r : Result Served Refused) → IsOwned a o → IsGentle space a b o p → IsConfirmedOr space thread p q b c r → IsConfirmedOr space thread o q a c r
confirmed_since a b c o p q space thread (Ok answer) owned gentle is = record { ended = is.ended; taken = taken_since a b c o p thread owned gentle.walked is.taken }
confirmed_since a b c o p q space thread (Err w) owned gentle is = gentle_further space a b c o p q gentle is

-- ---- a fault is confirmed

pub unconfirmed_thread : (a m : Option Recorded) (o p : Known) (space : SpaceNo) (thread : ThreadNo) (trust : Trust) (here : Result Ident Refused) (w : Refused) (result : Result Served Refused) → AreGentle space a m o p → OnTold a m (ThreadReaches o p space thread trust here) → here ≡ Err w → result ≡ Err w
    → OnTold a m (Confirms space thread trust o p result)
unconfirmed_thread a m o p space thread trust here w result gentle reaches is so =
    subst (λ (r : Result Served Refused). OnTold a m (Confirms space thread trust o p r)) (sym so)
    (told_both a m (λ x y. IsGentle space x y o p) (ThreadReaches o p space thread trust here) (Confirms space thread trust o p (Err w))
    (λ x y one two owned faulted. record {
      any = one;
      reached = λ nothing reached.
          let got : IsThreadGot y p space space thread (Err w) = subst (IsThreadGot y p space space thread) is (two owned reached space (of_faulted x space thread faulted) nothing) in
          got.mine refl;
    }) gentle.told reaches)

module _ (a m n : Option Recorded) (o p q : Known) (space : SpaceNo) (thread : ThreadNo) (trust : Trust) (ident : Ident) (here up : Result Ident Refused)
    (to_thread : AreGentle space a m o p) (reaches : OnTold a m (ThreadReaches o p space thread trust here)) (here_is : here ≡ Ok ident)
    (to_kernel : AreGentle space m n p q) (had_so : (its : KernelNo) (known : Ident) → slice_get p.spaces space.0 ≡ Some its → kernel_ident p its ≡ Some known → IsHad m n p q known up) where
  -- the thread was asked for
  record IsAsked (x y : Recorded) : Type 0 where
    gentle : IsGentle space x y o p
    reaches_so : ThreadReaches o p space thread trust here x y
    is_m : m ≡ Some y

  asked : OnTold a m IsAsked
  asked =
      told_from a m (λ x y. IsGentle space x y o p × ThreadReaches o p space thread trust here x y) IsAsked (λ x y is_a is_m both. record { gentle = both.0; reaches_so = both.1; is_m = is_m })
      (told_both a m (λ x y. IsGentle space x y o p) (ThreadReaches o p space thread trust here) (λ x y. IsGentle space x y o p × ThreadReaches o p space thread trust here x y) (λ x y one two. (one, two)) to_thread.told reaches)

  thread_got : (x y : Recorded) → IsAsked x y → IsOwned x o → IsFaulted x space thread → trust ≡ Nothing → IsReached x o space → IsThreadReached y p space thread
  thread_got x y is owned faulted nothing reached =
      let got : IsThreadGot y p space space thread (Ok ident) = subst (IsThreadGot y p space space thread) here_is (is.reaches_so owned reached space (of_faulted x space thread faulted) nothing) in
      got.1

  -- so its kernel is at hand
  kernel_got : (y : Recorded) → IsOwned y p → (is : IsThreadReached y p space thread) → IsHad m n p q is.reached.caller up
  kernel_got y owned is = had_so is.reached.kernel is.reached.caller (ap (λ (ks : List KernelNo). slice_get ks space.0) (spaces_known y p owned) ∙ is.reached.its) is.reached.caller_known

  pub unconfirmed_kernel : (w : Refused) (result : Result Served Refused) → up ≡ Err w → result ≡ Err w → OnTold a n (Confirms space thread trust o q result)
  unconfirmed_kernel w result is so =
      subst (λ (r : Result Served Refused). OnTold a n (Confirms space thread trust o q r)) (sym so)
      (told_twice a m n IsAsked (λ y z. IsGentle space y z p q) (Confirms space thread trust o q (Err w))
      (λ x y z one two owned faulted. record {
        any = gentle_further space x y z o p q one.gentle two;
        reached = λ nothing reached. absurd (
            let got = thread_got x y one owned faulted nothing reached in
            let hand = kernel_got y (one.gentle.walked.owned owned) got in
            let clash : Err w ≡ Ok got.reached.caller = sym is ∙ hand.its in
            cc);
      }) asked to_kernel.told)

  module _ (b : Option Recorded) (caller : Ident) (r : Result (Unit {0}) Refused) (up_is : up ≡ Ok caller) (noted : ident_of q (name.Thread thread) ≡ Some ident) (call : OnTold n b (FaultCall caller ident r)) where
    pub confirmed_now : (done : Unit {0}) → r ≡ Ok done → OnTold a b (Confirms space thread trust o q (Ok served.Ended))
    confirmed_now done is =
        told_twice a n b (λ x z. IsGentle space x z o q) (FaultCall caller ident r) (Confirms space thread trust o q (Ok served.Ended))
        (λ x z u gentle made_so owned faulted.
        let made : FaultCall caller ident (Ok done) z u = subst (λ (v : Result (Unit {0}) Refused). FaultCall caller ident v z u) is made_so in
        record {
          any = record { ended = refl; taken = taken_since x z u o q thread owned gentle.walked (taken_so z u q thread ident (gentle.walked.owned owned) noted made.call.made) };
          reached = λ _ _. tt;
        }) (gentle_on space a m n o p q to_thread to_kernel).told call

    -- its next step isn't said to go through rows
    pub confirmed_never : (other : SpaceNo) (page : Vpn) → r ≡ Err (why.Mapped other page) → OnTold a b (Confirms space thread trust o q (Ok served.Resumed))
    confirmed_never other page is =
        told_twice a n b (λ x z. IsGentle space x z o q) (FaultCall caller ident r) (Confirms space thread trust o q (Ok served.Resumed))
        (λ x z u gentle made_so owned faulted.
        let made : FaultCall caller ident (Err (why.Mapped other page)) z u = subst (λ (v : Result (Unit {0}) Refused). FaultCall caller ident v z u) is made_so in
        let now = faulted_gentle x z o q space thread gentle owned faulted in
        elim made.call.refused.why [
          | inl wants ↦ absurd (cc)
          | inr tells ↦ absurd (let clash : true ≡ false = sym now.faulty ∙ told_mapped z q (gentle.walked.owned owned) caller ident thread noted now.found now.there other page tells in cc)
        ]) (gentle_on space a m n o p q to_thread to_kernel).told call

    -- the kernel was asked for, and the call made
    record IsCalled (w : Refused) (y u : Recorded) : Type 0 where
      mid : Recorded
      gentle : IsGentle space y mid p q
      is_n : n ≡ Some mid
      made : FaultCall caller ident (Err w) mid u

    pub unconfirmed_call : (w : Refused) → r ≡ Err w → OnTold a b (Confirms space thread trust o q (Err w))
    unconfirmed_call w is =
        told_twice a m b IsAsked (IsCalled w) (Confirms space thread trust o q (Err w))
        (λ x y u one two owned faulted. record {
          any = gentle_further space x two.mid u o q q (gentle_further space x y two.mid o p q one.gentle two.gentle) (gentle_refused space (refusal_of_fault two.mid caller ident) (λ _. HasEnded ident 0 two.mid u) two.mid u w q two.made.call);
          reached = λ nothing reached.
              let mine = one.gentle.walked.owned owned in
              let got = thread_got x y one owned faulted nothing reached in
              let hand = kernel_got y mine got in
              let same : two.mid ≡ y = same_Some two.mid y (sym two.is_n ∙ hand.board ∙ one.is_m) in
              let by : caller ≡ got.reached.caller = let e : Ok caller ≡ Ok got.reached.caller = sym up_is ∙ hand.its in cc in
              let whom : ident ≡ got.ident = same_Some ident got.ident (sym (subst (λ (k : Known). ident_of k (name.Thread thread) ≡ Some ident) hand.owners noted) ∙ got.known) in
              let now = faulted_gentle x y o p space thread one.gentle owned faulted in
              let free : refusal_of_fault y got.reached.caller got.ident ≡ None = confirms y p mine space got.reached thread (of_faulted y space thread now) now.found now.there got.ident got.live now.ready now.free now.faulty (fetch_loaded y space thread now) now.left in
              let none : refusal_of_fault two.mid caller ident ≡ None =
              subst (λ (v : Recorded). refusal_of_fault v caller ident ≡ None) (sym same)
              (subst (λ (i : Ident). refusal_of_fault y i ident ≡ None) (sym by)
              (subst (λ (i : Ident). refusal_of_fault y got.reached.caller i ≡ None) (sym whom) free)) in
              elim two.made.call.refused.why [
                | inl wants ↦ wants
                | inr tells ↦ absurd (let clash : None ≡ Some w = sym none ∙ tells in cc)
              ];
        }) asked
        (told_twice m n b (λ y z. IsGentle space y z p q × (n ≡ Some z)) (FaultCall caller ident r) (IsCalled w)
        (λ y z u before made. record { mid = z; gentle = before.0; is_n = before.1; made = subst (λ (v : Result (Unit {0}) Refused). FaultCall caller ident v z u) is made })
        (told_from m n (λ y z. IsGentle space y z p q) (λ y z. IsGentle space y z p q × (n ≡ Some z)) (λ y z is_m is_n gentle. (gentle, is_n)) to_kernel.told) call)

-- ---- the row of the page is asked for

abbrev pub ConfirmsIn : SpaceNo → ThreadNo → Vpn → Trust → Known → Known → Result Served Refused → Recorded → Recorded → Type 0
ConfirmsIn space thread vpn trust o p r old new = IsUnfillable old space vpn → Confirms space thread trust o p r old new

-- a refusal for another reason than that there is nothing to load
pub something_to_load : (w : Refused) → ((ident : Ident) → w ≡ why.AlreadyLoaded ident → ⊥) → ((n : Name) → w ≡ why.NotDeclared n → ⊥) → ((frame : Frame) (group : ℕ) → w ≡ why.Rights frame group → ⊥) → IsNothingToLoad w → ⊥
something_to_load (why.AlreadyLoaded ident) loaded none unfit nothing = loaded ident refl
something_to_load (why.NotDeclared n) loaded none unfit nothing = none n refl
something_to_load (why.Rights frame group) loaded none unfit nothing = unfit frame group refl
something_to_load w loaded none unfit nothing = nothing

module _ (a m : Option Recorded) (o p : Known) (space : SpaceNo) (thread : ThreadNo) (vpn : Vpn) (trust : Trust) (r : Asked) where
  -- what it depends on wasn't reached
  pub unfilled : (w : Refused) (result : Result Served Refused) → OnTold a m (RowFills space vpn trust o p r) → r ≡ Err w → result ≡ Err w → OnTold a m (Fills space vpn trust o result)
  unfilled w result fills is so =
      subst (λ (x : Result Served Refused). OnTold a m (Fills space vpn trust o x)) (sym so)
      (told_once a m (RowFills space vpn trust o p (Err w)) (Fills space vpn trust o (Err w))
      (λ x y row owned fillable. let one = row owned fillable in record { any = one.any; reached = one.reached })
      (subst (λ (x : Asked). OnTold a m (RowFills space vpn trust o p x)) is fills))

  pub unconfirmed : (w : Refused) (result : Result Served Refused) → OnTold a m (RowIsVain space vpn trust o p r) → r ≡ Err w → result ≡ Err w → OnTold a m (ConfirmsIn space thread vpn trust o p result)
  unconfirmed w result vain is so =
      subst (λ (x : Result Served Refused). OnTold a m (ConfirmsIn space thread vpn trust o p x)) (sym so)
      (told_once a m (RowIsVain space vpn trust o p (Err w)) (ConfirmsIn space thread vpn trust o p (Err w))
      (λ x y row unfillable owned faulted. let one = row owned unfillable in record { any = one.gentle; reached = one.reached })
      (subst (λ (x : Asked). OnTold a m (RowIsVain space vpn trust o p x)) is vain))

  -- it was loaded
  module _ (ident : Ident) (is : r ≡ Ok (Ok ident)) where
    pub filled : OnTold a m (RowFills space vpn trust o p r) → OnTold a m (Fills space vpn trust o (Ok served.Resumed))
    filled fills =
        told_once a m (RowFills space vpn trust o p (Ok (Ok ident))) (Fills space vpn trust o (Ok served.Resumed))
        (λ x y row owned fillable. let one = row owned fillable in record { any = record { resumed = refl; loaded = one.any }; reached = λ _ _. tt })
        (subst (λ (x : Asked). OnTold a m (RowFills space vpn trust o p x)) is fills)

    pub filled_never : OnTold a m (RowIsVain space vpn trust o p r) → OnTold a m (ConfirmsIn space thread vpn trust o p (Ok served.Resumed))
    filled_never vain =
        told_once a m (RowIsVain space vpn trust o p (Ok (Ok ident))) (ConfirmsIn space thread vpn trust o p (Ok served.Resumed))
        (λ x y row unfillable owned faulted. absurd ((row owned unfillable).any))
        (subst (λ (x : Asked). OnTold a m (RowIsVain space vpn trust o p x)) is vain)

  module _ (w : Refused) (is : r ≡ Ok (Err w)) where
    -- there is nothing to load
    pub confirmed_fill : (b : Option Recorded) (q : Known) (result : Result Served Refused) → IsNothingToLoad w → OnTold a m (RowFills space vpn trust o p r) → OnTold m b (Confirms space thread trust p q result) → OnTold a b (Fills space vpn trust o result)
    confirmed_fill b q result nothing_there fills confirms_so =
        told_twice a m b (RowFills space vpn trust o p (Ok (Err w))) (Confirms space thread trust p q result) (Fills space vpn trust o result)
        (λ x y z row _ owned fillable. absurd (something w (row owned fillable).any.1 nothing_there))
        (subst (λ (x : Asked). OnTold a m (RowFills space vpn trust o p x)) is fills) confirms_so
      where
        something : (w : Refused) → IsElse w → IsNothingToLoad w → ⊥
        something (why.AlreadyLoaded ident) other nothing = other
        something (why.NotDeclared n) other nothing = other
        something (why.Rights frame group) other nothing = other
        something w other nothing = nothing

    pub confirmed_behind : (b : Option Recorded) (q : Known) (result : Result Served Refused) → OnTold a m (RowIsVain space vpn trust o p r) → OnTold m b (Confirms space thread trust p q result) → OnTold a b (ConfirmsIn space thread vpn trust o q result)
    confirmed_behind b q result vain confirms_so =
        told_twice a m b (RowIsVain space vpn trust o p (Ok (Err w))) (Confirms space thread trust p q result) (ConfirmsIn space thread vpn trust o q result)
        (λ x y z row later unfillable owned faulted.
        let first = row owned unfillable in
        let second = later (first.gentle.walked.owned owned) (faulted_gentle x y o p space thread first.gentle owned faulted) in
        record {
          any = confirmed_since x y z o p q space thread result owned first.gentle second.any;
          reached = λ nothing reached. second.reached nothing (first.reached nothing reached).0;
        })
        (subst (λ (x : Asked). OnTold a m (RowIsVain space vpn trust o p x)) is vain) confirms_so

    -- it was refused for another reason
    pub unfilled_so : OnTold a m (RowFills space vpn trust o p r) → OnTold a m (Fills space vpn trust o (Err w))
    unfilled_so fills =
        told_once a m (RowFills space vpn trust o p (Ok (Err w))) (Fills space vpn trust o (Err w))
        (λ x y row owned fillable.
        let one = row owned fillable in
        record {
          any = inr one.any.0;
          reached = λ nothing reached. elim (one.reached nothing reached).1 [ inl wants ↦ wants | inr never ↦ absurd never ];
        })
        (subst (λ (x : Asked). OnTold a m (RowFills space vpn trust o p x)) is fills)

    pub unconfirmed_so : (IsNothingToLoad w → ⊥) → OnTold a m (RowIsVain space vpn trust o p r) → OnTold a m (ConfirmsIn space thread vpn trust o p (Err w))
    unconfirmed_so something_else vain =
        told_once a m (RowIsVain space vpn trust o p (Ok (Err w))) (ConfirmsIn space thread vpn trust o p (Err w))
        (λ x y row unfillable owned faulted.
        let one = row owned unfillable in
        record {
          any = one.gentle;
          reached = λ nothing reached. elim (one.reached nothing reached).1 [ inl wants ↦ wants | inr told ↦ absurd (something_else told) ];
        })
        (subst (λ (x : Asked). OnTold a m (RowIsVain space vpn trust o p x)) is vain)

-- ---- behind the walk to the thread

-- the space that is believed is the one that was
believed_same : (a b : Recorded) (o p : Known) (thread : ThreadNo) (space its : SpaceNo) → IsOwned a o → IsOwned b p → state_of b.machine ≡ state_of a.machine → space_of o thread ≡ Some space → space_of p thread ≡ Some its → its ≡ space
believed_same a b o p thread space its owned later same believed learnt =
    same_Some its space (sym (space_known b p later thread its learnt) ∙ ap (λ (s : FlatState). option_map (λ (t : FlatThread). t.space) (slice_get s.threads thread.0)) same ∙ space_known a o owned thread space believed)

module _ (a m : Option Recorded) (o p : Known) (thread : ThreadNo) (space : SpaceNo) (vpn : Vpn) (trust : Trust) (found : Result SpaceNo Refused) (gentle_so : space_of o thread ≡ Some space → AreGentle space a m o p) (finds : OnTold a m (Finds o p thread trust found)) (walked : AreWalked a m o p) where
  -- the thread was looked for
  record IsLooked (x y : Recorded) : Type 0 where
    gentle : space_of o thread ≡ Some space → IsGentle space x y o p
    finds_so : Finds o p thread trust found x y

  looked : OnTold a m IsLooked
  looked = told_from a m (λ x y. IsWalked x y o p × Finds o p thread trust found x y) IsLooked
      (λ x y is_a is_m both. record {
        gentle = λ known. at_told a m (λ x y. IsGentle space x y o p) x y is_a is_m (gentle_so known).told;
        finds_so = both.1;
      })
      (told_both a m (λ x y. IsWalked x y o p) (Finds o p thread trust found) (λ x y. IsWalked x y o p × Finds o p thread trust found x y) (λ x y one two. (one, two)) walked.told finds)
    where
      at_told : (a b : Option Recorded) (R : Recorded → Recorded → Type 0) (x y : Recorded) → a ≡ Some x → b ≡ Some y → OnTold a b R → R x y
      at_told a b R x y is_a is_b so = subst (λ (v : Option Recorded). OnTold (Some x) v R) is_b (subst (λ (v : Option Recorded). OnTold v b R) is_a so)

  wants_found : (x y : Recorded) (w : Refused) → IsLooked x y → found ≡ Err w → space_of o thread ≡ Some space → IsOwned x o → trust ≡ Nothing → w ≡ why.NoMemory
  wants_found x y w one is known owned nothing =
      let so : IsFound y p space thread (Err w) = subst (IsFound y p space thread) is (one.finds_so owned space (space_known x o owned thread space known) nothing) in
      so

  module _ (w : Refused) (result : Result Served Refused) (is : found ≡ Err w) (so : result ≡ Err w) where
    pub unfound_unfilled : OnTold a m (WalkFills space thread vpn trust o result)
    unfound_unfilled =
        subst (λ (r : Result Served Refused). OnTold a m (WalkFills space thread vpn trust o r)) (sym so)
        (told_once a m IsLooked (WalkFills space thread vpn trust o (Err w))
        (λ x y one known owned fillable. record {
          any = inr (fillable_gentle space x y o p space vpn (one.gentle known) owned fillable);
          wanting = λ nothing. wants_found x y w one is known owned nothing;
        }) looked)

    pub unfound_unconfirmed : OnTold a m (WalkConfirms space thread vpn trust o p result)
    unfound_unconfirmed =
        subst (λ (r : Result Served Refused). OnTold a m (WalkConfirms space thread vpn trust o p r)) (sym so)
        (told_once a m IsLooked (WalkConfirms space thread vpn trust o p (Err w))
        (λ x y one known owned faulted unfillable. record {
          any = one.gentle known;
          wanting = λ nothing. wants_found x y w one is known owned nothing;
        }) looked)

  module _ (its : SpaceNo) (is : found ≡ Ok its) (learnt : space_of p thread ≡ Some its) (b : Option Recorded) (r : Result Served Refused) where
    its_space : (x y : Recorded) → IsLooked x y → space_of o thread ≡ Some space → IsOwned x o → its ≡ space
    its_space x y one known owned =
        let gentle = one.gentle known in
        believed_same x y o p thread space its owned (gentle.walked.owned owned) gentle.walked.state known learnt

    space_reached : (x y : Recorded) → IsLooked x y → space_of o thread ≡ Some space → IsOwned x o → trust ≡ Nothing → IsReached y p its
    space_reached x y one known owned nothing =
        let so : IsFound y p space thread (Ok its) = subst (IsFound y p space thread) is (one.finds_so owned space (space_known x o owned thread space known) nothing) in
        so.1.reached

    pub found_filled : OnTold m b (Fills its vpn trust p r) → OnTold a b (WalkFills space thread vpn trust o r)
    found_filled fills =
        told_twice a m b IsLooked (Fills its vpn trust p r) (WalkFills space thread vpn trust o r)
        (λ x y z one later known owned fillable.
        let gentle = one.gentle known in
        let same : its ≡ space = its_space x y one known owned in
        let now : IsFillable y its vpn = subst (λ (s : SpaceNo). IsFillable y s vpn) (sym same) (fillable_gentle space x y o p space vpn gentle owned fillable) in
        let so = later (gentle.walked.owned owned) now in
        record {
          any = subst (λ (s : SpaceNo). IsFilledOr z s vpn r) same so.any;
          wanting = λ nothing. so.reached nothing (space_reached x y one known owned nothing);
        }) looked fills

    pub found_confirmed : (q : Known) → OnTold m b (ConfirmsIn its thread vpn trust p q r) → OnTold a b (WalkConfirms space thread vpn trust o q r)
    found_confirmed q confirms_so =
        told_twice a m b IsLooked (ConfirmsIn its thread vpn trust p q r) (WalkConfirms space thread vpn trust o q r)
        (λ x y z one later known owned faulted unfillable.
        let gentle = one.gentle known in
        let same : its ≡ space = its_space x y one known owned in
        let so = later (subst (λ (s : SpaceNo). IsUnfillable y s vpn) (sym same) (unfillable_gentle x y o p space vpn gentle owned unfillable)) (gentle.walked.owned owned) (subst (λ (s : SpaceNo). IsFaulted y s thread) (sym same) (faulted_gentle x y o p space thread gentle owned faulted)) in
        record {
          any = confirmed_since x y z o p q space thread r owned gentle (subst (λ (s : SpaceNo). IsConfirmedOr s thread p q y z r) same so.any);
          wanting = λ nothing. so.reached nothing (space_reached x y one known owned nothing);
        }) looked confirms_so

-- ---- a try

filled_unless : (b : Recorded) (space : SpaceNo) (vpn : Vpn) (r : Result Served Refused) → IsFilledOr b space vpn r → IsWanting r → IsFilledUnless b space vpn r
filled_unless b space vpn (Ok answer) any wanting = any
filled_unless b space vpn (Err w) any wanting = wanting

confirmed_unless : (b c : Recorded) (o p : Known) (space : SpaceNo) (thread : ThreadNo) (r : Result Served Refused) → IsConfirmedOr space thread o p b c r → IsWanting r → IsConfirmedUnless thread b c r
confirmed_unless b c o p space thread (Ok answer) any wanting = any
confirmed_unless b c o p space thread (Err w) any wanting = wanting

module _ (a m : Option Recorded) (o p : Known) (thread : ThreadNo) (space : SpaceNo) (vpn : Vpn) (r : Result Served Refused) where
  -- the first walk did it
  module _ (trust : Trust) (answer : Served) (is : r ≡ Ok answer) where
    pub tried_filled : OnTold a m (WalkFills space thread vpn trust o r) → OnTold a m (TryFills space thread vpn o (Ok answer))
    tried_filled fills = told_once a m (WalkFills space thread vpn trust o (Ok answer)) (TryFills space thread vpn o (Ok answer))
        (λ x y one known owned fillable. (one known owned fillable).any) (subst (λ (x : Result Served Refused). OnTold a m (WalkFills space thread vpn trust o x)) is fills)

    pub tried_confirmed : OnTold a m (WalkConfirms space thread vpn trust o p r) → OnTold a m (TryConfirms space thread vpn o (Ok answer))
    tried_confirmed confirms_so = told_once a m (WalkConfirms space thread vpn trust o p (Ok answer)) (TryConfirms space thread vpn o (Ok answer))
        (λ x y one known owned faulted unfillable. (one known owned faulted unfillable).any) (subst (λ (x : Result Served Refused). OnTold a m (WalkConfirms space thread vpn trust o p x)) is confirms_so)

  -- memory was wanted
  module _ (walked : AreWalked a m o p) where
    pub tried_wanting : OnTold a m (TryFills space thread vpn o (Err why.NoMemory))
    tried_wanting = told_once a m (λ x y. IsWalked x y o p) (TryFills space thread vpn o (Err why.NoMemory)) (λ x y _ known owned fillable. refl) walked.told

    pub tried_wanting_too : OnTold a m (TryConfirms space thread vpn o (Err why.NoMemory))
    tried_wanting_too = told_once a m (λ x y. IsWalked x y o p) (TryConfirms space thread vpn o (Err why.NoMemory)) (λ x y _ known owned faulted unfillable. refl) walked.told

  -- the first walk was refused for another reason, and the second asked for each load
  module _ (b : Option Recorded) (q : Known) (trust : Trust) (w : Refused) (is : r ≡ Err w) (memory : w ≡ why.NoMemory → ⊥) (walked : AreWalked a m o p) (knows_still : IsSome (space_of o thread) → IsSome (space_of p thread)) (r2 : Result Served Refused) where
    -- its space is believed still
    known_still : (x y : Recorded) → IsWalked x y o p → IsOwned x o → space_of o thread ≡ Some space → space_of p thread ≡ Some space
    known_still x y one owned known = by (space_of p thread) refl (knows_still (subst (λ (v : Option SpaceNo). IsSome v) (sym known) refl))
      where
        by : (v : Option SpaceNo) → space_of p thread ≡ v → IsSome v → space_of p thread ≡ Some space
        by None none there = absurd (let clash : false ≡ true = there in cc)
        by (Some its) some there = some ∙ ap (λ (s : SpaceNo). Some s) (believed_same x y o p thread space its owned (one.owned owned) one.state known some)

    pub tried_again : OnTold a m (WalkFills space thread vpn trust o r) → OnTold m b (WalkFills space thread vpn Nothing p r2) → OnTold a b (TryFills space thread vpn o r2)
    tried_again fills then_fills =
        told_twice a m b (λ x y. IsWalked x y o p × WalkFills space thread vpn trust o (Err w) x y) (WalkFills space thread vpn Nothing p r2) (TryFills space thread vpn o r2)
        (λ x y z one later known owned fillable.
        let still : IsFillable y space vpn = elim (one.1 known owned fillable).any [ inl wants ↦ absurd (memory wants) | inr is ↦ is ] in
        let so = later (known_still x y one.0 owned known) (one.0.owned owned) still in
        filled_unless z space vpn r2 so.any (so.wanting refl))
        (told_both a m (λ x y. IsWalked x y o p) (WalkFills space thread vpn trust o (Err w)) (λ x y. IsWalked x y o p × WalkFills space thread vpn trust o (Err w) x y) (λ x y one two. (one, two)) walked.told (subst (λ (x : Result Served Refused). OnTold a m (WalkFills space thread vpn trust o x)) is fills))
        then_fills

    pub tried_again_too : OnTold a m (WalkConfirms space thread vpn trust o p r) → OnTold m b (WalkConfirms space thread vpn Nothing p q r2) → OnTold a b (TryConfirms space thread vpn o r2)
    tried_again_too confirms_so then_confirms =
        told_twice a m b (λ x y. IsWalked x y o p × WalkConfirms space thread vpn trust o p (Err w) x y) (WalkConfirms space thread vpn Nothing p q r2) (TryConfirms space thread vpn o r2)
        (λ x y z one later known owned faulted unfillable.
        let gentle = (one.1 known owned faulted unfillable).any in
        let so = later (known_still x y one.0 owned known) (one.0.owned owned) (faulted_gentle x y o p space thread gentle owned faulted) (unfillable_gentle x y o p space vpn gentle owned unfillable) in
        confirmed_unless x z o q space thread r2 (confirmed_since x y z o p q space thread r2 owned gentle so.any) (so.wanting refl))
        (told_both a m (λ x y. IsWalked x y o p) (WalkConfirms space thread vpn trust o p (Err w)) (λ x y. IsWalked x y o p × WalkConfirms space thread vpn trust o p (Err w) x y) (λ x y one two. (one, two)) walked.told (subst (λ (x : Result Served Refused). OnTold a m (WalkConfirms space thread vpn trust o p x)) is confirms_so))
        then_confirms
