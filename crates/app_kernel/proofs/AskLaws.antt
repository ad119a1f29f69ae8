-- What comes of asking for a row once.
use Rattle.std.proofs.Common.{◌≡◌, ◌⊎◌, List, Option, Some, None, slice_get, refl, sym, ap, ◌∙◌, subst, inl, inr}
use Rattle.std.specs.Prelude.{Result, Ok, Err, IfOk}
use Rattle.std.specs.Option.{option_map}
use Rattle.std.proofs.lemmas.Option.{same_Some}
use Rattle.cache_ident.specs.declared.idents.Ident.{Ident}
use Rattle.cache_ident.specs.declared.names.KernelNo.{KernelNo}
use Rattle.cache_ident.specs.declared.names.Name.{Name}
use Rattle.cache_ident.specs.declared.names.Name.TheVariants as name
use Rattle.cache_ident.specs.declared.names.SpaceNo.{SpaceNo}
use Rattle.cache_ident.specs.declared.names.ThreadNo.{ThreadNo}
use Rattle.cache_ident.specs.declared.names.Vpn.{Vpn}
use Rattle.cache_ident.specs.Residents.{IsResident}
use Rattle.phys_groups.specs.Translation.{row_of}
use Rattle.owners.specs.flat_state.specs.State.{FlatState}
use Rattle.page_laws.specs.board_ops.specs.declared.refusals.Refused.{Refused}
use Rattle.page_laws.specs.board_ops.specs.declared.refusals.Refused.TheVariants as why
use Rattle.page_laws.specs.cached_machine.specs.Cached.{state_of}
use Rattle.page_laws.specs.desc_stores.specs.Contents.{residents_of}
use Rattle.page_laws.specs.board_core.specs.Core.{contents_of, Recorded}
use Rattle.page_laws.specs.board_core.specs.Growth.{IsRoomMade}
use Rattle.page_laws.specs.board_checks.specs.Refusals.{refusal_of_load_mapping}
use Rattle.page_laws.specs.board_loads.specs.Loads.{IsLoadedAs}
use Rattle.owners.specs.Known.{ident_of, receiver_of, Known}
use Rattle.owner_ports.specs.Boards.{OnTold}
use Rattle.page_laws.proofs.Kept.{keeps_further, keeps_room}
use Rattle.page_laws.proofs.Filled.{nothing_noted, reached_after_row}
use Rattle.page_laws.specs.answer_laws.specs.Given.{IsGiven}
use Rattle.page_laws.specs.reach_laws.specs.Filling.{IsFillable, IsNothingToLoad, IsUnfillable}
use Rattle.page_laws.specs.reach_laws.specs.Reaching.{kernel_ident, loaded_as, IsGot, IsLoadAnswer, IsOwned, IsReached}
use Rattle.page_laws.specs.reach_laws.proofs.Filling.{another_told, noted_loads, noted_waits, nothing_told, right_or_told, row_filled, IsAnother, IsRight}
use Rattle.page_laws.specs.reach_laws.proofs.Keeping.{live_still}
use Rattle.page_laws.specs.reach_laws.proofs.Owning.{reached_noted, receiver_known, spaces_known}
use Rattle.page_laws.specs.reach_laws.proofs.Telling.{space_noted, told_loaded}
use Rattle.app_kernel.specs.declared.walk.Trust.{Trust}
use Rattle.app_kernel.specs.declared.walk.Trust.TheVariants.{Nothing}
use Rattle.app_kernel.specs.Pages.{AreGentle, AskFills, AskIsVain, IsAnotherTold, IsAnswered, IsBelieved, IsFilling, IsGentle, IsReceiverGot, IsRefusedSo}
use Rattle.app_kernel.specs.Walks.{AreWalked, IsHad, IsNotedSo, IsThreadGot, IsTurnedAway, IsWalked, ThreadReaches}
use Rattle.app_kernel.proofs.Changes.{told_both, told_from, told_here, told_once, told_twice}
use Rattle.app_kernel.proofs.GentleLaws.{fillable_gentle, gentle_further, gentle_on, unfillable_gentle}
use Rattle.app_kernel.proofs.ReachLaws.{at_hand}
use Rattle.app_kernel.proofs.WalkLaws.{told_as, RowCall, RowDone}

abbrev pub Asked : Type 0
Asked = Result (Result Ident Refused) Refused

-- ---- the receiver

-- the receiver that is believed is got, in a space that is reached
abbrev pub GetsReceiver : SpaceNo → Trust → Known → Known → Option ThreadNo → Result (Option Ident) Refused → Recorded → Recorded → Type 0
GetsReceiver space trust o p named result old new = IsOwned old o → IsReached old o space → trust ≡ Nothing → IsReceiverGot new p space named result

pub receiver_none : (b : Option Recorded) (o : Known) (space : SpaceNo) (trust : Trust) (named : Option ThreadNo) → named ≡ None → OnTold b b (GetsReceiver space trust o o named (Ok None))
receiver_none b o space trust named none = told_here b (GetsReceiver space trust o o named (Ok None))
    (λ x owned reached nothing. subst (λ (n : Option ThreadNo). IsReceiverGot x o space n (Ok None)) (sym none) (reached, tt))

module _ (a b : Option Recorded) (o p : Known) (space : SpaceNo) (vpn : Vpn) (receiver : ThreadNo) (trust : Trust) (r : Result Ident Refused) (known : receiver_of o (space, vpn) ≡ Some receiver) (reaches : OnTold a b (ThreadReaches o p space receiver trust r)) where
  pub receiver_got : (ident : Ident) → r ≡ Ok ident → ident_of p (name.Thread receiver) ≡ Some ident → OnTold a b (GetsReceiver space trust o p (receiver_of o (space, vpn)) (Ok (Some ident)))
  receiver_got ident is noted = told_once a b (ThreadReaches o p space receiver trust r) (GetsReceiver space trust o p (receiver_of o (space, vpn)) (Ok (Some ident)))
      (λ x y so owned reached nothing.
      let got : IsThreadGot y p space space receiver (Ok ident) = subst (IsThreadGot y p space space receiver) is (so owned reached space (receiver_known x o owned space vpn receiver known) nothing) in
      let same : got.1.ident ≡ ident = same_Some got.1.ident ident (sym got.1.known ∙ noted) in
      subst (λ (n : Option ThreadNo). IsReceiverGot y p space n (Ok (Some ident))) (sym known) (got.1.reached, subst (λ (i : Ident). IsGiven (contents_of y) (Some i) (Some receiver)) same got.1.live)) reaches

  pub receiver_away : (w : Refused) (result : Result (Option Ident) Refused) → r ≡ Err w → result ≡ Err w → OnTold a b (GetsReceiver space trust o p (receiver_of o (space, vpn)) result)
  receiver_away w result is so = told_once a b (ThreadReaches o p space receiver trust r) (GetsReceiver space trust o p (receiver_of o (space, vpn)) result)
      (λ x y reached_so owned reached nothing.
      let away : IsTurnedAway p space space w = subst (IsThreadGot y p space space receiver) is (reached_so owned reached space (receiver_known x o owned space vpn receiver known) nothing) in
      subst (IsReceiverGot y p space (receiver_of o (space, vpn))) (sym so) (away.mine refl)) reaches

-- ---- what the row depends on isn't reached

module _ (space : SpaceNo) (vpn : Vpn) (trust : Trust) (a b : Option Recorded) (o p : Known) (w : Refused) (result : Asked) (so : result ≡ Err w) (gentle : AreGentle space a b o p) (wants : OnTold a b (λ old new. IsOwned old o → IsReached old o space → trust ≡ Nothing → w ≡ why.NoMemory)) where
  abbrev Wants : Recorded → Recorded → Type 0
  Wants old new = IsOwned old o → IsReached old o space → trust ≡ Nothing → w ≡ why.NoMemory

  pub fills_refused : OnTold a b (AskFills space vpn trust o p result)
  fills_refused = subst (λ (x : Asked). OnTold a b (AskFills space vpn trust o p x)) (sym so)
      (told_both a b (λ x y. IsGentle space x y o p) Wants (AskFills space vpn trust o p (Err w))
      (λ x y one wanted owned fillable. record {
        any = inr (fillable_gentle space x y o p space vpn one owned fillable);
        believed = λ nothing reached _. wanted owned reached nothing;
        other = λ nothing reached. wanted owned reached nothing;
      }) gentle.told wants)

  pub vain_refused : OnTold a b (AskIsVain space vpn trust o p result)
  vain_refused = subst (λ (x : Asked). OnTold a b (AskIsVain space vpn trust o p x)) (sym so)
      (told_both a b (λ x y. IsGentle space x y o p) Wants (AskIsVain space vpn trust o p (Err w))
      (λ x y one wanted owned unfillable. record {
        gentle = one;
        any = tt;
        believed = λ nothing reached _. wanted owned reached nothing;
        other = λ nothing reached. wanted owned reached nothing;
      }) gentle.told wants)

-- its receiver isn't
pub receiver_wants : (a b : Option Recorded) (o p : Known) (space : SpaceNo) (trust : Trust) (named : Option ThreadNo) (w : Refused) (r : Result (Option Ident) Refused) → r ≡ Err w → OnTold a b (GetsReceiver space trust o p named r)
    → OnTold a b (λ old new. IsOwned old o → IsReached old o space → trust ≡ Nothing → w ≡ why.NoMemory)
receiver_wants a b o p space trust named w r is gets = told_once a b (GetsReceiver space trust o p named r) (λ old new. IsOwned old o → IsReached old o space → trust ≡ Nothing → w ≡ why.NoMemory)
    (λ x y got owned reached nothing. subst (IsReceiverGot y p space named) is (got owned reached nothing)) gets

-- ---- where the receiver is reached, the kernel and the space are at hand

-- The space is reached by these identifiers, and the receiver is given.
abbrev pub IsHanded : SpaceNo → Ident → Ident → Option Ident → Option ThreadNo → Recorded → Known → Type 0
IsHanded space caller parent receiver named b s = (mine : IsReached b s space) × (caller ≡ mine.caller) × (parent ≡ mine.parent) × IsGiven (contents_of b) receiver named

-- the row is to be asked for by these identifiers
pub record IsAtRow (space : SpaceNo) (trust : Trust) (o s : Known) (caller parent : Ident) (receiver : Option Ident) (named : Option ThreadNo) (old new : Recorded) : Type 0 where
  pub gentle : IsGentle space old new o s
  pub hand : IsOwned old o → IsReached old o space → trust ≡ Nothing → IsHanded space caller parent receiver named new s

module _ (a m : Option Recorded) (o p : Known) (space : SpaceNo) (trust : Trust) (named : Option ThreadNo) (receiver : Option Ident) (r : Result (Option Ident) Refused) (r_is : r ≡ Ok receiver) (led : AreGentle space a m o p) (gets : OnTold a m (GetsReceiver space trust o p named r)) where
  record IsBegun (old new : Recorded) : Type 0 where
    gentle : IsGentle space old new o p
    got : IsOwned old o → IsReached old o space → trust ≡ Nothing → IsReached new p space × IsGiven (contents_of new) receiver named

  begun : OnTold a m IsBegun
  begun =
      told_both a m (λ x y. IsGentle space x y o p) (GetsReceiver space trust o p named r) IsBegun
      (λ x y one got. record { gentle = one; got = λ owned reached nothing. subst (IsReceiverGot y p space named) r_is (got owned reached nothing) }) led.told gets

  module _ (n : Option Recorded) (q : Known) (up : Result Ident Refused) (had_kernel : (its : KernelNo) (ident : Ident) → slice_get p.spaces space.0 ≡ Some its → kernel_ident p its ≡ Some ident → IsHad m n p q ident up) where
    -- its kernel isn't
    pub kernel_wants : (w : Refused) → up ≡ Err w → AreGentle space m n p q → OnTold a n (λ old new. IsOwned old o → IsReached old o space → trust ≡ Nothing → w ≡ why.NoMemory)
    kernel_wants w is onward = told_twice a m n IsBegun (λ x y. IsGentle space x y p q) (λ old new. IsOwned old o → IsReached old o space → trust ≡ Nothing → w ≡ why.NoMemory)
        (λ x y z first second owned reached nothing. absurd (
        let mine = (first.got owned reached nothing).0 in
        let its : slice_get p.spaces space.0 ≡ Some mine.kernel = ap (λ (ks : List KernelNo). slice_get ks space.0) (spaces_known y p (first.gentle.walked.owned owned)) ∙ mine.its in
        let clash : Err w ≡ Ok mine.caller = sym is ∙ (had_kernel mine.kernel mine.caller its mine.caller_known).its in
        cc)) begun onward.told

    module _ (l : Option Recorded) (s : Known) (here : Result Ident Refused) (had_space : (its : KernelNo) (first ident : Ident) → slice_get q.spaces space.0 ≡ Some its → kernel_ident q its ≡ Some first → ident_of q (name.Space space) ≡ Some ident → IsHad n l q s ident here)
        (then_kernel : AreGentle space m n p q) (then_space : AreGentle space n l q s) where
      onward : AreGentle space m l p s
      onward = gentle_on space m n l p q s then_kernel then_space

      -- nor its space
      pub space_wants : (w : Refused) → here ≡ Err w → OnTold a l (λ old new. IsOwned old o → IsReached old o space → trust ≡ Nothing → w ≡ why.NoMemory)
      space_wants w is = told_twice a m l IsBegun (λ x y. IsGentle space x y p s) (λ old new. IsOwned old o → IsReached old o space → trust ≡ Nothing → w ≡ why.NoMemory)
          (λ x y z first second owned reached nothing. absurd (
          let mine = (first.got owned reached nothing).0 in
          let hand = at_hand m n l p q s space up here had_kernel had_space y (first.gentle.walked.owned owned) mine in
          let clash : Err w ≡ Ok mine.parent = sym is ∙ hand.here_is in
          cc)) begun onward.told

      -- all is at hand
      pub at_row : (caller parent : Ident) → up ≡ Ok caller → here ≡ Ok parent → OnTold a l (IsAtRow space trust o s caller parent receiver named)
      at_row caller parent up_is here_is =
          let on = told_from m l (λ x y. IsGentle space x y p s) (λ x y. (m ≡ Some x) × (l ≡ Some y) × IsGentle space x y p s) (λ x y is_m is_l one. (is_m, is_l, one)) onward.told in
          told_twice a m l IsBegun (λ x y. (m ≡ Some x) × (l ≡ Some y) × IsGentle space x y p s) (IsAtRow space trust o s caller parent receiver named)
          (λ x y z first second. record {
            gentle = gentle_further space x y z o p s first.gentle second.2;
            hand = λ owned reached nothing.
                let got = first.got owned reached nothing in
                let hand = at_hand m n l p q s space up here had_kernel had_space y (first.gentle.walked.owned owned) got.0 in
                let by : caller ≡ got.0.caller = let same : Ok caller ≡ Ok got.0.caller = sym up_is ∙ hand.up_is in cc in
                let under : parent ≡ got.0.parent = let same : Ok parent ≡ Ok got.0.parent = sym here_is ∙ hand.here_is in cc in
                let same : z ≡ y = same_Some z y (sym second.1 ∙ hand.board ∙ second.0) in
                let at : IsHanded space caller parent receiver named y p = (got.0, by, under, got.1) in
                subst (IsHanded space caller parent receiver named z) (sym hand.owners) (subst (λ (b : Recorded). IsHanded space caller parent receiver named b p) (sym same) at);
          }) begun on

-- ---- the row is asked for

refused_so : (w : Refused) → ((other : SpaceNo) (page : Vpn) → w ≡ why.ReceiversAbsent other page → ⊥) → IsRefusedSo (Err w)
refused_so (why.ReceiversAbsent other page) never = never other page refl
refused_so w never = tt

module _ (space : SpaceNo) (vpn : Vpn) (trust : Trust) (o s v : Known) (caller parent : Ident) (receiver : Option Ident) (answer : Result Ident Refused) (parent_noted : ident_of s (name.Space space) ≡ Some parent) where
  abbrev named : Option ThreadNo
  named = receiver_of o (space, vpn)

  abbrev n : Name
  n = name.Mapping space vpn

  abbrev refusal : Recorded → Option Refused
  refusal b = refusal_of_load_mapping (contents_of b) caller parent vpn receiver

  abbrev pub AtRow : Recorded → Recorded → Type 0
  AtRow old new = IsAtRow space trust o s caller parent receiver named old new

  module _ (x y z : Recorded) (at : AtRow x y) (made : RowCall caller parent vpn receiver answer y z) (owned : IsOwned x o) where
    mid : IsOwned y s
    mid = at.gentle.walked.owned owned

    -- a page of the space was asked for
    row_answer : IsLoadAnswer (refusal y) n y z answer
    row_answer = record { refused = made.call.refused; done = made.call.done; made = by answer made.call.made }
      where
        by : (r : Result Ident Refused) → IfOk r (RowDone parent vpn y z) → IfOk r (λ ident. IsLoadedAs 0 n ident y z)
        by (Ok ident) is = subst (λ (other : SpaceNo). IsLoadedAs 0 (name.Mapping other vpn) ident y z) (space_noted y s mid space parent parent_noted is.0 is.1) is.2
        by (Err w) is = tt

    shows_same : state_of z.machine ≡ state_of y.machine
    shows_same = by answer row_answer
      where
        by : (r : Result Ident Refused) → IsLoadAnswer (refusal y) n y z r → state_of z.machine ≡ state_of y.machine
        by (Ok ident) a = a.made.state
        by (Err w) a = a.refused.only.only.state

    -- a row that is to be loaded is, or is to be loaded still
    fill_any : IsFillable x space vpn → IsFilling z space vpn (Ok answer)
    fill_any fillable = by answer refl
      where
        by : (r : Result Ident Refused) → answer ≡ r → IsFilling z space vpn (Ok r)
        by (Ok ident) is = let live = noted_loads y s mid caller parent space parent_noted vpn receiver z answer made.call.refused made.call.made ident is in (live.0, live.1, live.3)
        by (Err w) is = noted_waits y s mid caller parent space parent_noted vpn receiver z answer made.call.refused made.call.made (fillable_gentle space x y o s space vpn at.gentle owned fillable) w is

    -- where nothing is, nothing comes
    vain_any : IsUnfillable x space vpn → (w : Refused) × (answer ≡ Err w) × IsRoomMade y z × ((other : SpaceNo) (page : Vpn) → w ≡ why.ReceiversAbsent other page → ⊥)
    vain_any unfillable = nothing_noted y s mid caller parent space parent_noted vpn receiver (unfillable_gentle x y o s space vpn at.gentle owned unfillable) z answer made.call.refused made.call.made

    vain_refused_so : IsUnfillable x space vpn → IsRefusedSo answer
    vain_refused_so unfillable = let t = vain_any unfillable in subst IsRefusedSo (sym t.1) (refused_so t.0 t.3)

    vain_gentle : IsUnfillable x space vpn → IsWalked x z o v → IsGentle space x z o v
    vain_gentle unfillable walked = record {
      walked = walked;
      marks = λ no cpu is. at.gentle.marks no cpu (made.call.on.marks no cpu is);
      keeps = λ was. keeps_further space x y z (at.gentle.keeps was) (keeps_room space y z (vain_any unfillable).2);
    }

    -- what is loaded may be noted
    row_live : (r : Result Ident Refused) (ident : Ident) → loaded_as r ≡ Ok ident → IsLoadAnswer (refusal y) n y z r → IsResident (residents_of (contents_of z)) ident n
    row_live (Ok given) ident is a = subst (λ (i : Ident). IsResident (residents_of (contents_of z)) i n) (let same : Ok given ≡ Ok ident = is in cc) a.made.there
    row_live (Err w) ident is a = elim a.refused.why [
      | inl wants ↦ absurd (let told = told_as w ident is in cc)
      | inr tells ↦ live_still y z a.refused.only ident n (told_loaded y s mid caller parent space parent_noted vpn receiver ident (tells ∙ ap (λ (u : Refused). Some u) (told_as w ident is)))
    ]

    module _ (noted : IsNotedSo n (loaded_as answer) s v) (reached : IsReached x o space) (nothing : trust ≡ Nothing) where
      hand : IsHanded space caller parent receiver named y s
      hand = at.hand owned reached nothing

      still : IsReached z v space
      still = by (loaded_as answer) refl noted
        where
          kept : IsReached z s space
          kept = reached_after_row y z s mid space hand.0 vpn (refusal y) answer row_answer

          by : (r : Result Ident Refused) → loaded_as answer ≡ r → IsNotedSo n r s v → IsReached z v space
          by (Ok ident) is so = reached_noted z s v n ident so (row_live answer ident is row_answer) space kept
          by (Err w) is so = subst (λ (k : Known). IsReached z k space) (sym so) kept

      abbrev asked : Option Refused
      asked = refusal_of_load_mapping (contents_of y) hand.0.caller hand.0.parent vpn receiver

      asked_so : IsLoadAnswer asked n y z answer
      asked_so =
          subst (λ (i : Ident). IsLoadAnswer (refusal_of_load_mapping (contents_of y) hand.0.caller i vpn receiver) n y z answer) hand.2
          (subst (λ (i : Ident). IsLoadAnswer (refusal_of_load_mapping (contents_of y) i parent vpn receiver) n y z answer) hand.1 row_answer)

      -- what is believed is so on the board that was asked
      believed_so : IsBelieved x o space vpn → IsRight y z s mid space hand.0 vpn receiver named hand.3
      believed_so believed row here = believed row (ap (λ (f : FlatState). row_of f.rows space vpn.0) (sym at.gentle.walked.state) ∙ here)

      another_so : (w : Refused) (other : IsAnother y z s mid space hand.0 vpn receiver named hand.3) → w ≡ why.WrongParent (option_map name.Thread named) (option_map name.Thread other.row.receiver) → IsAnotherTold z space vpn w
      another_so w other is = record {
        row = other.row;
        here = ap (λ (f : FlatState). row_of f.rows space vpn.0) shows_same ∙ other.here;
        given = option_map name.Thread named;
        is = is;
      }

      module _ (fillable : IsFillable x space vpn) where
        fill_got : IsRight y z s mid space hand.0 vpn receiver named hand.3 → IsGot z n answer
        fill_got right = row_filled y z s mid space hand.0 vpn receiver named hand.3 right (fillable_gentle space x y o s space vpn at.gentle owned fillable) answer asked_so

        answered_got : (may : Refused → Type 0) (r : Result Ident Refused) → IsGot z n r → IsAnswered may z v space (Ok r)
        answered_got may (Ok ident) got = still
        answered_got may (Err w) wants = (still, inl wants)

        fill_believed : IsBelieved x o space vpn → IsAnswered (λ w. ⊥) z v space (Ok answer)
        fill_believed believed = answered_got (λ w. ⊥) answer (fill_got (believed_so believed))

        fill_other : IsAnswered (IsAnotherTold z space vpn) z v space (Ok answer)
        fill_other = elim (right_or_told y z s mid space hand.0 vpn receiver named hand.3) [
          | inl right ↦ answered_got (IsAnotherTold z space vpn) answer (fill_got right)
          | inr other ↦
              let t = another_told y z s mid space hand.0 vpn receiver named hand.3 other answer asked_so in
              subst (λ (r : Result Ident Refused). IsAnswered (IsAnotherTold z space vpn) z v space (Ok r)) (sym t.1) (still, elim t.2 [ inl wants ↦ inl wants | inr is ↦ inr (another_so t.0 other is) ])
        ]

      module _ (unfillable : IsUnfillable x space vpn) where
        vain_told : IsRight y z s mid space hand.0 vpn receiver named hand.3 → (w : Refused) × (answer ≡ Err w) × ((w ≡ why.NoMemory) ⊎ IsNothingToLoad w)
        vain_told right = nothing_told y z s mid space hand.0 vpn receiver named hand.3 right (unfillable_gentle x y o s space vpn at.gentle owned unfillable) answer asked_so

        vain_believed : IsBelieved x o space vpn → IsAnswered IsNothingToLoad z v space (Ok answer)
        vain_believed believed =
            let t = vain_told (believed_so believed) in
            subst (λ (r : Result Ident Refused). IsAnswered IsNothingToLoad z v space (Ok r)) (sym t.1) (still, t.2)

        vain_other : IsAnswered (λ w. IsNothingToLoad w ⊎ IsAnotherTold z space vpn w) z v space (Ok answer)
        vain_other = elim (right_or_told y z s mid space hand.0 vpn receiver named hand.3) [
          | inl right ↦
              let t = vain_told right in
              subst (λ (r : Result Ident Refused). IsAnswered (λ w. IsNothingToLoad w ⊎ IsAnotherTold z space vpn w) z v space (Ok r)) (sym t.1) (still, elim t.2 [ inl wants ↦ inl wants | inr none ↦ inr (inl none) ])
          | inr other ↦
              let t = another_told y z s mid space hand.0 vpn receiver named hand.3 other answer asked_so in
              subst (λ (r : Result Ident Refused). IsAnswered (λ w. IsNothingToLoad w ⊎ IsAnotherTold z space vpn w) z v space (Ok r)) (sym t.1) (still, elim t.2 [ inl wants ↦ inl wants | inr is ↦ inr (inr (another_so t.0 other is)) ])
        ]

  -- ---- over a port

  module _ (a l b : Option Recorded) (at : OnTold a l AtRow) (call : OnTold l b (RowCall caller parent vpn receiver answer)) where
    -- the row was asked for, and noted
    module _ (noted : IsNotedSo n (loaded_as answer) s v) where
      pub fills_asked : OnTold a b (AskFills space vpn trust o v (Ok answer))
      fills_asked = told_twice a l b AtRow (RowCall caller parent vpn receiver answer) (AskFills space vpn trust o v (Ok answer))
          (λ x y z at_y made owned fillable. record {
            any = fill_any x y z at_y made owned fillable;
            believed = λ nothing reached believed. fill_believed x y z at_y made owned noted reached nothing fillable believed;
            other = λ nothing reached. fill_other x y z at_y made owned noted reached nothing fillable;
          }) at call

      pub vain_asked : AreWalked a b o v → OnTold a b (AskIsVain space vpn trust o v (Ok answer))
      vain_asked walked =
          told_both a b (λ x z. IsWalked x z o v) (λ x z. IsWalked x z o v → AskIsVain space vpn trust o v (Ok answer) x z) (AskIsVain space vpn trust o v (Ok answer)) (λ x z one so. so one) walked.told
          (told_twice a l b AtRow (RowCall caller parent vpn receiver answer) (λ x z. IsWalked x z o v → AskIsVain space vpn trust o v (Ok answer) x z)
          (λ x y z at_y made one owned unfillable. record {
            gentle = vain_gentle x y z at_y made owned unfillable one;
            any = vain_refused_so x y z at_y made owned unfillable;
            believed = λ nothing reached believed. vain_believed x y z at_y made owned noted reached nothing unfillable believed;
            other = λ nothing reached. vain_other x y z at_y made owned noted reached nothing unfillable;
          }) at call)

    -- no memory is left to note it
    module _ (result : Asked) (so : result ≡ Err why.NoMemory) (walked : AreWalked a b o v) where
      pub fills_unnoted : OnTold a b (AskFills space vpn trust o v result)
      fills_unnoted = subst (λ (r : Asked). OnTold a b (AskFills space vpn trust o v r)) (sym so)
          (told_once a b (λ x z. IsWalked x z o v) (AskFills space vpn trust o v (Err why.NoMemory)) (λ x z one owned fillable. record { any = inl refl; believed = λ nothing reached believed. refl; other = λ nothing reached. refl }) walked.told)

      pub vain_unnoted : OnTold a b (AskIsVain space vpn trust o v result)
      vain_unnoted = subst (λ (r : Asked). OnTold a b (AskIsVain space vpn trust o v r)) (sym so)
          (told_both a b (λ x z. IsWalked x z o v) (λ x z. IsWalked x z o v → AskIsVain space vpn trust o v (Err why.NoMemory) x z) (AskIsVain space vpn trust o v (Err why.NoMemory)) (λ x z one so_then. so_then one) walked.told
          (told_twice a l b AtRow (RowCall caller parent vpn receiver answer) (λ x z. IsWalked x z o v → AskIsVain space vpn trust o v (Err why.NoMemory) x z)
          (λ x y z at_y made one owned unfillable. record {
            gentle = vain_gentle x y z at_y made owned unfillable one;
            any = tt;
            believed = λ nothing reached believed. refl;
            other = λ nothing reached. refl;
          }) at call))
