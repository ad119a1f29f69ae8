-- What comes of asking for a row, once more with the receiver that was told, and where no signal row was missing.
use Rattle.std.proofs.Common.{◌≡◌, ◌⊎◌, Option, Some, None, refl, sym, ap, ◌∙◌, subst, inl, inr}
use Rattle.std.specs.Prelude.{Result, Ok, Err}
use Rattle.std.specs.Option.{option_map}
use Rattle.std.proofs.lemmas.Option.{same_Some}
use Rattle.cache_ident.specs.declared.idents.Ident.{Ident}
use Rattle.cache_ident.specs.declared.names.Name.{Name}
use Rattle.cache_ident.specs.declared.names.Name.TheVariants as name
use Rattle.cache_ident.specs.declared.names.SpaceNo.{SpaceNo}
use Rattle.cache_ident.specs.declared.names.ThreadNo.{ThreadNo}
use Rattle.cache_ident.specs.declared.names.Vpn.{Vpn}
use Rattle.phys_groups.specs.declared.rows.Row.{Row}
use Rattle.page_laws.specs.board_ops.specs.declared.refusals.Refused.{Refused}
use Rattle.page_laws.specs.board_ops.specs.declared.refusals.Refused.TheVariants as why
use Rattle.page_laws.specs.board_core.specs.Core.{Recorded}
use Rattle.owner_ports.specs.Boards.{OnTold}
use Rattle.owners.specs.Known.{IsReceiverLearnt, Known}
use Rattle.page_laws.specs.owner_laws.specs.Passing.{thread_named}
use Rattle.page_laws.specs.reach_laws.specs.Filling.{IsNothingToLoad}
use Rattle.page_laws.specs.reach_laws.specs.Reaching.{IsReached}
use Rattle.page_laws.specs.reach_laws.proofs.Owning.{reached_learnt}
use Rattle.app_kernel.specs.declared.walk.Trust.{Trust}
use Rattle.app_kernel.specs.Pages.{AskFills, AskIsVain, IsAnotherTold, IsAnswered, IsBelieved, IsFilledIn, IsFilling, IsNoneMissing, IsPassedOn, IsRefusedSo, IsVain, RowFills, RowIsVain}
use Rattle.app_kernel.specs.Walks.{AreWalked, IsWalked}
use Rattle.app_kernel.proofs.AskLaws.{Asked}
use Rattle.app_kernel.proofs.Changes.{told_both, told_from, told_once, told_twice}
use Rattle.app_kernel.proofs.GentleLaws.{gentle_as, gentle_further, unfillable_gentle}

-- ---- an answer of another kind than that another receiver is told

-- the answer tells of no other receiver
abbrev IsNoOther : Result Ident Refused → Type 0
IsNoOther (Ok ident) = Unit {0}
IsNoOther (Err (why.WrongParent given declared)) = ⊥
IsNoOther (Err w) = Unit {0}

pub no_other : (w : Refused) → ((given declared : Option Name) → w ≡ why.WrongParent given declared → ⊥) → IsNoOther (Err w)
no_other (why.WrongParent given declared) apart = apart given declared refl
no_other w apart = tt

pub none_told : (r : Result Ident Refused) (ident : Ident) → r ≡ Ok ident → IsNoOther r
none_told r ident is = subst IsNoOther (sym is) tt

none_other : {P : Type 0} (b : Recorded) (space : SpaceNo) (vpn : Vpn) (w : Refused) → IsNoOther (Err w) → IsAnotherTold b space vpn w → P
none_other b space vpn w none other = absurd (subst (λ (x : Refused). IsNoOther (Err x)) other.is none)

answered_fill : (b : Recorded) (p : Known) (space : SpaceNo) (vpn : Vpn) (r : Result Ident Refused) → IsNoOther r → IsAnswered (IsAnotherTold b space vpn) b p space (Ok r) → IsAnswered (λ w. ⊥) b p space (Ok r)
answered_fill b p space vpn (Ok ident) none is = is
answered_fill b p space vpn (Err w) none is = (is.0, elim is.1 [ inl wants ↦ inl wants | inr other ↦ none_other b space vpn w none other ])

answered_vain : (b : Recorded) (p : Known) (space : SpaceNo) (vpn : Vpn) (r : Result Ident Refused) → IsNoOther r → IsAnswered (λ w. IsNothingToLoad w ⊎ IsAnotherTold b space vpn w) b p space (Ok r) → IsAnswered IsNothingToLoad b p space (Ok r)
answered_vain b p space vpn (Ok ident) none is = is
answered_vain b p space vpn (Err w) none is = (
  is.0,
  elim is.1 [
    | inl wants ↦ inl wants
    | inr some ↦ elim some [ inl nothing ↦ inr nothing | inr other ↦ none_other b space vpn w none other ]
  ],
)

-- ---- rows that are asked for once

module _ (a m : Option Recorded) (o p : Known) (space : SpaceNo) (vpn : Vpn) (trust : Trust) where
  -- what the row depends on wasn't reached
  pub fills_unasked : (w : Refused) (r result : Asked) → OnTold a m (AskFills space vpn trust o p r) → r ≡ Err w → result ≡ Err w → OnTold a m (RowFills space vpn trust o p result)
  fills_unasked w r result asks is so =
      subst (λ (x : Asked). OnTold a m (RowFills space vpn trust o p x)) (sym so)
      (told_once a m (AskFills space vpn trust o p (Err w)) (RowFills space vpn trust o p (Err w))
      (λ x y asked owned fillable. let one = asked owned fillable in record { any = one.any; reached = one.other })
      (subst (λ (x : Asked). OnTold a m (AskFills space vpn trust o p x)) is asks))

  pub vain_unasked : (w : Refused) (r result : Asked) → OnTold a m (AskIsVain space vpn trust o p r) → r ≡ Err w → result ≡ Err w → OnTold a m (RowIsVain space vpn trust o p result)
  vain_unasked w r result asks is so =
      subst (λ (x : Asked). OnTold a m (RowIsVain space vpn trust o p x)) (sym so)
      (told_once a m (AskIsVain space vpn trust o p (Err w)) (RowIsVain space vpn trust o p (Err w))
      (λ x y asked owned unfillable. let one = asked owned unfillable in record { gentle = one.gentle; any = tt; reached = one.other })
      (subst (λ (x : Asked). OnTold a m (AskIsVain space vpn trust o p x)) is asks))

  -- it was, and no other receiver is told
  pub fills_once : (answer : Result Ident Refused) (r : Asked) → OnTold a m (AskFills space vpn trust o p r) → r ≡ Ok answer → IsNoOther answer → OnTold a m (RowFills space vpn trust o p (Ok answer))
  fills_once answer r asks is none =
      told_once a m (AskFills space vpn trust o p (Ok answer)) (RowFills space vpn trust o p (Ok answer))
      (λ x y asked owned fillable.
      let one = asked owned fillable in
      record { any = one.any; reached = λ nothing reached. answered_fill y p space vpn answer none (one.other nothing reached) })
      (subst (λ (x : Asked). OnTold a m (AskFills space vpn trust o p x)) is asks)

  pub vain_once : (answer : Result Ident Refused) (r : Asked) → OnTold a m (AskIsVain space vpn trust o p r) → r ≡ Ok answer → IsNoOther answer → OnTold a m (RowIsVain space vpn trust o p (Ok answer))
  vain_once answer r asks is none =
      told_once a m (AskIsVain space vpn trust o p (Ok answer)) (RowIsVain space vpn trust o p (Ok answer))
      (λ x y asked owned unfillable.
      let one = asked owned unfillable in
      record { gentle = one.gentle; any = one.any; reached = λ nothing reached. answered_vain y p space vpn answer none (one.other nothing reached) })
      (subst (λ (x : Asked). OnTold a m (AskIsVain space vpn trust o p x)) is asks)

  -- another receiver is told, and no memory is left to learn it
  module _ (q : Known) (result : Asked) (walked : AreWalked a m o q) (so : result ≡ Err why.NoMemory) where
    pub fills_unlearnt : OnTold a m (RowFills space vpn trust o q result)
    fills_unlearnt =
        subst (λ (x : Asked). OnTold a m (RowFills space vpn trust o q x)) (sym so)
        (told_once a m (λ x y. IsWalked x y o q) (RowFills space vpn trust o q (Err why.NoMemory)) (λ x y _ owned fillable. record { any = inl refl; reached = λ _ _. refl }) walked.told)

    pub vain_unlearnt : (r : Asked) → OnTold a m (AskIsVain space vpn trust o p r) → OnTold a m (RowIsVain space vpn trust o q result)
    vain_unlearnt r asks =
        subst (λ (x : Asked). OnTold a m (RowIsVain space vpn trust o q x)) (sym so)
        (told_both a m (λ x y. IsWalked x y o q) (AskIsVain space vpn trust o p r) (RowIsVain space vpn trust o q (Err why.NoMemory))
        (λ x y one asked owned unfillable. record { gentle = gentle_as space x y o p q (asked owned unfillable).gentle one; any = tt; reached = λ _ _. refl }) walked.told asks)

-- ---- and once more, with the receiver that was told

thread_of_name : (receiver : Option ThreadNo) → thread_named (option_map name.Thread receiver) ≡ receiver
thread_of_name None = refl
thread_of_name (Some thread) = refl

module _ (b : Recorded) (p q : Known) (space : SpaceNo) (vpn : Vpn) (given declared : Option Name) (learnt : IsReceiverLearnt (space, vpn) (thread_named declared) p q) where
  -- what was told is believed
  believed_now : IsAnotherTold b space vpn (why.WrongParent given declared) → IsBelieved b q space vpn
  believed_now other row here =
      let same : other.row ≡ row = same_Some other.row row (sym other.here ∙ here) in
      let told : declared ≡ option_map name.Thread other.row.receiver = let e = other.is in cc in
      learnt.its ∙ ap thread_named told ∙ thread_of_name other.row.receiver ∙ ap (λ (x : Row). x.receiver) same

  reached_now : IsReached b p space → IsReached b q space
  reached_now reached = reached_learnt b p q space (ap (λ (k : Known). k.idents) learnt.rest) reached

module _ (a m b : Option Recorded) (o p q s : Known) (space : SpaceNo) (vpn : Vpn) (trust : Trust) (given declared : Option Name) (r result : Asked) (is : r ≡ Ok (Err (why.WrongParent given declared)))
    (walked : AreWalked a m o q) (learnt : IsReceiverLearnt (space, vpn) (thread_named declared) p q) where
  abbrev first : Asked
  first = Ok (Err (why.WrongParent given declared))

  pub fills_again : OnTold a m (AskFills space vpn trust o p r) → OnTold m b (AskFills space vpn trust q s result) → OnTold a b (RowFills space vpn trust o s result)
  fills_again asks asks_again =
      told_twice a m b (λ x y. IsWalked x y o q × AskFills space vpn trust o p first x y) (AskFills space vpn trust q s result) (RowFills space vpn trust o s result)
      (λ x y z one again owned fillable.
      let asked = one.1 owned fillable in
      let later = again (one.0.owned owned) asked.any.0 in
      record {
        any = later.any;
        reached = λ nothing reached.
            let told = asked.other nothing reached in
            elim told.1 [
              | inl wants ↦ absurd (cc)
              | inr other ↦ later.believed nothing (reached_now y p q space vpn given declared learnt told.0) (believed_now y p q space vpn given declared learnt other)
            ];
      })
      (told_both a m (λ x y. IsWalked x y o q) (AskFills space vpn trust o p first) (λ x y. IsWalked x y o q × AskFills space vpn trust o p first x y) (λ x y one two. (one, two)) walked.told (subst (λ (x : Asked). OnTold a m (AskFills space vpn trust o p x)) is asks))
      asks_again

  pub vain_again : OnTold a m (AskIsVain space vpn trust o p r) → OnTold m b (AskIsVain space vpn trust q s result) → OnTold a b (RowIsVain space vpn trust o s result)
  vain_again asks asks_again =
      told_twice a m b (λ x y. IsWalked x y o q × AskIsVain space vpn trust o p first x y) (AskIsVain space vpn trust q s result) (RowIsVain space vpn trust o s result)
      (λ x y z one again owned unfillable.
      let asked = one.1 owned unfillable in
      let gentle = gentle_as space x y o p q asked.gentle one.0 in
      let later = again (one.0.owned owned) (unfillable_gentle x y o q space vpn gentle owned unfillable) in
      record {
        gentle = gentle_further space x y z o q s gentle later.gentle;
        any = later.any;
        reached = λ nothing reached.
            let told = asked.other nothing reached in
            let at = reached_now y p q space vpn given declared learnt told.0 in
            elim told.1 [
              | inl wants ↦ absurd (cc)
              | inr some ↦ elim some [
                | inl nothing_told ↦ absurd nothing_told
                | inr other ↦ later.believed nothing at (believed_now y p q space vpn given declared learnt other)
              ]
            ];
      })
      (told_both a m (λ x y. IsWalked x y o q) (AskIsVain space vpn trust o p first) (λ x y. IsWalked x y o q × AskIsVain space vpn trust o p first x y) (λ x y one two. (one, two)) walked.told (subst (λ (x : Asked). OnTold a m (AskIsVain space vpn trust o p x)) is asks))
      asks_again

-- ---- where no signal row was missing

none_missing_fill : (b : Recorded) (space : SpaceNo) (vpn : Vpn) (answer : Result Ident Refused) → IsFilling b space vpn (Ok answer) → IsNoneMissing answer
none_missing_fill b space vpn (Ok ident) is = tt
none_missing_fill b space vpn (Err (why.ReceiversAbsent other page)) is = absurd (is.1)
none_missing_fill b space vpn (Err w) is = tt

none_missing_vain : (answer : Result Ident Refused) → IsRefusedSo answer → IsNoneMissing answer
none_missing_vain (Ok ident) is = tt
none_missing_vain (Err (why.ReceiversAbsent other page)) is = absurd is
none_missing_vain (Err w) is = tt

module _ (a m n : Option Recorded) (o p q : Known) (space : SpaceNo) (vpn : Vpn) (trust : Trust) (answer : Result Ident Refused) (r1 r : Asked) (is : r1 ≡ Ok answer) (walked : AreWalked m n p q) (passes : IsNoneMissing answer → IsPassedOn m n p q answer r) where
  pub fills_passed : OnTold a m (RowFills space vpn trust o p r1) → OnTold a n (RowFills space vpn trust o q r)
  fills_passed fills =
      told_twice a m n (λ x y. RowFills space vpn trust o p (Ok answer) x y × (m ≡ Some y)) (λ y z. n ≡ Some z) (RowFills space vpn trust o q r)
      (λ x y z one is_n owned fillable.
      let first = one.0 owned fillable in
      let passed = passes (none_missing_fill y space vpn answer first.any) in
      let same : z ≡ y = same_Some z y (sym is_n ∙ passed.board ∙ one.1) in
      subst (λ (t : Asked). IsFilledIn space vpn trust o q t x z) (sym passed.its)
      (subst (λ (k : Known). IsFilledIn space vpn trust o k (Ok answer) x z) (sym passed.owners)
      (subst (λ (v : Recorded). IsFilledIn space vpn trust o p (Ok answer) x v) (sym same) first)))
      (told_from a m (RowFills space vpn trust o p (Ok answer)) (λ x y. RowFills space vpn trust o p (Ok answer) x y × (m ≡ Some y)) (λ x y is_a is_m so. (so, is_m)) (subst (λ (t : Asked). OnTold a m (RowFills space vpn trust o p t)) is fills))
      (told_from m n (λ y z. IsWalked y z p q) (λ y z. n ≡ Some z) (λ y z is_m is_n _. is_n) walked.told)

  pub vain_passed : OnTold a m (RowIsVain space vpn trust o p r1) → OnTold a n (RowIsVain space vpn trust o q r)
  vain_passed fills =
      told_twice a m n (λ x y. RowIsVain space vpn trust o p (Ok answer) x y × (m ≡ Some y)) (λ y z. n ≡ Some z) (RowIsVain space vpn trust o q r)
      (λ x y z one is_n owned unfillable.
      let first = one.0 owned unfillable in
      let passed = passes (none_missing_vain answer first.any) in
      let same : z ≡ y = same_Some z y (sym is_n ∙ passed.board ∙ one.1) in
      subst (λ (t : Asked). IsVain space vpn trust o q t x z) (sym passed.its)
      (subst (λ (k : Known). IsVain space vpn trust o k (Ok answer) x z) (sym passed.owners)
      (subst (λ (v : Recorded). IsVain space vpn trust o p (Ok answer) x v) (sym same) first)))
      (told_from a m (RowIsVain space vpn trust o p (Ok answer)) (λ x y. RowIsVain space vpn trust o p (Ok answer) x y × (m ≡ Some y)) (λ x y is_a is_m so. (so, is_m)) (subst (λ (t : Asked). OnTold a m (RowIsVain space vpn trust o p t)) is fills))
      (told_from m n (λ y z. IsWalked y z p q) (λ y z. n ≡ Some z) (λ y z is_m is_n _. is_n) walked.told)

-- what depends on wasn't reached
pub fills_ended : (a m : Option Recorded) (o p : Known) (space : SpaceNo) (vpn : Vpn) (trust : Trust) (r result : Asked) → OnTold a m (RowFills space vpn trust o p r) → result ≡ r → OnTold a m (RowFills space vpn trust o p result)
fills_ended a m o p space vpn trust r result fills so = subst (λ (x : Asked). OnTold a m (RowFills space vpn trust o p x)) (sym so) fills

pub vain_ended : (a m : Option Recorded) (o p : Known) (space : SpaceNo) (vpn : Vpn) (trust : Trust) (r result : Asked) → OnTold a m (RowIsVain space vpn trust o p r) → result ≡ r → OnTold a m (RowIsVain space vpn trust o p result)
vain_ended a m o p space vpn trust r result vain so = subst (λ (x : Asked). OnTold a m (RowIsVain space vpn trust o p x)) (sym so) vain
