-- How a thread is found whose space isn't known.
use Rattle.std.proofs.Common.{◌≡◌, List, Option, Some, None, slice_get, refl, sym, ap, ◌∙◌, subst, inl, inr}
use Rattle.std.specs.Prelude.{Result, Ok, Err}
use Rattle.std.proofs.lemmas.Option.{same_Some}
use Rattle.cache_ident.specs.declared.names.KernelNo.{KernelNo}
use Rattle.cache_ident.specs.declared.names.SpaceNo.{SpaceNo}
use Rattle.cache_ident.specs.declared.names.ThreadNo.{ThreadNo}
use Rattle.owners.specs.flat_state.specs.State.{FlatState}
use Rattle.page_laws.specs.board_ops.specs.declared.refusals.Refused.{Refused}
use Rattle.page_laws.specs.cached_machine.specs.Cached.{state_of}
use Rattle.page_laws.specs.board_core.specs.Core.{Recorded}
use Rattle.owners.specs.Known.{space_of, Known}
use Rattle.owners.specs.Owning.{IsThreadOf}
use Rattle.owner_ports.specs.Boards.{OnTold}
use Rattle.page_laws.specs.reach_laws.specs.Reaching.{IsOwned}
use Rattle.page_laws.specs.reach_laws.specs.Searching.{space_told, IsNearer}
use Rattle.page_laws.specs.reach_laws.proofs.Owning.{space_known, spaces_known}
use Rattle.page_laws.specs.reach_laws.proofs.Showing.{a_first_one, space_there}
use Rattle.app_kernel.specs.declared.walk.Trust.{Trust}
use Rattle.app_kernel.specs.declared.walk.Trust.TheVariants.{Nothing}
use Rattle.app_kernel.specs.Walks.{AreBothGot, AreWalked, BothReach, Finds, IsFound, IsSpaceTried, IsTurnedAway, IsWalked, SpaceTries}
use Rattle.app_kernel.proofs.WalkLaws.{further}
use Rattle.app_kernel.proofs.Changes.{told_both, told_once, told_twice}

-- ---- a space that is tried

module _ (a b : Option Recorded) (o p : Known) (space : SpaceNo) (thread : ThreadNo) (trust : Trust) (r : Result (Unit {0}) Refused) (both : OnTold a b (BothReach o p space thread trust r)) where
  by_tries : (result : Result (Option SpaceNo) Refused) → ((new : Recorded) (its : SpaceNo) → AreBothGot new p its space thread r → IsSpaceTried new p its space thread result) → OnTold a b (SpaceTries o p space thread trust result)
  by_tries result so = told_once a b (BothReach o p space thread trust r) (SpaceTries o p space thread trust result) (λ old new got owned its kernel is of nothing. so new its (got owned its kernel is of nothing)) both

  pub tried_its : (done : Unit {0}) → r ≡ Ok done → OnTold a b (SpaceTries o p space thread trust (Ok None))
  tried_its done is = by_tries (Ok None) (λ new its got. subst (AreBothGot new p its space thread) is got)

  pub tried_another : (w : Refused) (next : SpaceNo) → r ≡ Err w → Some next ≡ space_told p w → OnTold a b (SpaceTries o p space thread trust (Ok (Some next)))
  tried_another w next is told = by_tries (Ok (Some next)) (λ new its got.
      let away : IsTurnedAway p its space w = subst (AreBothGot new p its space thread) is got in
      elim away.nearer [
        | inl wants ↦ let none : Some next ≡ None = told ∙ ap (space_told p) wants in absurd (cc)
        | inr nearer ↦ subst (IsNearer p its space) (same_Some nearer.0 next (sym nearer.1 ∙ sym told)) nearer.2
      ])

  pub tried_nothing : (w : Refused) → r ≡ Err w → None ≡ space_told p w → OnTold a b (SpaceTries o p space thread trust (Err w))
  tried_nothing w is told = by_tries (Err w) (λ new its got.
      let away : IsTurnedAway p its space w = subst (AreBothGot new p its space thread) is got in
      elim away.nearer [
        | inl wants ↦ wants
        | inr nearer ↦ absurd (let some : None ≡ Some nearer.0 = told ∙ nearer.1 in cc)
      ])

-- ---- a thread that is looked for

-- how the first space is chosen
pub record IsFirstTry (o : Known) (thread : ThreadNo) (trust : Trust) (first : SpaceNo) (by : Trust) : Type 0 where
  pub known : (space : SpaceNo) → space_of o thread ≡ Some space → (first ≡ space) × (by ≡ trust)
  pub unknown : space_of o thread ≡ None → (first ≡ record { 0 = 0 }) × (by ≡ Nothing)

record IsStart (b : Recorded) (first : SpaceNo) (by : Trust) : Type 0 where
  kernel : KernelNo
  there : slice_get (state_of b.machine).spaces first.0 ≡ Some kernel
  nothing : by ≡ Nothing

start : (b : Recorded) (o : Known) (thread : ThreadNo) (trust : Trust) (first : SpaceNo) (by : Trust) → IsFirstTry o thread trust first by → IsOwned b o → (its : SpaceNo) → IsThreadOf (state_of b.machine) its thread → trust ≡ Nothing → IsStart b first by
start b o thread trust first by try owned its is nothing = with (space_of o thread) refl
  where
    with : (believed : Option SpaceNo) → space_of o thread ≡ believed → IsStart b first by
    with None none =
        let so = try.unknown none in
        let k = space_there b owned.sound its thread is in
        let f = a_first_one (state_of b.machine).spaces its.0 k.0 k.1 in
        record { kernel = f.0; there = ap (λ (x : SpaceNo). slice_get (state_of b.machine).spaces x.0) so.0 ∙ f.1; nothing = so.1 }
    with (Some space) some =
        let so = try.known space some in
        let k = space_there b owned.sound space thread (space_known b o owned thread space some) in
        record { kernel = k.0; there = ap (λ (x : SpaceNo). slice_get (state_of b.machine).spaces x.0) so.0 ∙ k.1; nothing = so.1 ∙ nothing }

module _ (o : Known) (thread : ThreadNo) (trust : Trust) (first : SpaceNo) (by : Trust) (try : IsFirstTry o thread trust first by) where
  -- the first one is its own, or memory is wanted
  pub found_first : (a b : Option Recorded) (p : Known) (r : Result (Option SpaceNo) Refused) → OnTold a b (SpaceTries o p first thread by r) → r ≡ Ok None → OnTold a b (Finds o p thread trust (Ok first))
  found_first a b p r tries is = told_once a b (SpaceTries o p first thread by r) (Finds o p thread trust (Ok first))
      (λ old new so owned its is_of nothing.
      let s = start old o thread trust first by try owned its is_of nothing in
      let got : IsSpaceTried new p its first thread (Ok None) = subst (IsSpaceTried new p its first thread) is (so owned its s.kernel is_of s.there s.nothing) in
      (sym got.0, got.1)) tries

  pub first_wants : (a b : Option Recorded) (p : Known) (r : Result (Option SpaceNo) Refused) (w : Refused) (result : Result SpaceNo Refused) → OnTold a b (SpaceTries o p first thread by r) → r ≡ Err w → result ≡ Err w → OnTold a b (Finds o p thread trust result)
  first_wants a b p r w result tries is end = told_once a b (SpaceTries o p first thread by r) (Finds o p thread trust result)
      (λ old new so owned its is_of nothing.
      let s = start old o thread trust first by try owned its is_of nothing in
      subst (IsFound new p its thread) (sym end) (let got : IsSpaceTried new p its first thread (Err w) = subst (IsSpaceTried new p its first thread) is (so owned its s.kernel is_of s.there s.nothing) in got)) tries

  -- the second one
  module _ (a m : Option Recorded) (p : Known) (second : SpaceNo) (r : Result (Option SpaceNo) Refused) (walked : AreWalked a m o p) (tries : OnTold a m (SpaceTries o p first thread by r)) (is : r ≡ Ok (Some second)) where
    -- it is one of the right kernel
    record IsNext (old new : Recorded) : Type 0 where
      one : IsWalked old new o p
      so : IsOwned old o → (its : SpaceNo) → IsThreadOf (state_of old.machine) its thread → trust ≡ Nothing → IsNearer p its first second

    next : OnTold a m IsNext
    next = told_both a m (λ x y. IsWalked x y o p) (SpaceTries o p first thread by r) IsNext
        (λ old new one two. record {
          one = one;
          so = λ owned its is_of nothing.
              let s = start old o thread trust first by try owned its is_of nothing in
              let got : IsSpaceTried new p its first thread (Ok (Some second)) = subst (IsSpaceTried new p its first thread) is (two owned its s.kernel is_of s.there s.nothing) in
              got;
        }) walked.told tries

    -- what comes of trying it
    record IsSecond (q : Known) (s : Result (Option SpaceNo) Refused) (old new : Recorded) : Type 0 where
      one : IsWalked old new o q
      so : IsOwned old o → (its : SpaceNo) → IsThreadOf (state_of old.machine) its thread → trust ≡ Nothing → IsSpaceTried new q its second thread s
      kernel : IsOwned old o → (its : SpaceNo) → IsThreadOf (state_of old.machine) its thread → trust ≡ Nothing → slice_get q.spaces second.0 ≡ slice_get q.spaces its.0

    module _ (n : Option Recorded) (q : Known) (s : Result (Option SpaceNo) Refused) (onward : AreWalked m n p q) (tries_then : OnTold m n (SpaceTries p q second thread Nothing s)) where
      then_second : OnTold a n (IsSecond q s)
      then_second =
          let on = told_both m n (λ x y. IsWalked x y p q) (SpaceTries p q second thread Nothing s) (λ x y. IsWalked x y p q × SpaceTries p q second thread Nothing s x y) (λ x y one two. (one, two)) onward.told tries_then in
          told_twice a m n IsNext (λ x y. IsWalked x y p q × SpaceTries p q second thread Nothing s x y) (IsSecond q s)
          (λ x y z first_so second_so.
          let on_all : IsWalked x z o q = further x y z o p q first_so.one second_so.0 in
          let there : IsOwned x o → (its : SpaceNo) → IsThreadOf (state_of x.machine) its thread → trust ≡ Nothing → slice_get (state_of y.machine).spaces second.0 ≡ slice_get (state_of y.machine).spaces its.0 =
          λ owned its is_of nothing. subst (λ (ks : List KernelNo). slice_get ks second.0 ≡ slice_get ks its.0) (spaces_known y p (first_so.one.owned owned)) (first_so.so owned its is_of nothing).kernel in
          record {
            one = on_all;
            so = λ owned its is_of nothing.
                let is_there : IsThreadOf (state_of y.machine) its thread = subst (λ (f : FlatState). IsThreadOf f its thread) (sym first_so.one.state) is_of in
                let k = space_there y (first_so.one.owned owned).sound its thread is_there in
                second_so.1 (first_so.one.owned owned) its k.0 is_there (there owned its is_of nothing ∙ k.1) refl;
            kernel = λ owned its is_of nothing.
                subst (λ (ks : List KernelNo). slice_get ks second.0 ≡ slice_get ks its.0) (sym (spaces_known z q (on_all.owned owned)))
                (subst (λ (f : FlatState). slice_get f.spaces second.0 ≡ slice_get f.spaces its.0) (sym second_so.0.state) (there owned its is_of nothing));
          }) next on

      pub found_second : s ≡ Ok None → OnTold a n (Finds o q thread trust (Ok second))
      found_second end = told_once a n (IsSecond q s) (Finds o q thread trust (Ok second))
          (λ old new all owned its is_of nothing.
          let got : IsSpaceTried new q its second thread (Ok None) = subst (IsSpaceTried new q its second thread) end (all.so owned its is_of nothing) in
          (sym got.0, got.1)) then_second

      pub second_wants : (w : Refused) (result : Result SpaceNo Refused) → s ≡ Err w → result ≡ Err w → OnTold a n (Finds o q thread trust result)
      second_wants w result end so = told_once a n (IsSecond q s) (Finds o q thread trust result)
          (λ old new all owned its is_of nothing.
          subst (IsFound new q its thread) (sym so) (let got : IsSpaceTried new q its second thread (Err w) = subst (IsSpaceTried new q its second thread) end (all.so owned its is_of nothing) in got)) then_second

      -- the third one is its own
      module _ (third : SpaceNo) (end : s ≡ Ok (Some third)) (b : Option Recorded) (v : Known) (u : Result (Unit {0}) Refused) (both : OnTold n b (BothReach q v third thread Nothing u)) where
        third_so : OnTold a b (λ old new. IsOwned old o → (its : SpaceNo) → IsThreadOf (state_of old.machine) its thread → trust ≡ Nothing → (third ≡ its) × AreBothGot new v its third thread u)
        third_so = told_twice a n b (IsSecond q s) (BothReach q v third thread Nothing u) (λ old new. IsOwned old o → (its : SpaceNo) → IsThreadOf (state_of old.machine) its thread → trust ≡ Nothing → (third ≡ its) × AreBothGot new v its third thread u)
            (λ x y z all got owned its is_of nothing.
            let nearer : IsNearer q its second third = subst (IsSpaceTried y q its second thread) end (all.so owned its is_of nothing) in
            let same : third ≡ its = nearer.space (all.kernel owned its is_of nothing) in
            let is_there : IsThreadOf (state_of y.machine) its thread = subst (λ (f : FlatState). IsThreadOf f its thread) (sym all.one.state) is_of in
            let k = space_there y (all.one.owned owned).sound its thread is_there in
            (same, got (all.one.owned owned) its k.0 is_there (ap (λ (sp : SpaceNo). slice_get (state_of y.machine).spaces sp.0) same ∙ k.1) refl)) then_second both

        pub found_third : (done : Unit {0}) → u ≡ Ok done → OnTold a b (Finds o v thread trust (Ok third))
        found_third done got = told_once a b (λ old new. IsOwned old o → (its : SpaceNo) → IsThreadOf (state_of old.machine) its thread → trust ≡ Nothing → (third ≡ its) × AreBothGot new v its third thread u) (Finds o v thread trust (Ok third))
            (λ old new all owned its is_of nothing.
            let so = all owned its is_of nothing in
            let reached : AreBothGot new v its third thread (Ok done) = subst (AreBothGot new v its third thread) got so.1 in
            (so.0, reached.1)) third_so

        pub third_wants : (w : Refused) (result : Result SpaceNo Refused) → u ≡ Err w → result ≡ Err w → OnTold a b (Finds o v thread trust result)
        third_wants w result got is_result = told_once a b (λ old new. IsOwned old o → (its : SpaceNo) → IsThreadOf (state_of old.machine) its thread → trust ≡ Nothing → (third ≡ its) × AreBothGot new v its third thread u) (Finds o v thread trust result)
            (λ old new all owned its is_of nothing.
            let so = all owned its is_of nothing in
            let away : IsTurnedAway v its third w = subst (AreBothGot new v its third thread) got so.1 in
            subst (IsFound new v its thread) (sym is_result) (away.mine (sym so.0))) third_so
