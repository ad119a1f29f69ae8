-- What gentle walks leave, one behind another.
use Rattle.std.proofs.Common.{◌≡◌, ℕ, ◌<◌, Option, Some, None, slice_get, refl, sym, ap, ◌∙◌, subst}
use Rattle.std.specs.Prelude.{Err}
use Rattle.cache_ident.specs.declared.names.SpaceNo.{SpaceNo}
use Rattle.cache_ident.specs.declared.names.ThreadNo.{ThreadNo}
use Rattle.cache_ident.specs.declared.names.Vpn.{Vpn}
use Rattle.owners.specs.flat_state.specs.NextSteps.{faults, fetch_row}
use Rattle.owners.specs.flat_state.specs.State.{FlatState}
use Rattle.page_laws.specs.board_ops.specs.declared.refusals.Refused.{Refused}
use Rattle.page_laws.specs.cached_machine.specs.Posts.{mark_of}
use Rattle.page_laws.specs.board_core.specs.Core.{contents_of, Recorded}
use Rattle.owner_ports.specs.Boards.{IsCall}
use Rattle.owners.specs.Known.{Known}
use Rattle.page_laws.specs.reach_laws.specs.Filling.{IsFillable, IsUnfillable}
use Rattle.page_laws.specs.reach_laws.specs.Reaching.{IsOwned}
use Rattle.page_laws.proofs.Kept.{keeps_further, keeps_room}
use Rattle.page_laws.proofs.Filled.{fetched_plain, fillable_kept, unfillable_kept}
use Rattle.app_kernel.specs.Pages.{AreGentle, IsFaulted, IsGentle}
use Rattle.app_kernel.specs.Walks.{AreWalked, IsWalked}
use Rattle.app_kernel.proofs.Changes.{told_both, told_twice}
use Rattle.app_kernel.proofs.WalkLaws.{by_refused, further}

-- ---- one behind another

pub gentle_further : (space : SpaceNo) (a b c : Recorded) (o p q : Known) → IsGentle space a b o p → IsGentle space b c p q → IsGentle space a c o q
gentle_further space a b c o p q first second = record {
  walked = further a b c o p q first.walked second.walked;
  marks = λ no cpu is. first.marks no cpu (second.marks no cpu is);
  keeps = λ owned. keeps_further space a b c (first.keeps owned) (second.keeps (first.walked.owned owned));
}

pub gentle_on : (space : SpaceNo) (a b c : Option Recorded) (o p q : Known) → AreGentle space a b o p → AreGentle space b c p q → AreGentle space a c o q
gentle_on space a b c o p q first second = record { told = told_twice a b c (λ x y. IsGentle space x y o p) (λ x y. IsGentle space x y p q) (λ x y. IsGentle space x y o q) (λ x y z. gentle_further space x y z o p q) first.told second.told }

-- owners who learnt something since
pub gentle_as : (space : SpaceNo) (a b : Recorded) (o p q : Known) → IsGentle space a b o p → IsWalked a b o q → IsGentle space a b o q
gentle_as space a b o p q gentle walked = record { walked = walked; marks = gentle.marks; keeps = gentle.keeps }

pub gentle_with : (space : SpaceNo) (a b : Option Recorded) (o p q : Known) → AreGentle space a b o p → AreWalked a b o q → AreGentle space a b o q
gentle_with space a b o p q gentle walked = record { told = told_both a b (λ x y. IsGentle space x y o p) (λ x y. IsWalked x y o q) (λ x y. IsGentle space x y o q) (λ x y. gentle_as space x y o p q) gentle.told walked.told }

-- a call that was refused
pub gentle_refused : {T : Type 0} (space : SpaceNo) (refusal : Option Refused) (does : T → Type 0) (b c : Recorded) (w : Refused) (o : Known) → IsCall refusal does b c (Err w) → IsGentle space b c o o
gentle_refused space refusal does b c w o call = record {
  walked = by_refused refusal does b c w o call;
  marks = call.on.marks;
  keeps = λ owned. keeps_room space b c call.refused.only;
}

-- ---- what stays so

pub fillable_gentle : (home : SpaceNo) (b c : Recorded) (o p : Known) (space : SpaceNo) (vpn : Vpn) → IsGentle home b c o p → IsOwned b o → IsFillable b space vpn → IsFillable c space vpn
fillable_gentle home b c o p space vpn gentle owned is = fillable_kept b c space vpn gentle.walked.state (gentle.keeps owned).absent is

pub unfillable_gentle : (b c : Recorded) (o p : Known) (space : SpaceNo) (vpn : Vpn) → IsGentle space b c o p → IsOwned b o → IsUnfillable b space vpn → IsUnfillable c space vpn
unfillable_gentle b c o p space vpn gentle owned is = unfillable_kept b c space vpn gentle.walked.state (gentle.keeps owned) is

unmarked : (old new : Option ℕ) → ((cpu : ℕ) → new ≡ Some cpu → old ≡ Some cpu) → old ≡ None → new ≡ None
unmarked old None kept none = refl
unmarked old (Some cpu) kept none = absurd (let clash : None ≡ Some cpu = sym none ∙ kept cpu refl in cc)

pub faulted_gentle : (b c : Recorded) (o p : Known) (space : SpaceNo) (thread : ThreadNo) → IsGentle space b c o p → IsOwned b o → IsFaulted b space thread → IsFaulted c space thread
faulted_gentle b c o p space thread gentle owned is = record {
  found = is.found;
  there = ap (λ (s : FlatState). slice_get s.threads thread.0) gentle.walked.state ∙ is.there;
  its = is.its;
  ready = is.ready;
  faulty = ap (λ (s : FlatState). faults s is.found) gentle.walked.state ∙ is.faulty;
  fetch = λ row through.
      let was = ap (λ (s : FlatState). fetch_row s is.found) (sym gentle.walked.state) ∙ through in
      let plain = (gentle.keeps owned).plain row.vpn (fetched_plain b owned.sound is.found row was space is.its (is.fetch row was)) in
      (plain.live.0, plain.live.1, plain.live.3);
  free = unmarked (mark_of (contents_of b) thread) (mark_of (contents_of c) thread) (gentle.marks thread) is.free;
  left = subst (λ (n : ℕ). n < c.limit) (sym (gentle.walked.steps owned)) (subst (λ (n : ℕ). b.steps < n) (sym gentle.walked.limit) is.left);
}
