-- A fault that is served: the first try ends it, or memory is wanted.
use Rattle.std.proofs.Common.{◌≡◌, Bool, true, false, Option, Some, None, refl, sym, ap, ◌∙◌, subst, inl, inr}
use Rattle.std.specs.Prelude.{IfSome, Result, Ok, Err}
use Rattle.std.specs.Option.{option_map}
use Rattle.std.proofs.lemmas.Option.{same_Some}
use Rattle.cache_ident.specs.declared.names.SpaceNo.{SpaceNo}
use Rattle.cache_ident.specs.declared.names.ThreadNo.{ThreadNo}
use Rattle.cache_ident.specs.declared.names.Vpn.{Vpn}
use Rattle.rv32_exec.specs.declared.statuses.Status.TheVariants as statuses
use Rattle.owners.specs.flat_state.specs.declared.records.FlatThread.{FlatThread}
use Rattle.owners.specs.flat_state.specs.State.{is_ready}
use Rattle.page_laws.specs.board_ops.specs.declared.refusals.Refused.{Refused}
use Rattle.page_laws.specs.board_ops.specs.declared.refusals.Refused.TheVariants as why
use Rattle.page_laws.specs.board_core.specs.Core.{Recorded}
use Rattle.owner_ports.specs.Boards.{OnTold}
use Rattle.owners.specs.Known.{space_of, Known}
use Rattle.page_laws.specs.reach_laws.specs.Filling.{IsFillable, IsUnfillable}
use Rattle.page_laws.specs.reach_laws.specs.Reaching.{IsOwned}
use Rattle.app_kernel.specs.declared.serving.Served.{Served}
use Rattle.app_kernel.specs.declared.serving.Served.TheVariants as served
use Rattle.app_kernel.specs.Pages.{IsFaulted, TryConfirms, TryFills}
use Rattle.app_kernel.specs.Serving.{IsEnded, IsToldOf, ServeConfirms, ServeFills}
use Rattle.app_kernel.specs.Walks.{AreWalked}
use Rattle.app_kernel.proofs.Changes.{told_from, told_once, told_twice}
use Rattle.app_kernel.proofs.ServeLaws.{begun, ended_so, HasBegun, TellsWhether}

-- a page of the thread's space whose row is to be loaded
abbrev pub ToFill : SpaceNo → ThreadNo → Vpn → Known → Recorded → Type 0
ToFill space thread vpn o b = (space_of o thread ≡ Some space) × IsFillable b space vpn

-- a fault of the thread on a page of its space of which nothing is to be loaded
abbrev pub ToConfirm : SpaceNo → ThreadNo → Vpn → Known → Recorded → Type 0
ToConfirm space thread vpn o b = (space_of o thread ≡ Some space) × (IsFaulted b space thread × IsUnfillable b space vpn)

-- nothing was called yet
pub record IsAtStart (a b : Option Recorded) (o p : Known) (last : Refused) : Type 0 where
  pub board : b ≡ a
  pub owners : p ≡ o
  pub nothing : last ≡ why.NoMemory

-- where a board is so, nothing was called yet: the first try ended the serve
abbrev pub IsStill : Option Recorded → Option Recorded → Known → Known → Refused → (Recorded → Type 0) → Type 0
IsStill a b o p last is = IfSome a (λ x. IsOwned x o → is x → IsAtStart a b o p last)

pub still_begun : (a m : Option Recorded) (o : Known) (thread : ThreadNo) (over : Bool) (is : Recorded → Type 0) → OnTold a m (λ old new. IsToldOf thread old new over) → IsStill a m o o why.NoMemory is
still_begun None m o thread over is asked = tt
still_begun (Some x) None o thread over is asked = absurd asked
still_begun (Some x) (Some y) o thread over is asked = λ owned so. record { board = ap (λ (v : Recorded). Some v) asked.same; owners = refl; nothing = refl }

-- a try that was refused for another reason than memory
still_on : (a b c : Option Recorded) (o p q : Known) (last w : Refused) (is : Recorded → Type 0) (tries : Known → Recorded → Recorded → Type 0) → (w ≡ why.NoMemory → ⊥) → ((x z : Recorded) → IsOwned x o → is x → tries o x z → w ≡ why.NoMemory)
    → IsStill a b o p last is → OnTold b c (tries p) → IsStill a c o q w is
still_on None b c o p q last w is tries memory ends still try = tt
still_on (Some x) b c o p q last w is tries memory ends still try = λ owned so.
    let start = still owned so in
    absurd (memory (by c x owned so (subst (λ (k : Known). OnTold (Some x) c (tries k)) start.owners (subst (λ (v : Option Recorded). OnTold v c (tries p)) start.board try))))
  where
    by : (v : Option Recorded) (x : Recorded) → IsOwned x o → is x → OnTold (Some x) v (tries o) → w ≡ why.NoMemory
    by None x owned so told = absurd told
    by (Some z) x owned so told = ends x z owned so told

module _ (a b c : Option Recorded) (o p q : Known) (thread : ThreadNo) (space : SpaceNo) (vpn : Vpn) (last w : Refused) (r : Result Served Refused) (is : r ≡ Err w) (memory : w ≡ why.NoMemory → ⊥) where
  pub still_to_fill : IsStill a b o p last (ToFill space thread vpn o) → OnTold b c (TryFills space thread vpn p r) → IsStill a c o q w (ToFill space thread vpn o)
  still_to_fill still try = still_on a b c o p q last w (ToFill space thread vpn o) (λ k. TryFills space thread vpn k (Err w)) memory
      (λ x z owned so tries. tries so.0 owned so.1) still (subst (λ (t : Result Served Refused). OnTold b c (TryFills space thread vpn p t)) is try)

  pub still_to_confirm : IsStill a b o p last (ToConfirm space thread vpn o) → OnTold b c (TryConfirms space thread vpn p r) → IsStill a c o q w (ToConfirm space thread vpn o)
  still_to_confirm still try = still_on a b c o p q last w (ToConfirm space thread vpn o) (λ k. TryConfirms space thread vpn k (Err w)) memory
      (λ x z owned so tries. tries so.0 owned so.1.0 so.1.1) still (subst (λ (t : Result Served Refused). OnTold b c (TryConfirms space thread vpn p t)) is try)

-- a thread that is ready hasn't ended
never_ended : (b : Recorded) (space : SpaceNo) (thread : ThreadNo) → IsFaulted b space thread → IsEnded b thread → ⊥
never_ended b space thread faulted ended =
    let is : faulted.found.status ≡ statuses.Ended ended.reason = same_Some faulted.found.status (statuses.Ended ended.reason) (sym (ap (option_map (λ (t : FlatThread). t.status)) faulted.there) ∙ ended.status) in
    let clash : true ≡ false = sym faulted.ready ∙ ap is_ready is in
    cc

-- the thread had ended before
module _ (a m : Option Recorded) (o : Known) (thread : ThreadNo) (space : SpaceNo) (vpn : Vpn) (over : Bool) (is : over ≡ true) (asked : OnTold a m (λ old new. IsToldOf thread old new over)) where
  pub ended_filled : OnTold a m (ServeFills thread space vpn o served.Ended)
  ended_filled = told_once a m (TellsWhether thread over) (ServeFills thread space vpn o served.Ended) (λ x y tells known sealed are going fillable. absurd (going (tells.ended.0 is))) asked

  pub ended_confirmed : OnTold a m (ServeConfirms thread space vpn o served.Ended)
  ended_confirmed = told_once a m (TellsWhether thread over) (ServeConfirms thread space vpn o served.Ended) (λ x y tells known sealed are faulted unfillable. absurd (never_ended x space thread faulted (tells.ended.0 is))) asked

module _ (a m b : Option Recorded) (o p : Known) (thread : ThreadNo) (over : Bool) (is : over ≡ false) (asked : OnTold a m (λ old new. IsToldOf thread old new over)) (walked : AreWalked m b o p) (space : SpaceNo) (vpn : Vpn) where
  -- it hadn't
  record HasCome (x y : Recorded) : Type 0 where
    begins : HasBegun thread o p x y
    is_a : a ≡ Some x
    is_b : b ≡ Some y

  come : OnTold a b HasCome
  come = told_from a b (HasBegun thread o p) HasCome (λ x y is_a is_b so. record { begins = so; is_a = is_a; is_b = is_b }) (begun a m b o p thread over is asked walked)

  -- memory is wanted
  pub wanting_filled : OnTold a b (ServeFills thread space vpn o (served.Again why.NoMemory))
  wanting_filled = told_once a b HasCome (ServeFills thread space vpn o (served.Again why.NoMemory)) (λ x y one known sealed are going fillable. inl refl) come

  pub wanting_confirmed : OnTold a b (ServeConfirms thread space vpn o (served.Again why.NoMemory))
  wanting_confirmed = told_once a b HasCome (ServeConfirms thread space vpn o (served.Again why.NoMemory)) (λ x y one known sealed are faulted unfillable. inl refl) come

  at_start : (last : Refused) (so : Recorded → Type 0) → IsStill a b o p last so → (x : Recorded) → a ≡ Some x → IsOwned x o → so x → IsAtStart a b o p last
  at_start last so still x is_a owned it = (subst (λ (v : Option Recorded). IfSome v (λ x. IsOwned x o → so x → IsAtStart a b o p last)) is_a still) owned it

  module _ (last : Refused) (c : Option Recorded) where
    -- the first try ended it
    module _ (answer : Served) (r : Result Served Refused) (ok : r ≡ Ok answer) where
      pub served_filled : IsStill a b o p last (ToFill space thread vpn o) → OnTold b c (TryFills space thread vpn p r) → OnTold a c (ServeFills thread space vpn o answer)
      served_filled still tries =
          told_twice a b c HasCome (TryFills space thread vpn p (Ok answer)) (ServeFills thread space vpn o answer)
          (λ x y z one try known sealed are going fillable.
          let owned = one.begins.owned sealed are in
          let start = at_start last (ToFill space thread vpn o) still x one.is_a owned (known, fillable) in
          let same : y ≡ x = same_Some y x (sym one.is_b ∙ start.board ∙ one.is_a) in
          let tried : TryFills space thread vpn o (Ok answer) x z = subst (λ (v : Recorded). TryFills space thread vpn o (Ok answer) v z) same (subst (λ (k : Known). TryFills space thread vpn k (Ok answer) y z) start.owners try) in
          inr (tried known owned fillable))
          come (subst (λ (t : Result Served Refused). OnTold b c (TryFills space thread vpn p t)) ok tries)

      pub served_confirmed : IsStill a b o p last (ToConfirm space thread vpn o) → OnTold b c (TryConfirms space thread vpn p r) → OnTold a c (ServeConfirms thread space vpn o answer)
      served_confirmed still tries =
          told_twice a b c HasCome (TryConfirms space thread vpn p (Ok answer)) (ServeConfirms thread space vpn o answer)
          (λ x y z one try known sealed are faulted unfillable.
          let owned = one.begins.owned sealed are in
          let start = at_start last (ToConfirm space thread vpn o) still x one.is_a owned (known, (faulted, unfillable)) in
          let same : y ≡ x = same_Some y x (sym one.is_b ∙ start.board ∙ one.is_a) in
          let tried : TryConfirms space thread vpn o (Ok answer) x z = subst (λ (v : Recorded). TryConfirms space thread vpn o (Ok answer) v z) same (subst (λ (k : Known). TryConfirms space thread vpn k (Ok answer) y z) start.owners try) in
          inr (tried known owned faulted unfillable))
          come (subst (λ (t : Result Served Refused). OnTold b c (TryConfirms space thread vpn p t)) ok tries)

    module _ (again : Bool) (asked_again : OnTold b c (λ old new. IsToldOf thread old new again)) where
      -- it has ended since
      pub since_filled : again ≡ true → OnTold a c (ServeFills thread space vpn o served.Ended)
      since_filled ends =
          told_twice a b c HasCome (TellsWhether thread again) (ServeFills thread space vpn o served.Ended)
          (λ x y z one tells known sealed are going fillable. absurd (going (ended_so x y thread one.begins.walked.state (tells.ended.0 ends)))) come asked_again

      pub since_confirmed : again ≡ true → OnTold a c (ServeConfirms thread space vpn o served.Ended)
      since_confirmed ends =
          told_twice a b c HasCome (TellsWhether thread again) (ServeConfirms thread space vpn o served.Ended)
          (λ x y z one tells known sealed are faulted unfillable. absurd (never_ended x space thread faulted (ended_so x y thread one.begins.walked.state (tells.ended.0 ends)))) come asked_again

      -- owners gave up
      pub again_filled : IsStill a b o p last (ToFill space thread vpn o) → OnTold a c (ServeFills thread space vpn o (served.Again last))
      again_filled still =
          told_twice a b c HasCome (TellsWhether thread again) (ServeFills thread space vpn o (served.Again last))
          (λ x y z one tells known sealed are going fillable.
          inl (ap (λ (w : Refused). served.Again w) (at_start last (ToFill space thread vpn o) still x one.is_a (one.begins.owned sealed are) (known, fillable)).nothing)) come asked_again

      pub again_confirmed : IsStill a b o p last (ToConfirm space thread vpn o) → OnTold a c (ServeConfirms thread space vpn o (served.Again last))
      again_confirmed still =
          told_twice a b c HasCome (TellsWhether thread again) (ServeConfirms thread space vpn o (served.Again last))
          (λ x y z one tells known sealed are faulted unfillable.
          inl (ap (λ (w : Refused). served.Again w) (at_start last (ToConfirm space thread vpn o) still x one.is_a (one.begins.owned sealed are) (known, (faulted, unfillable))).nothing)) come asked_again
