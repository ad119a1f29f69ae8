-- What is reached, one load behind another.
use Rattle.std.proofs.Common.{◌≡◌, ◌≢◌, ◌⊎◌, ℕ, Bool, true, false, List, Option, Some, None, slice_get, refl, sym, ap, ◌∙◌, subst, inl, inr}
use Rattle.std.specs.Prelude.{◌==◌, if◌then◌else◌, Result, Ok, Err, IfErr, IfOk, OnErr, OnOk}
use Rattle.std.proofs.lemmas.Bool.{eq-eqb, eqb-true}
use Rattle.std.proofs.lemmas.Option.{same_Some}
use Rattle.cache_ident.specs.declared.idents.Ident.{Ident}
use Rattle.cache_ident.specs.declared.names.KernelNo.{KernelNo}
use Rattle.cache_ident.specs.declared.names.Name.{Name}
use Rattle.cache_ident.specs.declared.names.Name.TheVariants as name
use Rattle.cache_ident.specs.declared.names.SpaceNo.{SpaceNo}
use Rattle.cache_ident.specs.declared.names.ThreadNo.{ThreadNo}
use Rattle.cache_ident.specs.Residents.{IsResident}
use Rattle.owners.specs.flat_state.specs.State.{FlatState}
use Rattle.owners.specs.run_journal.specs.Legal.{first_ident}
use Rattle.page_laws.specs.board_ops.specs.declared.refusals.Refused.{Refused}
use Rattle.page_laws.specs.board_ops.specs.declared.refusals.Refused.TheVariants as why
use Rattle.page_laws.specs.cached_machine.specs.Cached.{state_of}
use Rattle.page_laws.specs.desc_stores.specs.Contents.{residents_of}
use Rattle.page_laws.specs.board_core.specs.Core.{contents_of, Recorded}
use Rattle.page_laws.specs.board_checks.specs.Refusals.{refusal_of_load_kernel, refusal_of_load_space, refusal_of_load_thread}
use Rattle.page_laws.specs.board_loads.specs.Loads.{IsLoadedAs}
use Rattle.owners.specs.Known.{ident_of, IsNoted, IsSpaceLearnt, Known}
use Rattle.owners.specs.Owning.{IsThreadOf}
use Rattle.page_laws.specs.board_core.specs.Answers.{IsRefused}
use Rattle.page_laws.specs.owner_laws.specs.Passing.{Passes}
use Rattle.page_laws.specs.owner_laws.proofs.Spaces.{is_of_space}
use Rattle.owner_ports.specs.Boards.{IsRoomyCall, OnTold}
use Rattle.page_laws.specs.reach_laws.specs.Reaching.{kernel_ident, loaded_as, IsGot, IsLoadAnswer, IsOwned, IsReached}
use Rattle.page_laws.specs.reach_laws.specs.Searching.{space_told, IsNearer}
use Rattle.page_laws.specs.reach_laws.proofs.Loading.{kernel_got, space_got, space_is, space_is_told, thread_got}
use Rattle.page_laws.specs.reach_laws.proofs.Owning.{first_live, owned_learnt, reached_learnt, reached_noted, spaces_known}
use Rattle.page_laws.specs.reach_laws.proofs.Showing.{kernel_there, shows, space_there}
use Rattle.app_kernel.specs.declared.walk.Trust.{Trust}
use Rattle.app_kernel.specs.declared.walk.Trust.TheVariants.{Nothing}
use Rattle.app_kernel.specs.Walks.{AreBothGot, AreWalked, BothReach, IsHad, IsKernelGot, IsSpaceGot, IsThreadGot, IsThreadReached, IsTurnedAway, IsWalked, KernelReaches, SpaceReaches, ThreadPasses, ThreadReaches}
use Rattle.app_kernel.proofs.WalkLaws.{further, told_as}
use Rattle.app_kernel.proofs.Changes.{told_both, told_from, told_here, told_once, told_twice}

-- ---- answers

pub answer_so : (refusal : Option Refused) (n : Name) (old new : Recorded) (answer : Result Ident Refused) → IsRoomyCall refusal (λ ident. IsLoadedAs 0 n ident old new) old new answer → IsLoadAnswer refusal n old new answer
answer_so refusal n old new answer call = record { refused = call.call.refused; done = call.call.done; made = call.call.made }

-- owners took what was answered
pub record IsTaken (n : Name) (answer : Result Ident Refused) (o p : Known) (result : Result Ident Refused) : Type 0 where
  pub noted : IfOk result (λ ident. IsNoted n ident o p)
  pub taken : IfOk result (λ ident. loaded_as answer ≡ Ok ident)
  pub same : OnErr result (p ≡ o)
  pub failed : IfErr result (λ w. (w ≡ why.NoMemory) ⊎ (loaded_as answer ≡ Err w))

got_so : (b : Recorded) (n : Name) (answer : Result Ident Refused) (o p : Known) (result : Result Ident Refused) → IsTaken n answer o p result → IsGot b n (loaded_as answer) → IsGot b n result
got_so b n answer o p (Ok ident) take got = subst (IsGot b n) take.taken got
got_so b n answer o p (Err w) take got = elim take.failed [ inl wants ↦ wants | inr is ↦ subst (IsGot b n) is got ]

-- ---- kernels

is_first : (kernel : KernelNo) → kernel.0 ≡ 0 → kernel ≡ record { 0 = 0 }
is_first kernel zero = ap (λ (n : ℕ). let x : KernelNo = record { 0 = n } in x) zero

kernel_ident_first : (o : Known) (kernel : KernelNo) → kernel.0 ≡ 0 → kernel_ident o kernel ≡ Some first_ident
kernel_ident_first o kernel zero = ap (λ (t : Bool). if t then Some first_ident else ident_of o (name.Kernel kernel)) (eq-eqb kernel.0 0 zero)

kernel_ident_later : (o : Known) (kernel : KernelNo) → kernel.0 ≢ 0 → kernel_ident o kernel ≡ ident_of o (name.Kernel kernel)
kernel_ident_later o kernel later = by (kernel.0 == 0) refl
  where
    by : (t : Bool) → (kernel.0 == 0) ≡ t → (if t then Some first_ident else ident_of o (name.Kernel kernel)) ≡ ident_of o (name.Kernel kernel)
    by true is = absurd (later (eqb-true kernel.0 0 is))
    by false is = refl

pub first_reached : (b : Option Recorded) (o : Known) (trust : Trust) (kernel : KernelNo) → kernel.0 ≡ 0
    → OnTold b b (λ old new. IsOwned old o → (n : ℕ) → slice_get (state_of old.machine).spaces n ≡ Some kernel → trust ≡ Nothing → IsKernelGot new o kernel (Ok first_ident))
first_reached b o trust kernel zero =
    told_here b (λ old new. IsOwned old o → (n : ℕ) → slice_get (state_of old.machine).spaces n ≡ Some kernel → trust ≡ Nothing → IsKernelGot new o kernel (Ok first_ident))
    (λ x owned n its nothing. (kernel_ident_first o kernel zero, subst (λ (k : KernelNo). IsResident (residents_of (contents_of x)) first_ident (name.Kernel k)) (sym (is_first kernel zero)) (first_live x o owned)))

abbrev pub KernelCall : KernelNo → Result Ident Refused → Recorded → Recorded → Type 0
KernelCall kernel answer old new = IsRoomyCall (refusal_of_load_kernel (contents_of old) first_ident kernel) (λ ident. IsLoadedAs 0 (name.Kernel kernel) ident old new) old new answer

kernel_so : (b c : Recorded) (o p : Known) (kernel : KernelNo) (answer result : Result Ident Refused) → kernel.0 ≢ 0 → KernelCall kernel answer b c → IsTaken (name.Kernel kernel) answer o p result → IsOwned b o → (n : ℕ) → slice_get (state_of b.machine).spaces n ≡ Some kernel → IsKernelGot c p kernel result
kernel_so b c o p kernel answer result later call take owned n its =
    let k = kernel_there b owned.sound n kernel its in
    let got = kernel_got b c o owned kernel k.0 k.1 answer (answer_so (refusal_of_load_kernel (contents_of b) first_ident kernel) (name.Kernel kernel) b c answer call) in
    by result take (got_so c (name.Kernel kernel) answer o p result take got)
  where
    by : (r : Result Ident Refused) → IsTaken (name.Kernel kernel) answer o p r → IsGot c (name.Kernel kernel) r → IsKernelGot c p kernel r
    by (Ok ident) t got = (kernel_ident_later p kernel later ∙ t.noted.its, got)
    by (Err w) t got = got

pub kernel_reached : (a b : Option Recorded) (o p : Known) (trust : Trust) (kernel : KernelNo) (answer result : Result Ident Refused) → kernel.0 ≢ 0 → OnTold a b (KernelCall kernel answer) → IsTaken (name.Kernel kernel) answer o p result
    → OnTold a b (λ old new. IsOwned old o → (n : ℕ) → slice_get (state_of old.machine).spaces n ≡ Some kernel → trust ≡ Nothing → IsKernelGot new p kernel result)
kernel_reached a b o p trust kernel answer result later call take =
    told_once a b (KernelCall kernel answer) (λ old new. IsOwned old o → (n : ℕ) → slice_get (state_of old.machine).spaces n ≡ Some kernel → trust ≡ Nothing → IsKernelGot new p kernel result)
    (λ old new made owned n its nothing. kernel_so old new o p kernel answer result later made take owned n its) call

-- the kernel of a space is the one that owners know
pub kernel_of_reached : (a b : Option Recorded) (o p : Known) (space : SpaceNo) (trust : Trust) (kernel : KernelNo) (result : Result Ident Refused) → ((its : KernelNo) → slice_get o.spaces space.0 ≡ Some its → kernel ≡ its)
    → OnTold a b (λ old new. IsOwned old o → (n : ℕ) → slice_get (state_of old.machine).spaces n ≡ Some kernel → trust ≡ Nothing → IsKernelGot new p kernel result)
    → OnTold a b (λ old new. IsOwned old o → (its : KernelNo) → slice_get (state_of old.machine).spaces space.0 ≡ Some its → trust ≡ Nothing → IsKernelGot new p its result)
kernel_of_reached a b o p space trust kernel result same reaches =
    told_once a b (λ old new. IsOwned old o → (n : ℕ) → slice_get (state_of old.machine).spaces n ≡ Some kernel → trust ≡ Nothing → IsKernelGot new p kernel result) (λ old new. IsOwned old o → (its : KernelNo) → slice_get (state_of old.machine).spaces space.0 ≡ Some its → trust ≡ Nothing → IsKernelGot new p its result)
    (λ x y so owned its of nothing.
    let is : kernel ≡ its = same its (ap (λ (ks : List KernelNo). slice_get ks space.0) (spaces_known x o owned) ∙ of) in
    subst (λ (k : KernelNo). IsKernelGot y p k result) is (so owned space.0 (of ∙ ap (λ (k : KernelNo). Some k) (sym is)) nothing)) reaches

-- ---- spaces

abbrev pub SpaceCall : Ident → SpaceNo → Result Ident Refused → Recorded → Recorded → Type 0
SpaceCall caller space answer old new = IsRoomyCall (refusal_of_load_space (contents_of old) caller space) (λ ident. IsLoadedAs 0 (name.Space space) ident old new) old new answer

kernel_ident_noted : (o p : Known) (space : SpaceNo) (ident : Ident) (kernel : KernelNo) → IsNoted (name.Space space) ident o p → kernel_ident p kernel ≡ kernel_ident o kernel
kernel_ident_noted o p space ident kernel noted = ap (λ (i : Option Ident). if kernel.0 == 0 then Some first_ident else i) (noted.other_idents (name.Kernel kernel) (λ same. absurd (cc)))

space_so : (b c : Recorded) (o p : Known) (caller : Ident) (kernel : KernelNo) (space : SpaceNo) (answer result : Result Ident Refused) → SpaceCall caller space answer b c → IsTaken (name.Space space) answer o p result → IsOwned b o
    → slice_get (state_of b.machine).spaces space.0 ≡ Some kernel → IsKernelGot b o kernel (Ok caller) → state_of c.machine ≡ state_of b.machine → IsSpaceGot c p space result
space_so b c o p caller kernel space answer result call take owned its up same =
    let got = space_got b c o owned space kernel caller its up.1 answer (answer_so (refusal_of_load_space (contents_of b) caller space) (name.Space space) b c answer call) in
    by result take (got_so c (name.Space space) answer o p result take got.0) got.1
  where
    by : (r : Result Ident Refused) → IsTaken (name.Space space) answer o p r → IsGot c (name.Space space) r → IsResident (residents_of (contents_of c)) caller (name.Kernel kernel) → IsSpaceGot c p space r
    by (Ok ident) t here still = record {
      kernel = kernel;
      its = ap (λ (s : FlatState). slice_get s.spaces space.0) same ∙ its;
      caller = caller;
      caller_known = kernel_ident_noted o p space ident kernel t.noted ∙ up.0;
      caller_live = still;
      parent = ident;
      parent_known = t.noted.its;
      parent_live = here;
    }
    by (Err w) t wants still = wants

-- its kernel isn't reached
pub space_unreached : (a b : Option Recorded) (o p : Known) (space : SpaceNo) (trust : Trust) (w : Refused) (r result : Result Ident Refused) → OnTold a b (KernelReaches o p space trust r) → r ≡ Err w → result ≡ Err w → OnTold a b (SpaceReaches o p space trust result)
space_unreached a b o p space trust w r result up is so =
    told_once a b (KernelReaches o p space trust r) (SpaceReaches o p space trust result)
    (λ old new reaches owned its of nothing. subst (IsSpaceGot new p space) (sym so) (let wants : IsKernelGot new p its (Err w) = subst (IsKernelGot new p its) is (reaches owned its of nothing) in wants)) up

pub space_reached : (a m b : Option Recorded) (o p q : Known) (space : SpaceNo) (trust : Trust) (caller : Ident) (r answer result : Result Ident Refused) → AreWalked a m o p → OnTold a m (KernelReaches o p space trust r) → r ≡ Ok caller
    → OnTold m b (SpaceCall caller space answer) → AreWalked m b p q → IsTaken (name.Space space) answer p q result → OnTold a b (SpaceReaches o q space trust result)
space_reached a m b o p q space trust caller r answer result walked up is call onward take =
    let at = told_both a m (λ x y. IsWalked x y o p) (KernelReaches o p space trust r) (λ x y. IsWalked x y o p × KernelReaches o p space trust r x y) (λ x y one two. (one, two)) walked.told up in
    let on = told_both m b (SpaceCall caller space answer) (λ x y. IsWalked x y p q) (λ x y. SpaceCall caller space answer x y × IsWalked x y p q) (λ x y one two. (one, two)) call onward.told in
    told_twice a m b (λ x y. IsWalked x y o p × KernelReaches o p space trust r x y) (λ x y. SpaceCall caller space answer x y × IsWalked x y p q) (SpaceReaches o q space trust result)
    (λ x y z first second owned its of nothing.
    let still : slice_get (state_of y.machine).spaces space.0 ≡ Some its = ap (λ (s : FlatState). slice_get s.spaces space.0) first.0.state ∙ of in
    let kernel : IsKernelGot y p its (Ok caller) = subst (IsKernelGot y p its) is (first.1 owned its of nothing) in
    space_so y z p q caller its space answer result second.0 take (first.0.owned owned) still kernel second.1.state) at on

-- ---- threads

abbrev pub ThreadCall : Ident → Ident → ThreadNo → Result Ident Refused → Recorded → Recorded → Type 0
ThreadCall caller parent thread answer old new = IsRoomyCall (refusal_of_load_thread (contents_of old) caller parent thread) (λ ident. IsLoadedAs 0 (name.Thread thread) ident old new) old new answer

thread_so : (b c : Recorded) (o p : Known) (space : SpaceNo) (reached : IsReached b o space) (thread : ThreadNo) (its : SpaceNo) (answer result : Result Ident Refused) → ThreadCall reached.caller reached.parent thread answer b c → IsTaken (name.Thread thread) answer o p result
    → IsWalked b c o p → IsOwned b o → IsThreadOf (state_of b.machine) its thread → IsThreadGot c p its space thread result
thread_so b c o p space reached thread its answer result call take walked owned is =
    let a : IsLoadAnswer (refusal_of_load_thread (contents_of b) reached.caller reached.parent thread) (name.Thread thread) b c answer = answer_so (refusal_of_load_thread (contents_of b) reached.caller reached.parent thread) (name.Thread thread) b c answer call in
    let k = space_there b owned.sound its thread is in
    by result take a k.0 k.1
  where
    by : (r : Result Ident Refused) → IsTaken (name.Thread thread) answer o p r → IsLoadAnswer (refusal_of_load_thread (contents_of b) reached.caller reached.parent thread) (name.Thread thread) b c answer → (k : KernelNo) → slice_get (state_of b.machine).spaces its.0 ≡ Some k → IsThreadGot c p its space thread r
    by (Ok ident) t a k of =
        let same : its ≡ space = space_is b c o owned space reached thread answer a its is k of ident t.taken in
        let mine : IsThreadOf (state_of b.machine) space thread = subst (λ (x : SpaceNo). IsThreadOf (state_of b.machine) x thread) same is in
        let got = thread_got b c o owned space reached thread answer a mine in
        let live : IsResident (residents_of (contents_of c)) ident (name.Thread thread) = subst (IsGot c (name.Thread thread)) t.taken got.0 in (
          same,
          record {
            reached = reached_noted c o p (name.Thread thread) ident t.noted live space got.1;
            ident = ident;
            known = t.noted.its;
            live = live;
          },
        )
    by (Err w) t a k of =
        record {
          mine = λ same. elim t.failed [
            | inl wants ↦ wants
            | inr told ↦ subst (IsGot c (name.Thread thread)) told (thread_got b c o owned space reached thread answer a (subst (λ (x : SpaceNo). IsThreadOf (state_of b.machine) x thread) same is)).0
          ];
          nearer = elim t.failed [
            | inl wants ↦ inl wants
            | inr told ↦ subst (λ (x : Known). (w ≡ why.NoMemory) ⊎ ((next : SpaceNo) × (space_told x w ≡ Some next) × IsNearer x its space next)) (sym t.same) (space_is_told b c o owned space reached thread answer a its is k of w told)
          ];
        }

-- what is reached is at hand, and so nobody is turned away from it
pub up_away : (a m : Option Recorded) (o p : Known) (space : SpaceNo) (thread : ThreadNo) (trust : Trust) (w : Refused) (up result : Result Ident Refused) → ((its : KernelNo) (ident : Ident) → slice_get o.spaces space.0 ≡ Some its → kernel_ident o its ≡ Some ident → IsHad a m o p ident up)
    → up ≡ Err w → AreWalked a m o p → OnTold a m (ThreadReaches o p space thread trust result)
up_away a m o p space thread trust w up result had_so is walked = told_once a m (λ x y. IsWalked x y o p) (ThreadReaches o p space thread trust result)
    (λ x y _ owned reached its is_of nothing. absurd (
    let first = had_so reached.kernel reached.caller (ap (λ (ks : List KernelNo). slice_get ks space.0) (spaces_known x o owned) ∙ reached.its) reached.caller_known in
    let clash : Err w ≡ Ok reached.caller = sym is ∙ first.its in cc)) walked.told

-- the kernel and the space that are noted are at hand
module _ (a m n : Option Recorded) (o p q : Known) (space : SpaceNo) (up here : Result Ident Refused)
    (kernel_had_so : (its : KernelNo) (ident : Ident) → slice_get o.spaces space.0 ≡ Some its → kernel_ident o its ≡ Some ident → IsHad a m o p ident up)
    (space_had_so : (its : KernelNo) (first ident : Ident) → slice_get p.spaces space.0 ≡ Some its → kernel_ident p its ≡ Some first → ident_of p (name.Space space) ≡ Some ident → IsHad m n p q ident here)
  where
    -- nothing was asked for
    pub record IsAtHand (b : Recorded) (reached : IsReached b o space) : Type 0 where
      pub up_is : up ≡ Ok reached.caller
      pub here_is : here ≡ Ok reached.parent
      pub owners : q ≡ o
      pub board : n ≡ a

    pub at_hand : (b : Recorded) (owned : IsOwned b o) (reached : IsReached b o space) → IsAtHand b reached
    at_hand b owned reached =
        let its : slice_get o.spaces space.0 ≡ Some reached.kernel = ap (λ (ks : List KernelNo). slice_get ks space.0) (spaces_known b o owned) ∙ reached.its in
        let first = kernel_had_so reached.kernel reached.caller its reached.caller_known in
        let second = space_had_so reached.kernel reached.caller reached.parent
        (subst (λ (x : Known). slice_get x.spaces space.0 ≡ Some reached.kernel) (sym first.owners) its)
        (subst (λ (x : Known). kernel_ident x reached.kernel ≡ Some reached.caller) (sym first.owners) reached.caller_known)
        (subst (λ (x : Known). ident_of x (name.Space space) ≡ Some reached.parent) (sym first.owners) reached.parent_known) in
        record {
          up_is = first.its;
          here_is = second.its;
          owners = second.owners ∙ first.owners;
          board = second.board ∙ first.board;
        }

    pub here_away : (thread : ThreadNo) (trust : Trust) (w : Refused) (result : Result Ident Refused) → here ≡ Err w → AreWalked a n o q → OnTold a n (ThreadReaches o q space thread trust result)
    here_away thread trust w result is walked = told_once a n (λ x y. IsWalked x y o q) (ThreadReaches o q space thread trust result)
        (λ x y _ owned reached its is_of nothing. absurd (let clash : Err w ≡ Ok reached.parent = sym is ∙ (at_hand x owned reached).here_is in cc)) walked.told

    module _ (b : Option Recorded) (r : Known) (thread : ThreadNo) (trust : Trust) (caller parent : Ident) (answer result : Result Ident Refused) (up_is : up ≡ Ok caller) (here_is : here ≡ Ok parent) where
      pub thread_reached : AreWalked a n o q → OnTold n b (ThreadCall caller parent thread answer) → AreWalked n b q r → IsTaken (name.Thread thread) answer q r result → OnTold a b (ThreadReaches o r space thread trust result)
      thread_reached walked call onward take =
          let at = told_from a n (λ x y. IsWalked x y o q) (λ x y. (a ≡ Some x) × (n ≡ Some y)) (λ x y is_a is_n _. (is_a, is_n)) walked.told in
          let on = told_both n b (ThreadCall caller parent thread answer) (λ x y. IsWalked x y q r) (λ x y. ThreadCall caller parent thread answer x y × IsWalked x y q r) (λ x y one two. (one, two)) call onward.told in
          told_twice a n b (λ x y. (a ≡ Some x) × (n ≡ Some y)) (λ x y. ThreadCall caller parent thread answer x y × IsWalked x y q r) (ThreadReaches o r space thread trust result)
          (λ x y z first second owned reached its is nothing.
          let hand = at_hand x owned reached in
          let by : caller ≡ reached.caller = let same : Ok caller ≡ Ok reached.caller = sym up_is ∙ hand.up_is in cc in
          let under : parent ≡ reached.parent = let same : Ok parent ≡ Ok reached.parent = sym here_is ∙ hand.here_is in cc in
          let same : y ≡ x = same_Some y x (sym first.1 ∙ hand.board ∙ first.0) in
          let one : ThreadCall caller parent thread answer x z = subst (λ (v : Recorded). ThreadCall caller parent thread answer v z) same second.0 in
          let two : IsWalked x z o r = subst (λ (v : Recorded). IsWalked v z o r) same (subst (λ (k : Known). IsWalked y z k r) hand.owners second.1) in
          let asked : ThreadCall reached.caller reached.parent thread answer x z = subst (λ (i : Ident). ThreadCall i reached.parent thread answer x z) by (subst (λ (i : Ident). ThreadCall caller i thread answer x z) under one) in
          thread_so x z o r space reached thread its answer result asked (subst (λ (k : Known). IsTaken (name.Thread thread) answer k r result) hand.owners take) two owned is) at on

-- a thread whose load passes is one of the space

if_err : {T : Type 0} (refusal : Option Refused) (old new : Recorded) (r : Result T Refused) → IfErr r (IsRefused refusal old new) → IfErr r (λ w. (w ≡ why.NoMemory) ⊎ (refusal ≡ Some w))
if_err refusal old new (Ok t) refused = tt
if_err refusal old new (Err w) refused = refused.why

passes_as : (answer : Result Ident Refused) (ident : Ident) (refusal : Option Refused) → IfErr answer (λ w. (w ≡ why.NoMemory) ⊎ (refusal ≡ Some w)) → OnOk answer (refusal ≡ None) → loaded_as answer ≡ Ok ident → Passes refusal
passes_as (Ok given) ident refusal refused done told_so = inl done
passes_as (Err w) ident refusal refused done told_so = elim refused [
  | inl wants ↦ absurd (let is = told_as w ident told_so in cc)
  | inr tells ↦ inr (ident, tells ∙ ap (λ (x : Refused). Some x) (told_as w ident told_so))
]

same_shown : (refusal : Option Refused) (n : Name) (old new : Recorded) (r : Result Ident Refused) → IsRoomyCall refusal (λ ident. IsLoadedAs 0 n ident old new) old new r → state_of new.machine ≡ state_of old.machine
same_shown refusal n old new (Ok i) made = made.call.made.state
same_shown refusal n old new (Err w) made = made.call.refused.only.only.state

module _ (a m b : Option Recorded) (o p q : Known) (space : SpaceNo) (thread : ThreadNo) (trust : Trust) (caller parent : Ident) (answer : Result Ident Refused) (walked : AreWalked a m o p) (noted : ident_of p (name.Space space) ≡ Some parent) (call : OnTold m b (ThreadCall caller parent thread answer)) where
  passed_with : (ident : Ident) → loaded_as answer ≡ Ok ident → OnTold a b (ThreadPasses o space thread trust)
  passed_with ident taken =
      told_twice a m b (λ x y. IsWalked x y o p) (ThreadCall caller parent thread answer) (ThreadPasses o space thread trust)
      (λ x y z first made owned nothing.
      let mid = first.owned owned in
      let refusal : Option Refused = refusal_of_load_thread (contents_of y) caller parent thread in
      let passes : Passes refusal = passes_as answer ident refusal (if_err refusal y z answer made.call.refused) made.call.done taken in
      let was = is_of_space y p caller parent space thread mid.sound mid.are noted passes in
      subst (λ (s : FlatState). IsThreadOf s space thread) (shows y mid.sound ∙ sym (same_shown refusal (name.Thread thread) y z answer made)) was) walked.told call

  pub thread_passed : (result : Result Ident Refused) → IsTaken (name.Thread thread) answer p q result → IfOk result (λ _. OnTold a b (ThreadPasses o space thread trust))
  thread_passed (Ok ident) take = passed_with ident take.taken
  thread_passed (Err w) take = tt

pub passed_at : (r : Result Ident Refused) (ident : Ident) {P : Type 0} → r ≡ Ok ident → IfOk r (λ _. P) → P
passed_at r ident {P} is passed = subst (λ (x : Result Ident Refused). IfOk x (λ _. P)) is passed

-- ---- a thread with its space

-- what was learnt is so
pub learnt_owned : {E : Type 0} (r : Result (Unit {0}) E) (o p : Known) (space : SpaceNo) (thread : ThreadNo) → OnOk r (IsSpaceLearnt thread space o p) → OnErr r (p ≡ o) → (b : Recorded) → IsOwned b o → IsThreadOf (state_of b.machine) space thread → IsOwned b p
learnt_owned (Ok done) o p space thread ok err b owned is = owned_learnt b o owned p thread space is ok
learnt_owned (Err e) o p space thread ok err b owned is = subst (IsOwned b) (sym err) owned

-- a walk to a thread, whose space is learnt
pub both_walked : (a m b : Option Recorded) (o p q r : Known) (space : SpaceNo) (thread : ThreadNo) (trust : Trust) → AreWalked a m o p → AreWalked m b p q → OnTold m b (ThreadPasses p space thread trust)
    → ((x : Recorded) → IsOwned x q → (trust ≡ Nothing → IsThreadOf (state_of x.machine) space thread) → IsOwned x r) → AreWalked a b o r
both_walked a m b o p q r space thread trust first second passes learns = record {
  told =
      let on = told_both m b (λ x y. IsWalked x y p q) (ThreadPasses p space thread trust) (λ x y. IsWalked x y p q × ThreadPasses p space thread trust x y) (λ x y one two. (one, two)) second.told passes in
      told_twice a m b (λ x y. IsWalked x y o p) (λ x y. IsWalked x y p q × ThreadPasses p space thread trust x y) (λ x z. IsWalked x z o r)
      (λ x y z one two.
      let all = further x y z o p q one two.0 in
      record {
        owned = λ was. learns z (all.owned was) (λ nothing. two.1 (one.owned was) nothing);
        state = all.state;
        steps = all.steps;
        limit = all.limit;
      }) first.told on;
}

thread_learnt : (b : Recorded) (q r : Known) (space : SpaceNo) (thread : ThreadNo) → r.idents ≡ q.idents → IsThreadReached b q space thread → IsThreadReached b r space thread
thread_learnt b q r space thread same is = record {
  reached = reached_learnt b q r space same is.reached;
  ident = is.ident;
  known = same_ident q r (name.Thread thread) same ∙ is.known;
  live = is.live;
}
  where
    same_ident : (q r : Known) (n : Name) → r.idents ≡ q.idents → ident_of r n ≡ ident_of q n
    same_ident q r n same = ap (λ (is : List (Name × Option Ident)). ident_of (record q { idents = is }) n) same

-- who wants memory is turned away for that
away : (o : Known) (its space : SpaceNo) (w : Refused) → w ≡ why.NoMemory → IsTurnedAway o its space w
away o its space w wants = record { mine = λ same. wants; nearer = inl wants }

-- the space isn't reached
pub both_unreached : (a b : Option Recorded) (o p : Known) (space : SpaceNo) (thread : ThreadNo) (trust : Trust) (w : Refused) (r : Result Ident Refused) (result : Result (Unit {0}) Refused) → OnTold a b (SpaceReaches o p space trust r) → r ≡ Err w → result ≡ Err w → OnTold a b (BothReach o p space thread trust result)
both_unreached a b o p space thread trust w r result up is so =
    told_once a b (SpaceReaches o p space trust r) (BothReach o p space thread trust result)
    (λ old new reaches owned its kernel of at nothing. subst (AreBothGot new p its space thread) (sym so) (away p its space w (let wants : IsSpaceGot new p space (Err w) = subst (IsSpaceGot new p space) is (reaches owned kernel at nothing) in wants))) up

module _ (a m b : Option Recorded) (o p q : Known) (space : SpaceNo) (thread : ThreadNo) (trust : Trust) (parent : Ident) (up here : Result Ident Refused) (walked : AreWalked a m o p) (space_so : OnTold a m (SpaceReaches o p space trust up)) (up_is : up ≡ Ok parent) (thread_so : OnTold m b (ThreadReaches p q space thread trust here)) where
  abbrev Both : Recorded → Recorded → Type 0
  Both old new = IsOwned old o → (its : SpaceNo) (kernel : KernelNo) → IsThreadOf (state_of old.machine) its thread → slice_get (state_of old.machine).spaces space.0 ≡ Some kernel → trust ≡ Nothing → IsThreadGot new q its space thread here

  then_thread : OnTold a b Both
  then_thread =
      let at = told_both a m (λ x y. IsWalked x y o p) (SpaceReaches o p space trust up) (λ x y. IsWalked x y o p × SpaceReaches o p space trust up x y) (λ x y one two. (one, two)) walked.told space_so in
      told_twice a m b (λ x y. IsWalked x y o p × SpaceReaches o p space trust up x y) (ThreadReaches p q space thread trust here) Both
      (λ x y z first second owned its kernel is of nothing.
      let reached : IsReached y p space = subst (IsSpaceGot y p space) up_is (first.1 owned kernel of nothing) in
      second (first.0.owned owned) reached its (subst (λ (s : FlatState). IsThreadOf s its thread) (sym first.0.state) is) nothing) at thread_so

  -- the thread isn't
  pub both_away : (w : Refused) (result : Result (Unit {0}) Refused) → here ≡ Err w → result ≡ Err w → OnTold a b (BothReach o q space thread trust result)
  both_away w result is so =
      told_once a b Both (BothReach o q space thread trust result)
      (λ old new both owned its kernel is_of of nothing. subst (AreBothGot new q its space thread) (sym so) (let turned : IsThreadGot new q its space thread (Err w) = subst (IsThreadGot new q its space thread) is (both owned its kernel is_of of nothing) in turned)) then_thread

  -- both are, and what was learnt changes no identifier
  pub both_reached : (ident : Ident) (r : Known) → here ≡ Ok ident → r.idents ≡ q.idents → OnTold a b (BothReach o r space thread trust (Ok tt))
  both_reached ident r is same =
      told_once a b Both (BothReach o r space thread trust (Ok tt))
      (λ old new both owned its kernel is_of of nothing.
      let got : IsThreadGot new q its space thread (Ok ident) = subst (IsThreadGot new q its space thread) is (both owned its kernel is_of of nothing) in
      (got.0, thread_learnt new q r space thread same got.1)) then_thread

  -- both are, and no memory is left to learn it
  pub both_unlearnt : (w : Refused) (r : Known) (result : Result (Unit {0}) Refused) → w ≡ why.NoMemory → result ≡ Err w → OnTold a b (BothReach o r space thread trust result)
  both_unlearnt w r result wants so =
      told_once a b Both (BothReach o r space thread trust result)
      (λ old new both owned its kernel is_of of nothing. subst (AreBothGot new r its space thread) (sym so) (away r its space w wants)) then_thread
