-- Calls that gentle walks make, and walks to a thread whose space is known.
use Rattle.std.proofs.Common.{◌≡◌, ℕ, List, Option, Some, None, is_some, slice_get, refl, sym, ap, ◌∙◌, subst}
use Rattle.std.specs.Prelude.{Result, Ok, Err, IsSome, OnErr, OnOk}
use Rattle.std.specs.Map.{lookup}
use Rattle.cache_ident.specs.declared.idents.Ident.{Ident}
use Rattle.cache_ident.specs.declared.names.KernelNo.{KernelNo}
use Rattle.cache_ident.specs.declared.names.Name.TheVariants as name
use Rattle.cache_ident.specs.declared.names.SpaceNo.{SpaceNo}
use Rattle.cache_ident.specs.declared.names.ThreadNo.{ThreadNo}
use Rattle.owners.specs.run_journal.specs.Legal.{first_ident}
use Rattle.page_laws.specs.board_ops.specs.declared.refusals.Refused.{Refused}
use Rattle.page_laws.specs.cached_machine.specs.Cached.{state_of}
use Rattle.page_laws.specs.cached_machine.specs.Posts.{mark_of}
use Rattle.page_laws.specs.board_core.specs.Core.{contents_of, Recorded}
use Rattle.page_laws.specs.board_checks.specs.Refusals.{refusal_of_load_kernel, refusal_of_load_space, refusal_of_load_thread}
use Rattle.owners.specs.Keys.{is_thread}
use Rattle.owners.specs.Known.{ident_of, space_of, IsSpaceLearnt, Known}
use Rattle.owners.specs.Owning.{IsThreadOf}
use Rattle.owner_ports.specs.Boards.{OnTold}
use Rattle.page_laws.proofs.Kept.{keeps_kernel, keeps_same, keeps_space, keeps_thread}
use Rattle.page_laws.specs.reach_laws.specs.Reaching.{IsOwned}
use Rattle.page_laws.specs.reach_laws.specs.Searching.{space_told}
use Rattle.page_laws.specs.reach_laws.proofs.Owning.{space_known, spaces_known}
use Rattle.page_laws.specs.reach_laws.proofs.Showing.{space_there}
use Rattle.app_kernel.specs.declared.walk.Trust.{Trust}
use Rattle.app_kernel.specs.declared.walk.Trust.TheVariants.{Noted, Nothing}
use Rattle.app_kernel.specs.Pages.{AreGentle, IsGentle}
use Rattle.app_kernel.specs.Walks.{AreBothGot, AreWalked, BothReach, IsTurnedAway, IsWalked, SpaceTries}
use Rattle.app_kernel.proofs.Changes.{told_both, told_here, told_once, told_twice}
use Rattle.app_kernel.proofs.FindLaws.{IsFirstTry}
use Rattle.app_kernel.proofs.ReachLaws.{answer_so, KernelCall, SpaceCall, ThreadCall}
use Rattle.app_kernel.proofs.WalkLaws.{further}

-- ---- nothing

pub gentle_here : (space : SpaceNo) (b : Option Recorded) (o : Known) → AreGentle space b b o o
gentle_here space b o = record {
  told = told_here b (λ x y. IsGentle space x y o o)
      (λ x. record {
        walked = record { owned = λ was. was; state = refl; steps = λ was. refl; limit = refl };
        marks = λ no cpu is. is;
        keeps = λ owned. keeps_same space x;
      });
}

-- ---- a load, of which owners took what they did

module _ (a b : Option Recorded) (o p : Known) (answer : Result Ident Refused) (space : SpaceNo) (walked : AreWalked a b o p) where
  pub kernel_gentle : (kernel : KernelNo) → ((its : KernelNo) → slice_get o.spaces space.0 ≡ Some its → kernel ≡ its) → OnTold a b (KernelCall kernel answer) → AreGentle space a b o p
  kernel_gentle kernel same call = record {
    told = told_both a b (KernelCall kernel answer) (λ x y. IsWalked x y o p) (λ x y. IsGentle space x y o p)
        (λ x y made one. record {
          walked = one;
          marks = made.call.on.marks;
          keeps = λ owned.
              keeps_kernel space (refusal_of_load_kernel (contents_of x) first_ident kernel) x y owned.sound answer kernel
              (λ its is. same its (ap (λ (ks : List KernelNo). slice_get ks space.0) (spaces_known x o owned) ∙ is))
              (answer_so (refusal_of_load_kernel (contents_of x) first_ident kernel) (name.Kernel kernel) x y answer made);
        }) call walked.told;
  }

  pub space_gentle : (caller : Ident) → OnTold a b (SpaceCall caller space answer) → AreGentle space a b o p
  space_gentle caller call = record {
    told = told_both a b (SpaceCall caller space answer) (λ x y. IsWalked x y o p) (λ x y. IsGentle space x y o p)
        (λ x y made one. record {
          walked = one;
          marks = made.call.on.marks;
          keeps = λ owned. keeps_space space (refusal_of_load_space (contents_of x) caller space) x y owned.sound answer (answer_so (refusal_of_load_space (contents_of x) caller space) (name.Space space) x y answer made);
        }) call walked.told;
  }

  pub thread_gentle : (caller parent : Ident) (thread : ThreadNo) → ident_of o (name.Space space) ≡ Some parent → OnTold a b (ThreadCall caller parent thread answer) → AreGentle space a b o p
  thread_gentle caller parent thread noted call = record {
    told = told_both a b (ThreadCall caller parent thread answer) (λ x y. IsWalked x y o p) (λ x y. IsGentle space x y o p)
        (λ x y made one. record {
          walked = one;
          marks = made.call.on.marks;
          keeps = λ owned. keeps_thread space x y o owned caller parent noted thread answer (answer_so (refusal_of_load_thread (contents_of x) caller parent thread) (name.Thread thread) x y answer made);
        }) call walked.told;
  }

-- ---- a thread whose space is known

-- it is known still
pub known_same : (o p : Known) (thread : ThreadNo) → p.threads ≡ o.threads → IsSome (space_of o thread) → IsSome (space_of p thread)
known_same o p thread same known = subst (λ (ts : List (ThreadNo × SpaceNo)). IsSome (lookup (is_thread thread) ts)) (sym same) known

pub known_learnt : {E : Type 0} (r : Result (Unit {0}) E) (o p : Known) (space : SpaceNo) (thread : ThreadNo) → OnOk r (IsSpaceLearnt thread space o p) → OnErr r (p ≡ o) → IsSome (space_of o thread) → IsSome (space_of p thread)
known_learnt (Ok done) o p space thread ok err known = ap (λ (x : Option SpaceNo). is_some x) ok.its
known_learnt (Err e) o p space thread ok err known = subst (λ (x : Known). IsSome (space_of x thread)) (sym err) known

-- a walk to a thread of the space doesn't tell of another
abbrev pub StaysHome : Known → SpaceNo → ThreadNo → Option SpaceNo → Recorded → Recorded → Type 0
StaysHome o space thread told old new = IsOwned old o → IsThreadOf (state_of old.machine) space thread → told ≡ None

pub mine_found : (a b : Option Recorded) (o p : Known) (space : SpaceNo) (thread : ThreadNo) → AreWalked a b o p → OnTold a b (StaysHome o space thread None)
mine_found a b o p space thread walked = told_once a b (λ x y. IsWalked x y o p) (StaysHome o space thread None) (λ x y _ owned of. refl) walked.told

pub mine_told : (a b : Option Recorded) (o p : Known) (space : SpaceNo) (thread : ThreadNo) (trust : Trust) (r : Result (Unit {0}) Refused) (w : Refused) (next : SpaceNo) → OnTold a b (BothReach o p space thread trust r) → trust ≡ Nothing → r ≡ Err w → Some next ≡ space_told p w
    → OnTold a b (StaysHome o space thread (Some next))
mine_told a b o p space thread trust r w next both nothing is told = told_once a b (BothReach o p space thread trust r) (StaysHome o space thread (Some next))
    (λ x y got owned of.
    let k = space_there x owned.sound space thread of in
    let away : IsTurnedAway p space space w = subst (AreBothGot y p space space thread) is (got owned space k.0 of k.1 nothing) in
    told ∙ ap (space_told p) (away.mine refl)) both

-- by what is noted, nothing is said of a space that is tried
pub noted_tries : (a b : Option Recorded) (o p : Known) (space : SpaceNo) (thread : ThreadNo) (trust : Trust) (r : Result (Unit {0}) Refused) (result : Result (Option SpaceNo) Refused) → trust ≡ Noted → OnTold a b (BothReach o p space thread trust r) → OnTold a b (SpaceTries o p space thread trust result)
noted_tries a b o p space thread trust r result noted both = told_once a b (BothReach o p space thread trust r) (SpaceTries o p space thread trust result)
    (λ x y _ owned its kernel is of nothing. absurd (let clash : Noted ≡ Nothing = sym noted ∙ nothing in cc)) both

-- ---- a thread that is looked for

-- a walk that gave no thread a processor
record IsCalm (o p : Known) (old new : Recorded) : Type 0 where
  walked : IsWalked old new o p
  marks : (no : ThreadNo) (cpu : ℕ) → mark_of (contents_of new) no ≡ Some cpu → mark_of (contents_of old) no ≡ Some cpu

calm : (space : SpaceNo) (a b : Option Recorded) (o p : Known) → AreGentle space a b o p → OnTold a b (IsCalm o p)
calm space a b o p gentle = told_once a b (λ x y. IsGentle space x y o p) (IsCalm o p) (λ x y one. record { walked = one.walked; marks = one.marks }) gentle.told

calm_on : (a b c : Option Recorded) (o p q : Known) → OnTold a b (IsCalm o p) → OnTold b c (IsCalm p q) → OnTold a c (IsCalm o q)
calm_on a b c o p q first second = told_twice a b c (IsCalm o p) (IsCalm p q) (IsCalm o q)
    (λ x y z one two. record { walked = further x y z o p q one.walked two.walked; marks = λ no cpu is. one.marks no cpu (two.marks no cpu is) }) first second

module _ (o : Known) (thread : ThreadNo) (trust : Trust) (first : SpaceNo) (by : Trust) (try : IsFirstTry o thread trust first by) (space : SpaceNo) (known : space_of o thread ≡ Some space) where
  -- the first space is its own
  pub gentle_first : (a b : Option Recorded) (p : Known) → AreGentle first a b o p → AreGentle space a b o p
  gentle_first a b p gentle = subst (λ (s : SpaceNo). AreGentle s a b o p) (try.known space known).0 gentle

  -- and so none is tried behind it
  module _ (a m : Option Recorded) (p : Known) (second : SpaceNo) (gentle : AreGentle first a m o p) (mine : OnTold a m (StaysHome o first thread (Some second))) where
    record IsAway (old new : Recorded) : Type 0 where
      calm : IsCalm o p old new
      never : IsOwned old o → ⊥

    away : OnTold a m IsAway
    away = told_both a m (IsCalm o p) (StaysHome o first thread (Some second)) IsAway
        (λ x y one stays. record {
          calm = one;
          never = λ owned. let clash : Some second ≡ None = stays owned (subst (λ (s : SpaceNo). IsThreadOf (state_of x.machine) s thread) (sym (try.known space known).0) (space_known x o owned thread space known)) in cc;
        }) (calm first a m o p gentle) mine

    never_behind : (n : Option Recorded) (q : Known) → OnTold m n (IsCalm p q) → AreGentle space a n o q
    never_behind n q then_calm = record {
      told = told_twice a m n IsAway (IsCalm p q) (λ x y. IsGentle space x y o q)
          (λ x y z one two. record {
            walked = further x y z o p q one.calm.walked two.walked;
            marks = λ no cpu is. one.calm.marks no cpu (two.marks no cpu is);
            keeps = λ owned. absurd (one.never owned);
          }) away then_calm;
    }

    pub gentle_second : (n : Option Recorded) (q : Known) → AreGentle second m n p q → AreGentle space a n o q
    gentle_second n q onward = never_behind n q (calm second m n p q onward)

    pub gentle_third : (n b : Option Recorded) (q v : Known) (third : SpaceNo) → AreGentle second m n p q → AreGentle third n b q v → AreGentle space a b o v
    gentle_third n b q v third onward last = never_behind b v (calm_on m n b p q v (calm second m n p q onward) (calm third n b q v last))
