-- What owners of a board have, and keep.
use Rattle.std.proofs.Common.{◌≡◌, Bool, true, false, List, Contains, Option, Some, refl, sym, ap, ◌∙◌, subst, inl, inr}
use Rattle.std.specs.Prelude.{◌==◌, if◌then◌else◌, IfSome}
use Rattle.std.specs.Map.{lookup}
use Rattle.std.specs.Option.{option_flatten}
use Rattle.cache_ident.specs.declared.idents.Ident.{Ident}
use Rattle.cache_ident.specs.declared.names.KernelNo.{KernelNo}
use Rattle.cache_ident.specs.declared.names.Name.{Name}
use Rattle.cache_ident.specs.declared.names.Name.TheVariants as name
use Rattle.cache_ident.specs.declared.names.SpaceNo.{SpaceNo}
use Rattle.cache_ident.specs.declared.names.ThreadNo.{ThreadNo}
use Rattle.cache_ident.specs.declared.names.Vpn.{Vpn}
use Rattle.cache_ident.specs.Names.{first_name}
use Rattle.cache_ident.specs.Residents.{Resident, IsResident}
use Rattle.board_calls.specs.flat_state.specs.State.{FlatState}
use Rattle.board_calls.specs.kind_store.proofs.ContentLemmas.{cases_name}
use Rattle.board_calls.specs.run_journal.specs.Legal.{first_ident}
use Rattle.board_calls.specs.desc_stores.specs.Contents.{residents_of}
use Rattle.board_calls.specs.board_laws.proofs.First.{first, first_there}
use Rattle.board_calls.specs.cached_machine.specs.Cached.{state_of}
use Rattle.board_calls.specs.board_core.specs.Core.{contents_of, IsSound, Recorded}
use Rattle.board_calls.specs.board_core.specs.Going.{Grew}
use Rattle.owner_laws.specs.owners.specs.Keys.{is_name}
use Rattle.owner_laws.specs.owners.specs.Known.{ident_of, receiver_of, space_of, IsNoted, IsReceiverLearnt, IsSpaceLearnt, Known}
use Rattle.owner_laws.specs.owners.specs.Owning.{IsThreadOf}
use Rattle.owner_laws.specs.owners.proofs.Learning.{noted_so, receiver_so, space_so}
use Rattle.owner_laws.proofs.Naming.{owners_stay, was_loaded}
use Rattle.reach_laws.specs.Reaching.{IsOwned, IsReached}
use Rattle.reach_laws.proofs.Showing.{shows}

-- the first kernel is loaded
pub first_live : (b : Recorded) (o : Known) → IsOwned b o → IsResident (residents_of (contents_of b)) first_ident first_name
first_live b o owned =
    let there = first_there b.journal.entries owned.sound.told.legal (owned.sound.told.seal ∙ owned.sealed) in
    (first true, subst (λ (rs : List Resident). Contains rs (first true)) owned.sound.told.residents there.1, refl, refl)

module _ (b : Recorded) (o : Known) (owned : IsOwned b o) where
  -- ---- what they believe is so

  pub spaces_known : o.spaces ≡ (state_of b.machine).spaces
  spaces_known = owned.are.spaces ∙ ap (λ (s : FlatState). s.spaces) (shows b owned.sound)

  pub space_known : (thread : ThreadNo) (space : SpaceNo) → space_of o thread ≡ Some space → IsThreadOf (state_of b.machine) space thread
  space_known thread space known = subst (λ (s : FlatState). IsThreadOf s space thread) (shows b owned.sound) (owned.are.threads thread space known)

  pub receiver_known : (space : SpaceNo) (vpn : Vpn) (receiver : ThreadNo) → receiver_of o (space, vpn) ≡ Some receiver → IsThreadOf (state_of b.machine) space receiver
  receiver_known space vpn receiver known = subst (λ (s : FlatState). IsThreadOf s space receiver) (shows b owned.sound) (owned.are.receivers space vpn receiver known)

  -- ---- they stay owners

  pub still_owned : (c : Recorded) → Grew 0 b c → IsSound c → IsOwned c o
  still_owned c grew sound = record { sound = sound; sealed = grew.sealed owned.sealed; are = owners_stay 0 b c o grew sound owned.are }

  module _ (new : Known) where
    pub owned_noted : (n : Name) (ident : Ident) → IsResident (residents_of (contents_of b)) ident n → IsNoted n ident o new → IsOwned b new
    owned_noted n ident live noted = record { sound = owned.sound; sealed = owned.sealed; are = noted_so b.journal.entries o new n ident owned.are (was_loaded b owned.sound ident n live) noted }

    pub owned_learnt : (thread : ThreadNo) (space : SpaceNo) → IsThreadOf (state_of b.machine) space thread → IsSpaceLearnt thread space o new → IsOwned b new
    owned_learnt thread space is learnt = record {
      sound = owned.sound;
      sealed = owned.sealed;
      are = space_so b.journal.entries o new thread space owned.are (subst (λ (s : FlatState). IsThreadOf s space thread) (sym (shows b owned.sound)) is) learnt;
    }

    pub owned_receiver : (space : SpaceNo) (vpn : Vpn) (receiver : Option ThreadNo) → IfSome receiver (IsThreadOf (state_of b.machine) space) → IsReceiverLearnt (space, vpn) receiver o new → IsOwned b new
    owned_receiver space vpn receiver is learnt = record {
      sound = owned.sound;
      sealed = owned.sealed;
      are = receiver_so b.journal.entries o new space vpn receiver owned.are (subst (λ (s : FlatState). IfSome receiver (IsThreadOf s space)) (sym (shows b owned.sound)) is) learnt;
    }

-- ---- what is noted of what is loaded

module _ (b : Recorded) (old new : Known) (n : Name) (ident : Ident) (noted : IsNoted n ident old new) (live : IsResident (residents_of (contents_of b)) ident n) where
  -- a name whose identifier was noted and is loaded has one still, and it is loaded
  pub live_noted : (other : Name) (its : Ident) → ident_of old other ≡ Some its → IsResident (residents_of (contents_of b)) its other → (now : Ident) × (ident_of new other ≡ Some now) × IsResident (residents_of (contents_of b)) now other
  live_noted other its known there = elim (cases_name n other) [
    | inl same ↦ (ident, subst (λ (m : Name). ident_of new m ≡ Some ident) same noted.its, subst (IsResident (residents_of (contents_of b)) ident) same live)
    | inr apart ↦ (its, noted.other_idents other (λ same. apart (sym same)) ∙ known, there)
  ]

  kernel_noted : (kernel : KernelNo) (t : Bool) (caller : Ident) → (if t then Some first_ident else ident_of old (name.Kernel kernel)) ≡ Some caller → IsResident (residents_of (contents_of b)) caller (name.Kernel kernel)
      → (now : Ident) × ((if t then Some first_ident else ident_of new (name.Kernel kernel)) ≡ Some now) × IsResident (residents_of (contents_of b)) now (name.Kernel kernel)
  kernel_noted kernel true caller known there = (caller, known, there)
  kernel_noted kernel false caller known there = live_noted (name.Kernel kernel) caller known there

  pub reached_noted : (space : SpaceNo) → IsReached b old space → IsReached b new space
  reached_noted space reached =
      let up = kernel_noted reached.kernel (reached.kernel.0 == 0) reached.caller reached.caller_known reached.caller_live in
      let here = live_noted (name.Space space) reached.parent reached.parent_known reached.parent_live in
      record {
        kernel = reached.kernel;
        its = reached.its;
        caller = up.0;
        caller_known = up.1;
        caller_live = up.2;
        parent = here.0;
        parent_known = here.1;
        parent_live = here.2;
      }

-- ---- what is learnt changes no identifier

pub reached_learnt : (b : Recorded) (old new : Known) (space : SpaceNo) → new.idents ≡ old.idents → IsReached b old space → IsReached b new space
reached_learnt b old new space same reached =
    let know : (n : Name) → ident_of new n ≡ ident_of old n = λ n. ap (λ (idents : List (Name × Option Ident)). option_flatten (lookup (is_name n) idents)) same in
    record {
      kernel = reached.kernel;
      its = reached.its;
      caller = reached.caller;
      caller_known = ap (λ (o : Option Ident). if reached.kernel.0 == 0 then Some first_ident else o) (know (name.Kernel reached.kernel)) ∙ reached.caller_known;
      caller_live = reached.caller_live;
      parent = reached.parent;
      parent_known = know (name.Space space) ∙ reached.parent_known;
      parent_live = reached.parent_live;
    }
