-- What loads in a space keep of its rows.
use Rattle.std.proofs.Common.{◌≡◌, true, Option, Some, None, is_some, slice_get, refl, sym, ap, ◌∙◌, subst, inl}
use Rattle.std.specs.Prelude.{Ok, Err, Result}
use Rattle.cache_ident.specs.declared.idents.Ident.{Ident}
use Rattle.cache_ident.specs.declared.names.KernelNo.{KernelNo}
use Rattle.cache_ident.specs.declared.names.Name.{Name}
use Rattle.cache_ident.specs.declared.names.Name.TheVariants as name
use Rattle.cache_ident.specs.declared.names.SpaceNo.{SpaceNo}
use Rattle.cache_ident.specs.declared.names.ThreadNo.{ThreadNo}
use Rattle.cache_ident.specs.declared.names.Vpn.{Vpn}
use Rattle.reach_laws.specs.flat_state.specs.Names.{stands}
use Rattle.reach_laws.specs.flat_state.specs.State.{FlatState}
use Rattle.reach_laws.specs.desc_parents.specs.Seen.{seen}
use Rattle.reach_laws.specs.shown_state.specs.Shown.{shown}
use Rattle.reach_laws.specs.board_ops.specs.declared.refusals.Refused.{Refused}
use Rattle.reach_laws.specs.cached_machine.specs.Cached.{state_of}
use Rattle.reach_laws.specs.board_core.specs.Core.{contents_of, IsSound, Recorded}
use Rattle.reach_laws.specs.board_core.specs.Growth.{IsRoomMade}
use Rattle.reach_laws.specs.board_checks.specs.Refusals.{refusal_of_load_thread}
use Rattle.reach_laws.specs.owners.specs.Known.{ident_of, Known}
use Rattle.reach_laws.specs.owners.specs.Owning.{IsThreadOf}
use Rattle.page_laws.specs.Keeping.{KeepsRows}
use Rattle.reach_laws.specs.Reaching.{IsLoadAnswer, IsOwned, IsPlainLoaded}
use Rattle.reach_laws.specs.owner_laws.proofs.Spaces.{is_of_space}
use Rattle.reach_laws.proofs.Filling.{absent_after, absent_still}
use Rattle.reach_laws.proofs.Plain.{its_space_loaded, plain_kernel, plain_space, plain_still, plain_thread}
use Rattle.reach_laws.proofs.Showing.{shows}

-- a space of which a row is loaded stands
its_kernel : (b : Recorded) → IsSound b → (space : SpaceNo) (vpn : Vpn) → IsPlainLoaded b space vpn → (kernel : KernelNo) × (slice_get (state_of b.machine).spaces space.0 ≡ Some kernel)
unfolding stands shown
its_kernel b sound space vpn is =
    let r = its_space_loaded b sound space vpn is.row is.here (is.live.0, is.live.1, is.live.3) in
    let there : stands (seen (contents_of b)) r.0.name ≡ true = (sound.tables.1.whole.good r.0 r.1).there in
    some_there (slice_get (state_of b.machine).spaces space.0) (subst (λ (n : Name). stands (seen (contents_of b)) n ≡ true) r.2 there)
  where
    some_there : (o : Option KernelNo) → is_some o ≡ true → (kernel : KernelNo) × (o ≡ Some kernel)
    some_there None there = absurd (cc)
    some_there (Some kernel) there = (kernel, refl)

module _ (space : SpaceNo) where
  pub keeps_same : (b : Recorded) → KeepsRows space b b
  keeps_same b = record { absent = λ other vpn absent r. absent r; plain = λ vpn is. is }

  pub keeps_further : (a b c : Recorded) → KeepsRows space a b → KeepsRows space b c → KeepsRows space a c
  keeps_further a b c first second = record {
    absent = λ other vpn absent. second.absent other vpn (first.absent other vpn absent);
    plain = λ vpn is. second.plain vpn (first.plain vpn is);
  }

  pub keeps_room : (old new : Recorded) → IsRoomMade old new → KeepsRows space old new
  keeps_room old new room = record {
    absent = λ other vpn. absent_still old new room (name.Mapping other vpn);
    plain = λ vpn. plain_still old new room space vpn;
  }

  module _ (refusal : Option Refused) (old new : Recorded) (sound : IsSound old) (answer : Result Ident Refused) where
    pub keeps_kernel : (kernel : KernelNo) → ((its : KernelNo) → slice_get (state_of old.machine).spaces space.0 ≡ Some its → kernel ≡ its) → IsLoadAnswer refusal (name.Kernel kernel) old new answer → KeepsRows space old new
    keeps_kernel kernel its a = record {
      absent = λ other vpn absent. absent_after refusal (name.Kernel kernel) old new sound (name.Mapping other vpn) (λ same. absurd (cc)) absent answer a;
      plain = λ vpn is.
          let k = its_kernel old sound space vpn is in
          plain_kernel refusal old new sound space vpn is kernel (k.1 ∙ ap (λ (n : KernelNo). Some n) (sym (its k.0 k.1))) answer a;
    }

    pub keeps_space : IsLoadAnswer refusal (name.Space space) old new answer → KeepsRows space old new
    keeps_space a = record {
      absent = λ other vpn absent. absent_after refusal (name.Space space) old new sound (name.Mapping other vpn) (λ same. absurd (cc)) absent answer a;
      plain = λ vpn is. plain_space refusal old new sound space vpn is answer a;
    }

    keeps_mine : (thread : ThreadNo) → IsThreadOf (state_of old.machine) space thread → IsLoadAnswer refusal (name.Thread thread) old new answer → KeepsRows space old new
    keeps_mine thread mine a = record {
      absent = λ other vpn absent. absent_after refusal (name.Thread thread) old new sound (name.Mapping other vpn) (λ same. absurd (cc)) absent answer a;
      plain = λ vpn is. plain_thread refusal old new sound space vpn is thread mine answer a;
    }

  -- a thread that is asked for by what is noted for the space is loaded only if it is of the space
  pub keeps_thread : (b c : Recorded) (o : Known) → IsOwned b o → (caller parent : Ident) → ident_of o (name.Space space) ≡ Some parent → (thread : ThreadNo) (r : Result Ident Refused) → IsLoadAnswer (refusal_of_load_thread (contents_of b) caller parent thread) (name.Thread thread) b c r → KeepsRows space b c
  keeps_thread b c o owned caller parent noted thread (Err w) a = keeps_room b c a.refused.only
  keeps_thread b c o owned caller parent noted thread (Ok ident) a =
      let is = is_of_space b o caller parent space thread owned.sound owned.are noted (inl a.done) in
      keeps_mine (refusal_of_load_thread (contents_of b) caller parent thread) b c owned.sound (Ok ident) thread (subst (λ (s : FlatState). IsThreadOf s space thread) (shows b owned.sound) is) a
