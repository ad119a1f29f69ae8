-- What stands with all that it depends on has an owner.
use Rattle.std.proofs.Common.{◌≡◌, ◌<◌, Bool, true, cond, List, length, Contains, Some, None, ap, sym, ◌∙◌, subst, arith}
use Rattle.std.specs.Prelude.{slice_get}
use Rattle.std.specs.Option.{option_map}
use Rattle.std.proofs.lemmas.Bool.{lt-ltb}
use Rattle.std.proofs.lemmas.Option.{slice_get_within}
use Rattle.cache_ident.specs.declared.names.KernelNo.{KernelNo}
use Rattle.cache_ident.specs.declared.names.Name.{Name}
use Rattle.cache_ident.specs.declared.names.Name.TheVariants as name
use Rattle.cache_ident.specs.declared.names.SpaceNo.{SpaceNo}
use Rattle.cache_ident.specs.Residents.{Resident}
use Rattle.phys_groups.specs.Translation.{row_of}
use Rattle.desc_groups.specs.flat_state.specs.declared.records.FlatThread.{FlatThread}
use Rattle.desc_groups.specs.flat_state.specs.State.{FlatState}
use Rattle.desc_groups.specs.flat_state.specs.Dependence.{owner, owner_of_row, owner_of_thread, parents, parents_of_found}
use Rattle.desc_groups.specs.flat_state.specs.Names.{stands}
use Rattle.desc_groups.specs.flat_laws.proofs.Members.{Contains-here, Contains-some}
use Rattle.desc_groups.specs.run_journal.specs.Groups.{HasParents}
use Rattle.desc_groups.specs.run_journal.specs.Legal.{AreGood}
use Rattle.desc_groups.specs.store_residents.proofs.SlotLaws.{what_is_there}

-- a kernel owns the name, and stands
abbrev pub IsOwned : FlatState → Name → Type 0
IsOwned s name = (kernel : KernelNo) × (owner s name ≡ Some kernel) × (kernel.0 < length s.kernels)

module _ (s : FlatState) (rs : List Resident) (good : AreGood s rs) where
  kernel_owned : (kernel : KernelNo) → stands s (name.Kernel kernel) ≡ true → IsOwned s (name.Kernel kernel)
  unfolding stands owner
  kernel_owned kernel there =
      let found = what_is_there (slice_get s.kernels kernel.0) there in
      let low = slice_get_within s.kernels kernel.0 found.0 found.1 in
      (record { 0 = 0 }, ap (λ (b : Bool). cond b (Some (record { 0 = 0 })) None) (lt-ltb kernel.0 (length s.kernels) low), omega arith)

  space_owned : (space : SpaceNo) → stands s (name.Space space) ≡ true → HasParents s rs (name.Space space) → IsOwned s (name.Space space)
  unfolding stands owner parents
  space_owned space there has =
      let found = what_is_there (slice_get s.spaces space.0) there in
      let parent = has (name.Kernel found.0) (Contains-some (option_map name.Kernel (slice_get s.spaces space.0)) (name.Kernel found.0) (ap (option_map name.Kernel) found.1)) in
      let parent_stands : stands s (name.Kernel found.0) ≡ true = subst (λ n. stands s n ≡ true) parent.2 (good parent.0 parent.1).there in
      let kernel = what_is_there (slice_get s.kernels found.0.0) parent_stands in
      (found.0, found.1, slice_get_within s.kernels found.0.0 kernel.0 kernel.1)

  -- what is in a resident space is owned as the space is
  in_space : (space : SpaceNo) → (parent : Resident) × Contains rs parent × (parent.name ≡ name.Space space) → IsOwned s (name.Space space)
  in_space space parent =
      let stays = good parent.0 parent.1 in
      space_owned space (subst (λ n. stands s n ≡ true) parent.2 stays.there) (subst (HasParents s rs) parent.2 stays.parents)

  pub name_owned : (n : Name) → stands s n ≡ true → HasParents s rs n → IsOwned s n
  unfolding stands owner parents
  name_owned (name.Kernel kernel) there has = kernel_owned kernel there
  name_owned (name.Space space) there has = space_owned space there has
  name_owned (name.Thread thread) there has =
      let found = what_is_there (slice_get s.threads thread.0) there in
      let to_space = λ (t : FlatThread). name.Space t.space in
      let is = in_space found.0.space (has (name.Space found.0.space) (Contains-some (option_map to_space (slice_get s.threads thread.0)) (name.Space found.0.space) (ap (option_map to_space) found.1))) in
      (is.0, ap (owner_of_thread s) found.1 ∙ is.1, is.2)
  name_owned (name.Mapping space vpn) there has =
      let found = what_is_there (row_of s.rows space vpn.0) there in
      let parent : Contains (parents_of_found s (row_of s.rows space vpn.0)) (name.Space found.0.space) = subst (λ o. Contains (parents_of_found s o) (name.Space found.0.space)) (sym found.1) (Contains-here (name.Space found.0.space) _) in
      let is = in_space found.0.space (has (name.Space found.0.space) parent) in
      (is.0, ap (owner_of_row s) found.1 ∙ is.1, is.2)

  -- so is each resident
  pub resident_owned : (r : Resident) → Contains rs r → IsOwned s r.name
  resident_owned r there = let stays = good r there in name_owned r.name stays.there stays.parents
