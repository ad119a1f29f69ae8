-- What is kept for a load is in hand: the space and the kernel that the caller gave.
use Rattle.std.proofs.Common.{◌≡◌, Bor, true, false, List, [], ◌∷◌, Contains, Option, Some, None, slice_get, refl, sym, ◌∙◌, ap, subst, inl, inr}
use Rattle.std.specs.Prelude.{◌/◌, if◌then◌else◌, is_some}
use Rattle.std.specs.Option.{option_and_then, option_map}
use Rattle.std.proofs.lemmas.Option.{same_Some}
use Rattle.board_ops.specs.flat_laws.proofs.Members.{contains_nothing, Contains-cases, Contains-here, Contains-behind, Contains-option_map, Contains-some}
use Rattle.cache_ident.specs.declared.idents.Ident.{Ident}
use Rattle.cache_ident.specs.declared.idents.Kind.TheVariants as kind
use Rattle.cache_ident.specs.declared.names.KernelNo.{KernelNo}
use Rattle.cache_ident.specs.declared.names.SpaceNo.{SpaceNo}
use Rattle.cache_ident.specs.declared.names.ThreadNo.{ThreadNo}
use Rattle.cache_ident.specs.declared.names.Vpn.{Vpn}
use Rattle.cache_ident.specs.declared.names.Name.{Name}
use Rattle.cache_ident.specs.declared.names.Name.TheVariants as name
use Rattle.cache_ident.specs.Residents.{Resident, IsResident}
use Rattle.phys_groups.specs.declared.rows.Row.{Row}
use Rattle.phys_groups.specs.Rows.{row_name}
use Rattle.phys_groups.specs.Translation.{is_fit, row_of}
use Rattle.kernel_cache.specs.declared.KernelRec.{KernelRec}
use Rattle.space_cache.specs.declared.SpaceRec.{SpaceRec}
use Rattle.thread_cache.specs.declared.ThreadRec.{ThreadRec}
use Rattle.board_ops.specs.flat_state.specs.declared.records.FlatThread.{FlatThread}
use Rattle.board_ops.specs.flat_state.specs.Dependence.{directly, further, owner, parents, parents_of_found, Depends, DependsFar}
use Rattle.board_ops.specs.flat_state.specs.Names.{stands}
use Rattle.desc_tables.specs.desc_stores.specs.declared.items.Item.{Item}
use Rattle.desc_tables.specs.desc_stores.specs.declared.items.Item.TheVariants as item
use Rattle.desc_tables.specs.desc_stores.specs.declared.items.ItemRef.{ItemRef}
use Rattle.desc_tables.specs.desc_stores.specs.declared.items.ItemRef.TheVariants as ref
use Rattle.desc_tables.specs.desc_stores.specs.Contents.{content_of, item_as, residents_of, Contents}
use Rattle.desc_tables.specs.desc_stores.specs.Items.{name_of, shown}
use Rattle.desc_tables.specs.desc_stores.specs.Sound.{IsExactlyOne}
use Rattle.desc_tables.specs.shown_state.specs.Shown.{row_of_item, thread_of}
use Rattle.desc_tables.specs.shown_state.proofs.ContentLemmas.{item_has_name}
use Rattle.desc_tables.specs.shown_state.proofs.LookupLemmas.{found_row, found_thread, name_stands}
use Rattle.desc_tables.specs.store_residents.proofs.ContentLemmas.{resident_item}
use Rattle.desc_tables.specs.store_residents.proofs.ResidentLemmas.{one_each}
use Rattle.desc_tables.specs.desc_parents.specs.Idents.{ident_of}
use Rattle.desc_tables.specs.desc_parents.specs.Seen.{seen}
use Rattle.desc_tables.specs.desc_parents.proofs.IdentLemmas.{ident_found}
use Rattle.desc_tables.specs.desc_groups.proofs.OwnerLemmas.{owner_as_item}
use Rattle.desc_tables.specs.Keeps.{KeepsParentsAs, KeepsParentsOf}
use Rattle.board_ops.specs.declared.refusals.Refused.TheVariants as why
use Rattle.board_checks.specs.Facts.{IsFormed, IsLoadable}
use Rattle.board_checks.specs.Keeps.{IsAbove, IsLoadableBeside}
use Rattle.board_checks.specs.Refusals.{beyond_rights, not_declared, not_owned, not_owner}
use Rattle.board_checks.proofs.FitLemmas.{rights_tested}
use Rattle.board_checks.proofs.IdentifierLemmas.{item_kind, item_resident}
use Rattle.board_checks.proofs.KeepLemmas.{all_beside, none_kept, one_more_kept, same_name}
use Rattle.board_checks.proofs.LoadLemmas.{declared_if, own_if}
use Rattle.board_checks.proofs.OwnerLemmas.{owner_tested}

-- ---- what stands under a name

-- what has a name stands under its own
pub named_content : (c : Contents) (n : Name) (it : Item) → content_of c n ≡ Some it → content_of c (name_of it) ≡ Some it
named_content c n it is = subst (λ (m : Name). content_of c m ≡ Some it) (sym (item_has_name c n it is)) is

-- under the name of a thread stands a thread
pub only_thread : (c : Contents) (thread : ThreadNo) (r : ItemRef) → content_of c (name.Thread thread) ≡ Some (shown r) → ((found : Bor ThreadRec) → r ≡ ref.Thread found → ⊥) → ⊥
only_thread c thread r is never = by r never (item_has_name c (name.Thread thread) (shown r) is)
  where
    by : (r : ItemRef) → ((found : Bor ThreadRec) → r ≡ ref.Thread found → ⊥) → name_of (shown r) ≡ name.Thread thread → ⊥
    by (ref.Kernel kernel) never named = cc
    by (ref.Space space) never named = cc
    by (ref.Thread found) never named = never found refl
    by (ref.Mapping row) never named = cc

-- and under that of a page a row
pub only_row : (c : Contents) (space : SpaceNo) (vpn : Vpn) (r : ItemRef) → content_of c (name.Mapping space vpn) ≡ Some (shown r) → ((found : Bor Row) → r ≡ ref.Mapping found → ⊥) → ⊥
only_row c space vpn r is never = by r never (item_has_name c (name.Mapping space vpn) (shown r) is)
  where
    by : (r : ItemRef) → ((found : Bor Row) → r ≡ ref.Mapping found → ⊥) → name_of (shown r) ≡ name.Mapping space vpn → ⊥
    by (ref.Kernel kernel) never named = cc
    by (ref.Space other) never named = cc
    by (ref.Thread thread) never named = cc
    by (ref.Mapping found) never named = never found refl

-- its owner is tested against the caller's kernel
pub owner_tested_of : (c : Contents) (caller : Ident) (kernel : KernelRec) → item_as c caller ≡ Some (item.Kernel kernel) → (n : Name) (it : Item) → content_of c n ≡ Some it → option_and_then (not_owner kernel.no) (owner (seen c) (name_of it)) ≡ not_owned c caller n
owner_tested_of c caller kernel kernel_is n it is = ap (λ (m : Name). option_and_then (not_owner kernel.no) (owner (seen c) m)) (item_has_name c n it is) ∙ owner_tested c caller kernel kernel_is n

module _ (c : Contents) (one : IsExactlyOne c) where
  abbrev rs : List Resident
  rs = residents_of c

  -- what is loaded stands under its name
  pub loaded_content : (ident : Ident) (it : Item) → item_as c ident ≡ Some it → content_of c (name_of it) ≡ Some it
  loaded_content ident it is =
      let r = item_resident c ident one it is in
      ap (content_of c) (sym r.3) ∙ sym (resident_item c one r.0 r.1) ∙ ap (item_as c) r.2 ∙ is

  pub thread_seen : (thread : ThreadNo) (found : ThreadRec) → content_of c (name.Thread thread) ≡ Some (item.Thread found) → option_map (λ (t : FlatThread). t.space) (slice_get (seen c).threads thread.0) ≡ Some found.space
  thread_seen thread found is = ap (option_map (λ (t : FlatThread). t.space)) (found_thread None [] c one thread.0 ∙ ap thread_of is)

  pub row_seen : (space : SpaceNo) (vpn : Vpn) (row : Row) → content_of c (name.Mapping space vpn) ≡ Some (item.Mapping row) → row_of (seen c).rows space vpn.0 ≡ Some row
  row_seen space vpn row is = found_row None [] c one space vpn ∙ ap row_of_item is

  -- a kernel may be loaded while nothing stays
  pub kernel_beside : (kernel : KernelNo) → IsFormed c → IsLoadable c (name.Kernel kernel) → IsLoadableBeside c (name.Kernel kernel) []
  unfolding parents
  kernel_beside kernel formed may =
      all_beside c one formed (name.Kernel kernel) may [] (none_kept c (name.Kernel kernel) [] refl)
      (λ r there depends. absurd (contains_nothing r.name depends))
      (λ ident kept. absurd (contains_nothing ident kept))

  -- the row of a page is in the page's space
  in_its_space : (space : SpaceNo) (vpn : Vpn) (row : Row) → content_of c (name.Mapping space vpn) ≡ Some (item.Mapping row) → row.space ≡ space
  in_its_space space vpn row its =
      let named : name.Mapping row.space row.vpn ≡ name.Mapping space vpn = item_has_name c (name.Mapping space vpn) (item.Mapping row) its in
      cc

  -- so the caller's kernel owns the space where it owns the row
  pub row_owner_passes : (kernel : KernelNo) (space : SpaceNo) (vpn : Vpn) (row : Row) → content_of c (name.Mapping space vpn) ≡ Some (item.Mapping row) → None ≡ option_and_then (not_owner kernel) (owner (seen c) (row_name row)) → None ≡ option_and_then (not_owner kernel) (owner (seen c) (name.Space space))
  row_owner_passes kernel space vpn row its passes =
      passes
      ∙ ap (option_and_then (not_owner kernel)) (sym (owner_as_item c one (item.Mapping row) (named_content c (name.Mapping space vpn) (item.Mapping row) its)) ∙ ap (λ (s : SpaceNo). owner (seen c) (name.Space s)) (in_its_space space vpn row its))

  -- ---- what is kept

  -- what has the name of something loaded has its identifier
  its_ident : (ident : Ident) (n : Name) → IsResident rs ident n → (r : Resident) → Contains rs r → r.name ≡ n → r.ident ≡ ident
  its_ident ident n is r there named =
      let own : ident_of rs r.name ≡ Some r.ident = ident_found rs (one_each c one) r there in
      let other : ident_of rs is.0.name ≡ Some is.0.ident = ident_found rs (one_each c one) is.0 is.1 in
      let same : is.0.name ≡ r.name = is.3 ∙ sym named in
      same_Some r.ident ident (sym own ∙ ap (ident_of rs) (sym same) ∙ other ∙ ap (λ (i : Ident). Some i) is.2)

  module _ (caller : Ident) (kernel : KernelRec) (kernel_is : item_as c caller ≡ Some (item.Kernel kernel)) where
    kernel_there : IsResident rs caller (name.Kernel kernel.no)
    kernel_there = item_resident c caller one (item.Kernel kernel) kernel_is

    kernel_closed : (keep : List Ident) → KeepsParentsAs c keep caller
    unfolding parents
    kernel_closed keep r there own parent p_there depends =
        let named : name.Kernel kernel.no ≡ r.name = same_name c one caller (item.Kernel kernel) kernel_is r there own in
        absurd (contains_nothing parent.name (subst (λ (n : Name). Contains (parents (seen c) n) parent.name) (sym named) depends))

    -- the kernel of a space that isn't refused
    owned_if : (space : SpaceNo) → stands (seen c) (name.Space space) ≡ true → None ≡ option_and_then (not_owner kernel.no) (owner (seen c) (name.Space space)) → slice_get (seen c).spaces space.0 ≡ Some kernel.no
    unfolding stands owner
    owned_if space = by (slice_get (seen c).spaces space.0)
      where
        by : (o : Option KernelNo) → is_some o ≡ true → None ≡ option_and_then (not_owner kernel.no) o → o ≡ Some kernel.no
        by None some passes = absurd (cc)
        by (Some own) some passes = ap (λ (k : KernelNo). Some k) (own_if kernel.no own passes)

    module _ (space : SpaceNo) (owned : slice_get (seen c).spaces space.0 ≡ Some kernel.no) where
      space_depends : Depends (seen c) (name.Space space) (name.Kernel kernel.no)
      unfolding parents
      space_depends = Contains-some (option_map name.Kernel (slice_get (seen c).spaces space.0)) (name.Kernel kernel.no) (ap (option_map name.Kernel) owned)

      on_kernel : (n : Name) → Depends (seen c) (name.Space space) n → n ≡ name.Kernel kernel.no
      unfolding parents
      on_kernel n depends =
          let own = Contains-option_map name.Kernel (slice_get (seen c).spaces space.0) n depends in
          sym own.2 ∙ ap name.Kernel (same_Some own.0 kernel.no (sym own.1 ∙ owned))

      keeps_kernel : (keep : List Ident) → Contains keep caller → KeepsParentsOf c keep (name.Space space)
      keeps_kernel keep kept r there depends = subst (Contains keep) (sym (its_ident caller (name.Kernel kernel.no) kernel_there r there (on_kernel r.name depends))) kept

      kernel_above : IsAbove c (name.Space space) caller
      kernel_above = let k = kernel_there in (k.0, k.1, k.2, subst (λ (n : Name). DependsFar (seen c) (name.Space space) n) (sym k.3) (directly space_depends))

      space_beside_kernel : IsFormed c → IsLoadable c (name.Space space) → IsLoadableBeside c (name.Space space) (caller ∷ [])
      space_beside_kernel formed may =
          all_beside c one formed (name.Space space) may (caller ∷ [])
          (one_more_kept c (name.Space space) [] caller (none_kept c (name.Space space) [] refl) kernel_above (contains_nothing caller))
          (keeps_kernel (caller ∷ []) (Contains-here caller []))
          (λ ident kept. elim (Contains-cases caller [] ident kept) [
            | inl same ↦ subst (KeepsParentsAs c (caller ∷ [])) same (kernel_closed (caller ∷ []))
            | inr none ↦ absurd (contains_nothing ident none)
          ])

    -- a space may be loaded while its kernel stays
    pub space_beside : (space : SpaceNo) → None ≡ not_declared c (name.Space space) → None ≡ option_and_then (not_owner kernel.no) (owner (seen c) (name.Space space)) → IsFormed c → IsLoadable c (name.Space space) → IsLoadableBeside c (name.Space space) (caller ∷ [])
    space_beside space there passes = space_beside_kernel space (owned_if space (declared_if c one (name.Space space) there) passes)

    -- and what depends on a loaded space alone, while that and its kernel stay
    module _ (parent : Ident) (found : SpaceRec) (space_is : item_as c parent ≡ Some (item.Space found)) (passes : None ≡ option_and_then (not_owner kernel.no) (owner (seen c) (name.Space found.no))) where
      space_there : IsResident rs parent (name.Space found.no)
      space_there = item_resident c parent one (item.Space found) space_is

      owned : slice_get (seen c).spaces found.no.0 ≡ Some kernel.no
      owned =
          let at : content_of c (name.Space found.no) ≡ Some (item.Space found) = loaded_content parent (item.Space found) space_is in
          owned_if found.no (name_stands None [] c one (name.Space found.no) ∙ ap (λ (o : Option Item). is_some o) at) passes

      abbrev both : List Ident
      both = parent ∷ caller ∷ []

      space_closed : KeepsParentsAs c both parent
      space_closed r there own = subst (KeepsParentsOf c both) (same_name c one parent (item.Space found) space_is r there own) (keeps_kernel found.no owned both (Contains-behind parent (caller ∷ []) caller (Contains-here caller [])))

      apart : Contains (parent ∷ []) caller → ⊥
      apart kept = elim (Contains-cases parent [] caller kept) [
        | inl same ↦
            let space_kind : parent.kind ≡ kind.Space = item_kind c parent (item.Space found) space_is in
            let kernel_kind : caller.kind ≡ kind.Kernel = item_kind c caller (item.Kernel kernel) kernel_is in
            let kinds : parent.kind ≡ caller.kind = ap (λ (i : Ident). i.kind) same in
            cc
        | inr none ↦ contains_nothing caller none
      ]

      module _ (root : Name) (depends : Depends (seen c) root (name.Space found.no)) (only : (n : Name) → Depends (seen c) root n → n ≡ name.Space found.no) where
        space_above : IsAbove c root parent
        space_above = let s = space_there in (s.0, s.1, s.2, subst (λ (n : Name). DependsFar (seen c) root n) (sym s.3) (directly depends))

        its_kernel_above : IsAbove c root caller
        its_kernel_above = let k = kernel_there in (k.0, k.1, k.2, subst (λ (n : Name). DependsFar (seen c) root n) (sym k.3) (further (directly depends) (space_depends found.no owned)))

        pub in_space_beside : IsFormed c → IsLoadable c root → IsLoadableBeside c root both
        in_space_beside formed may =
            all_beside c one formed root may both
            (one_more_kept c root (parent ∷ []) caller (one_more_kept c root [] parent (none_kept c root [] refl) space_above (contains_nothing parent)) its_kernel_above apart)
            (λ r there on. subst (Contains both) (sym (its_ident parent (name.Space found.no) space_there r there (only r.name on))) (Contains-here parent (caller ∷ [])))
            (λ ident kept. elim (Contains-cases parent (caller ∷ []) ident kept) [
              | inl same ↦ subst (KeepsParentsAs c both) same space_closed
              | inr behind ↦ elim (Contains-cases caller [] ident behind) [
                | inl same ↦ subst (KeepsParentsAs c both) same (kernel_closed both)
                | inr none ↦ absurd (contains_nothing ident none)
              ]
            ])

      -- the rights over it are those of the kernel's record
      row_rights : (row : Row) → row.space ≡ found.no → (if is_fit kernel.rights row then None else Some (why.Rights row.frame (row.frame.0 / 128))) ≡ beyond_rights c row
      unfolding owner
      row_rights row in_space = rights_tested c one row kernel (sym (ap (λ (s : SpaceNo). slice_get (seen c).spaces s.0) in_space ∙ owned)) (loaded_content caller (item.Kernel kernel) kernel_is)

      -- as a thread
      pub thread_beside : (thread : ThreadNo) (space : SpaceNo) → option_map (λ (t : FlatThread). t.space) (slice_get (seen c).threads thread.0) ≡ Some space → space ≡ found.no → IsFormed c → IsLoadable c (name.Thread thread) → IsLoadableBeside c (name.Thread thread) both
      unfolding parents
      thread_beside thread space its same =
          in_space_beside (name.Thread thread)
          (Contains-some (option_map (λ (t : FlatThread). name.Space t.space) (slice_get (seen c).threads thread.0)) (name.Space found.no) (by (slice_get (seen c).threads thread.0) its))
          (λ n depends.
          let t = Contains-option_map (λ (t : FlatThread). name.Space t.space) (slice_get (seen c).threads thread.0) n depends in
          let its_space : t.0.space ≡ space = same_Some t.0.space space (ap (option_map (λ (t : FlatThread). t.space)) (sym t.1) ∙ its) in
          sym t.2 ∙ ap name.Space (its_space ∙ same))
        where
          by : (o : Option FlatThread) → option_map (λ (t : FlatThread). t.space) o ≡ Some space → option_map (λ (t : FlatThread). name.Space t.space) o ≡ Some (name.Space found.no)
          by None is = absurd (cc)
          by (Some t) is = ap (λ (s : SpaceNo). Some (name.Space s)) (same_Some t.space space is ∙ same)

      -- and as a row that is neither a message row nor a signal row
      pub row_beside : (vpn : Vpn) (row : Row) → row_of (seen c).rows found.no vpn.0 ≡ Some row → row_name row ≡ name.Mapping found.no vpn → row.flags.m ≡ false → row.receiver ≡ None → IsFormed c → IsLoadable c (name.Mapping found.no vpn) → IsLoadableBeside c (name.Mapping found.no vpn) both
      unfolding parents
      row_beside vpn row is named plain alone =
          in_space_beside (name.Mapping found.no vpn)
          (subst (λ (names : List Name). Contains names (name.Space found.no)) (sym its) (Contains-here (name.Space found.no) []))
          (λ n depends. elim (Contains-cases (name.Space found.no) [] n (subst (λ (names : List Name). Contains names n) its depends)) [
            | inl same ↦ sym same
            | inr none ↦ absurd (contains_nothing n none)
          ])
        where
          its : parents (seen c) (name.Mapping found.no vpn) ≡ name.Space found.no ∷ []
          its =
              let in_space : row.space ≡ found.no = cc in
              ap (parents_of_found (seen c)) is ∙ rw (plain, alone, in_space) refl

  -- a row is tested against the rights of the caller's kernel, which owns it
  pub row_rights_tested : (caller : Ident) (kernel : KernelRec) → item_as c caller ≡ Some (item.Kernel kernel) → (parent : Ident) (found : SpaceRec) → item_as c parent ≡ Some (item.Space found) → (vpn : Vpn) (row : Row) → content_of c (name.Mapping found.no vpn) ≡ Some (item.Mapping row) → None ≡ option_and_then (not_owner kernel.no) (owner (seen c) (row_name row)) → (if is_fit kernel.rights row then None else Some (why.Rights row.frame (row.frame.0 / 128))) ≡ beyond_rights c row
  row_rights_tested caller kernel kernel_is parent found space_is vpn row its passes =
      row_rights caller kernel kernel_is parent found space_is (row_owner_passes kernel.no found.no vpn row its passes) row (in_its_space found.no vpn row its)
