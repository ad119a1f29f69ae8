-- What a content says of what its name depends on.
use Rattle.std.proofs.Common.{◌≡◌, ◌≢◌, List, [], ◌∷◌, AllPairs, Option, Some, None, option_to_list, refl, sym, ◌∙◌, ap, subst}
use Rattle.std.specs.Option.{option_map}
use Rattle.cache_ident.specs.declared.idents.Ident.{Ident}
use Rattle.cache_ident.specs.declared.names.Name.{Name}
use Rattle.cache_ident.specs.declared.names.Name.TheVariants as name
use Rattle.phys_groups.specs.declared.rows.Row.{Row}
use Rattle.phys_groups.specs.Rows.{row_name}
use Rattle.group_laws.specs.flat_state.specs.State.{FlatState}
use Rattle.group_laws.specs.flat_state.specs.Dependence.{parents, parents_of_found, parents_of_row}
use Rattle.shown_state.specs.kernel_cache.specs.declared.KernelRec.{KernelRec}
use Rattle.shown_state.specs.kernel_cache.specs.Kernels as kernel_rec
use Rattle.shown_state.specs.space_cache.specs.declared.SpaceRec.{SpaceRec}
use Rattle.shown_state.specs.space_cache.specs.Spaces as space_rec
use Rattle.shown_state.specs.thread_cache.specs.declared.ThreadRec.{ThreadRec}
use Rattle.shown_state.specs.thread_cache.specs.Threads as thread_rec
use Rattle.shown_state.specs.kind_store.specs.Kept as stored
use Rattle.store_residents.specs.desc_stores.specs.declared.items.Item.{Item}
use Rattle.store_residents.specs.desc_stores.specs.declared.items.Item.TheVariants as item
use Rattle.store_residents.specs.desc_stores.specs.declared.items.ItemRef.{ItemRef}
use Rattle.store_residents.specs.desc_stores.specs.Contents.{content_of, residents_of, Contents}
use Rattle.store_residents.specs.desc_stores.specs.Items.{name_of, shown}
use Rattle.store_residents.specs.desc_stores.specs.Sound.{IsExactlyOne}
use Rattle.store_residents.specs.resident_pairs.specs.Among.{AreParents}
use Rattle.shown_state.specs.Shown.{row_of_item, space_of, thread_of}
use Rattle.shown_state.proofs.LookupLemmas.{found_row, found_space, found_thread}
use Rattle.desc_parents.specs.Idents.{idents_of}
use Rattle.desc_parents.specs.Seen.{seen}
use Rattle.desc_parents.proofs.IdentLemmas.{are_parents, idents_apart}

-- the names that a content depends on
abbrev pub parents_of_item : FlatState → Option Item → List Name
parents_of_item s None = []
parents_of_item s (Some (item.Kernel kernel)) = []
parents_of_item s (Some (item.Space space)) = name.Kernel space.kernel ∷ []
parents_of_item s (Some (item.Thread thread)) = name.Space thread.space ∷ []
parents_of_item s (Some (item.Mapping row)) = parents_of_row s row

module _ (s : FlatState) where
  of_kernel : (o : Option KernelRec) → [] ≡ parents_of_item s (option_map item.Kernel o)
  of_kernel None = refl
  of_kernel (Some kernel) = refl

  of_space : (o : Option SpaceRec) → option_to_list (option_map name.Kernel (space_of (option_map item.Space o))) ≡ parents_of_item s (option_map item.Space o)
  of_space None = refl
  of_space (Some space) = refl

  of_thread : (o : Option ThreadRec) → option_to_list (option_map (λ t. name.Space t.space) (thread_of (option_map item.Thread o))) ≡ parents_of_item s (option_map item.Thread o)
  of_thread None = refl
  of_thread (Some thread) = refl

  of_row : (o : Option Row) → parents_of_found s (row_of_item (option_map item.Mapping o)) ≡ parents_of_item s (option_map item.Mapping o)
  of_row None = refl
  of_row (Some row) = refl

module _ (c : Contents) (one : IsExactlyOne c) where
  -- a name depends on what its content says
  parents_are : (n : Name) → parents (seen c) n ≡ parents_of_item (seen c) (content_of c n)
  unfolding parents
  parents_are (name.Kernel number) = of_kernel (seen c) (stored.content_of kernel_rec.name_of c.kernels (name.Kernel number))
  parents_are (name.Space number) = ap (λ o. option_to_list (option_map name.Kernel o)) (found_space None [] c one number.0) ∙ of_space (seen c) (stored.content_of space_rec.name_of c.spaces (name.Space number))
  parents_are (name.Thread number) = ap (λ o. option_to_list (option_map (λ t. name.Space t.space) o)) (found_thread None [] c one number.0) ∙ of_thread (seen c) (stored.content_of thread_rec.name_of c.threads (name.Thread number))
  parents_are (name.Mapping space vpn) = ap (parents_of_found (seen c)) (found_row None [] c one space vpn) ∙ of_row (seen c) (stored.content_of row_name c.rows.kept (name.Mapping space vpn))

  -- so the identifiers of what a content that stands says are those of its parents
  pub are_of_item : (given : ItemRef) {as_is : ItemRef} → given ≡ as_is → content_of c (name_of (shown given)) ≡ Some (shown given) → (idents : List Ident) → idents ≡ idents_of (residents_of c) (parents_of_item (seen c) (Some (shown as_is)))
      → AreParents (seen c) (residents_of c) (name_of (shown given)) idents
  are_of_item given same stands idents are =
      let n = name_of (shown given) in
      let said = parents_are n ∙ ap (parents_of_item (seen c)) (stands ∙ ap (λ (r : ItemRef). Some (shown r)) same) in
      subst (AreParents (seen c) (residents_of c) n) (ap (idents_of (residents_of c)) said ∙ sym are) (are_parents c one (seen c) n)

  -- what doesn't stand depends on nothing
  pub are_of_none : (n : Name) → content_of c n ≡ None → (idents : List Ident) → idents ≡ [] → AreParents (seen c) (residents_of c) n idents
  are_of_none n none idents are =
      let said = parents_are n ∙ ap (parents_of_item (seen c)) none in
      subst (AreParents (seen c) (residents_of c) n) (ap (idents_of (residents_of c)) said ∙ sym are) (are_parents c one (seen c) n)

  -- and the identifiers of names that differ differ
  pub are_apart : (names : List Name) (idents : List Ident) → idents ≡ idents_of (residents_of c) names → AllPairs (λ a b. a ≢ b) names → AllPairs (λ a b. a ≢ b) idents
  are_apart names idents are apart = subst (AllPairs (λ (a : Ident) (b : Ident). a ≢ b)) (sym are) (idents_apart c one names apart)
