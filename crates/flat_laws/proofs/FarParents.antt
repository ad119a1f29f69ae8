-- All that a name depends on: the list is exact, and short.
use Rattle.std.proofs.Common.{◌≡◌, ℕ, zero, suc, List, [], ◌∷◌, Option, Some, None, slice_get, Contains, refl, ap, sym, ◌∙◌, subst, inl, inr, arith}
use Rattle.std.specs.Prelude.{◌==◌}
use Rattle.std.specs.List.{flat_map}
use Rattle.std.proofs.lemmas.Bool.{and_parts, eqb-true}
use Rattle.std.proofs.lemmas.List.Elements.{Contains-append_cases}
use Rattle.std.proofs.lemmas.Option.{same_Some}
use Rattle.cache_ident.specs.declared.names.SpaceNo.{SpaceNo}
use Rattle.cache_ident.specs.declared.names.ThreadNo.{ThreadNo}
use Rattle.cache_ident.specs.declared.names.Vpn.{Vpn}
use Rattle.cache_ident.specs.declared.names.Name.{Name}
use Rattle.cache_ident.specs.declared.names.Name.TheVariants.{Kernel, Space, Thread, Mapping}
use Rattle.cache_ident.proofs.Numbers.{same_space, same_vpn}
use Rattle.phys_groups.specs.declared.rows.Row.{Row}
use Rattle.phys_groups.specs.Translation.{is_row_of, row_of}
use Rattle.flat_state.specs.declared.records.FlatThread.{FlatThread}
use Rattle.flat_state.specs.State.{FlatState}
use Rattle.phys_groups.specs.Rows.{row_name}
use Rattle.flat_state.specs.Dependence.{parents_of_found, parents, up, all_parents, DependsFar, directly, further}
use Rattle.flat_state.specs.WellFormed.{IsWellFormed}
use Rattle.flat_state.proofs.Places.{Contains-from_get}
use Rattle.flat_laws.proofs.Members.{Contains-cases, Contains-from_flat_map, found_place}
use Rattle.flat_laws.proofs.ShortChains.{AreFew, AreIn, In, space_in, thread_in, accessed_in, closed, up_in, few}
use Rattle.flat_laws.proofs.WholeChains.{at_most_four, below, first_in_up, whole}

-- what is reached from names that the child depends on, it depends on too
up_far : (s : FlatState) (child : Name) (steps : ℕ) (names : List Name) → ((name : Name) → Contains names name → DependsFar s child name) → (name : Name) → Contains (up steps s names) name → DependsFar s child name
up_far s child zero names far name there = far name there
up_far s child (suc steps) names far name there = elim (Contains-append_cases names (up steps s (flat_map (parents s) names)) name there) [
  | inl first ↦ far name first
  | inr later ↦ up_far s child steps (flat_map (parents s) names) (λ x above. let between = Contains-from_flat_map (parents s) names x above in further (far between.0 between.1) between.2) name later
]

pub is_far : (s : FlatState) (child parent : Name) → Contains (all_parents s child) parent → DependsFar s child parent
unfolding all_parents
is_far s child parent there = up_far s child 3 (parents s child) (λ name depends. directly depends) parent there

module _ (s : FlatState) (formed : IsWellFormed s) where
  pub far_is_there : (child parent : Name) → DependsFar s child parent → Contains (all_parents s child) parent
  unfolding all_parents
  far_is_there child parent (directly depends) = first_in_up s formed 3 (parents s child) parent depends
  far_is_there child parent (further {between} far depends) =
      whole s formed 3 (parents s child) (λ name first. let lt = below s formed child name first in let four = at_most_four s formed child in omega arith) between parent (far_is_there child between far) depends

-- one name alone
one_name : (name : Name) → AreFew (name ∷ [])
one_name name = record {
  kernels = record { among = name ∷ []; few = omega arith; all = λ other kind there. there };
  spaces = record { among = name ∷ []; few = omega arith; all = λ other kind there. there };
  threads = record { among = name ∷ []; few = omega arith; all = λ other kind there. there };
  rows = record { among = name ∷ []; few = omega arith; all = λ other kind there. there };
}

-- .. that depends on nothing
alone : (s : FlatState) (name : Name) → parents s name ≡ [] → AreFew (name ∷ all_parents s name)
unfolding all_parents
alone s name none = subst (λ (names : List Name). AreFew (name ∷ up 3 s names)) (sym none) (one_name name)

module _ (s : FlatState) (formed : IsWellFormed s) where
  module _ (space : SpaceNo) (own : Option ThreadNo) (d : Option Row) (are : AreIn s space own None d) where
    with_parents : (name : Name) → In s formed space own None d are name → AreFew (name ∷ all_parents s name)
    unfolding all_parents
    with_parents name inside = few s formed space own None d are (name ∷ all_parents s name) (λ other there. elim (Contains-cases name (up 3 s (parents s name)) other there) [
      | inl same ↦ subst (In s formed space own None d are) same inside
      | inr above ↦ up_in s formed space own None d are 3 (parents s name) (λ parent depends. closed s formed space own None d are name parent inside depends) other above
    ])

  no_row : (row : Row) → None ≡ Some row → ⊥
  no_row row e = cc

  space_few : (space : SpaceNo) → AreFew (Space space ∷ all_parents s (Space space))
  space_few space =
      let are : AreIn s space None None None = record { thread = λ thread u is there. absurd (cc); fetched = λ row is. absurd (no_row row is); accessed = λ row is. absurd (no_row row is) } in
      with_parents space None None are (Space space) (space_in s formed space None None None are)

  thread_few : (thread : ThreadNo) (o : Option FlatThread) → slice_get s.threads thread.0 ≡ o → AreFew (Thread thread ∷ all_parents s (Thread thread))
  unfolding parents
  thread_few thread None none = alone s (Thread thread) (rw none refl)
  thread_few thread (Some t) here =
      let are : AreIn s t.space (Some thread) None None = record {
        thread = λ other u is there. own_space other u is there;
        fetched = λ row is. absurd (no_row row is);
        accessed = λ row is. absurd (no_row row is);
      } in
      with_parents t.space (Some thread) None are (Thread thread) (thread_in s formed t.space (Some thread) None None are thread refl)
    where
      own_space : (other : ThreadNo) (u : FlatThread) → Some thread ≡ Some other → slice_get s.threads other.0 ≡ Some u → u.space ≡ t.space
      own_space other u is there =
          let at : slice_get s.threads thread.0 ≡ Some u = subst (λ (x : ThreadNo). slice_get s.threads x.0 ≡ Some u) (sym (same_Some thread other is)) there in
          ap (λ (x : FlatThread). x.space) (same_Some u t (sym at ∙ here))

  row_few : (space : SpaceNo) (vpn : Vpn) (o : Option Row) → row_of s.rows space vpn.0 ≡ o → AreFew (Mapping space vpn ∷ all_parents s (Mapping space vpn))
  unfolding parents
  row_few space vpn None none = alone s (Mapping space vpn) (ap (parents_of_found s) none)
  row_few space vpn (Some row) found =
      let place = found_place (is_row_of space vpn.0) s.rows row found in
      let parts = and_parts (row.space.0 == space.0) (row.vpn.0 == vpn.0) place.2 in
      let there : Contains s.rows row = Contains-from_get s.rows place.0 row place.1 in
      let are : AreIn s row.space None None (Some row) = record {
        thread = λ thread u is there. absurd (cc);
        fetched = λ other is. absurd (no_row other is);
        accessed = λ other is. subst (λ (x : Row). Contains s.rows x × (x.space ≡ row.space)) (same_Some row other is) (there, refl);
      } in
      subst (λ (x : SpaceNo). AreFew (Mapping x vpn ∷ all_parents s (Mapping x vpn))) (same_space row.space space (eqb-true row.space.0 space.0 parts.0))
      (subst (λ (x : Vpn). AreFew (Mapping row.space x ∷ all_parents s (Mapping row.space x))) (same_vpn row.vpn vpn (eqb-true row.vpn.0 vpn.0 parts.1))
      (with_parents row.space None (Some row) are (row_name row) (accessed_in s formed row.space None None (Some row) are row refl)))

  pub name_is_few : (name : Name) → AreFew (name ∷ all_parents s name)
  unfolding parents
  name_is_few (Kernel kernel) = alone s (Kernel kernel) refl
  name_is_few (Space space) = space_few space
  name_is_few (Thread thread) = thread_few thread (slice_get s.threads thread.0) refl
  name_is_few (Mapping space vpn) = row_few space vpn (row_of s.rows space vpn.0) refl
