-- What is kept stays as the group of a victim leaves.
use Rattle.std.proofs.Common.{List, [], ◌∷◌, Contains, sym, subst, inl, inr}
use Rattle.std.proofs.lemmas.List.Elements.{Contains-append_cases, Contains-append_right}
use Rattle.cache_ident.specs.declared.idents.Ident.{Ident}
use Rattle.cache_ident.specs.declared.names.Name.{Name}
use Rattle.cache_ident.specs.Residents.{Resident}
use Rattle.depend_lists.specs.declared.nodes.Node.{Node}
use Rattle.sorted_list.proofs.ListLemmas.{Contains-from_map, Contains-map}
use Rattle.desc_groups.specs.writeback_order.specs.Order.{directly, further, DependsOn}
use Rattle.desc_groups.specs.flat_state.specs.State.{FlatState}
use Rattle.desc_groups.specs.flat_state.specs.Dependence.{Depends}
use Rattle.desc_groups.specs.flat_laws.proofs.Members.{Contains-here, Contains-cases, contains_nothing}
use Rattle.desc_groups.specs.run_journal.specs.Groups.{node_of, ArePairsOf, HasParents, IsGroup}
use Rattle.desc_groups.specs.group_laws.specs.Leaving.{without_all}
use Rattle.desc_groups.specs.group_laws.proofs.Remaining.{stays_without_all}

abbrev ident_of : Node → Ident
ident_of node = node.ident

module _ (s : FlatState) (rs : List Resident) (keep : List Ident) where
  -- all that what is kept depends on is kept
  abbrev pub KeepsParentsOfKept : Type 0
  KeepsParentsOfKept = (r parent : Resident) → Contains rs r → Contains keep r.ident → Contains rs parent → Depends s r.name parent.name → Contains keep parent.ident

  module _ (closed : KeepsParentsOfKept) where
    parent_kept : (pairs : List (Ident × Node)) → ArePairsOf s rs pairs → (root : Ident) (node : Node) → Contains pairs (root, node) → Contains keep node.ident → Contains keep root
    parent_kept pairs are root node there kept =
        let pair = are.sound (root, node) there in
        let child : Contains keep pair.child.ident = subst (λ (n : Node). Contains keep n.ident) pair.of_child kept in
        subst (Contains keep) (sym pair.of_parent) (closed pair.child pair.parent pair.child_there child pair.parent_there pair.depends)

    root_kept : (pairs : List (Ident × Node)) → ArePairsOf s rs pairs → (root : Ident) (node : Node) → DependsOn pairs root node → Contains keep node.ident → Contains keep root
    root_kept pairs are root node (directly there) kept = parent_kept pairs are root node there kept
    root_kept pairs are root node (further {between = between} before there) kept = root_kept pairs are root between before (parent_kept pairs are between.ident node there kept)

    -- what is kept isn't of the group of what isn't
    pub kept_stays : (last : Resident) (idents : List Ident) → IsGroup s rs last idents → (Contains keep last.ident → ⊥) → (ident : Ident) → Contains keep ident → Contains idents ident → ⊥
    kept_stays last idents group not_kept ident kept gone =
        let node = Contains-from_map ident_of group.nodes ident (subst (λ (is : List Ident). Contains is ident) group.whole gone) in
        let its : Contains keep node.0.ident = subst (Contains keep) (sym node.2) kept in
        elim (Contains-append_cases group.order.dependents (node_of s last ∷ []) node.0 (subst (λ (ns : List Node). Contains ns node.0) group.order.root_last node.1)) [
          | inl dependent ↦ not_kept (root_kept group.pairs group.are last.ident node.0 ((group.order.closure node.0).0 dependent).0 its)
          | inr root ↦ elim (Contains-cases (node_of s last) [] node.0 root) [
            | inl same ↦ not_kept (subst (λ (n : Node). Contains keep n.ident) (sym same) its)
            | inr none ↦ contains_nothing node.0 none
          ]
        ]

    -- so what depends on what is kept alone still has all of it
    pub parents_stay : (last : Resident) (idents : List Ident) → IsGroup s rs last idents → (Contains keep last.ident → ⊥) → (loading : Name) → HasParents s rs loading → ((r : Resident) → Contains rs r → Depends s loading r.name → Contains keep r.ident) → HasParents s (without_all idents rs) loading
    parents_stay last idents group not_kept loading has direct parent depends =
        let found = has parent depends in
        let kept = direct found.0 found.1 (subst (Depends s loading) (sym found.2) depends) in
        (found.0, stays_without_all idents rs found.0 found.1 (kept_stays last idents group not_kept found.0.ident kept), found.2)

-- the last one of a group leaves with it
pub last_leaves : (s : FlatState) (rs : List Resident) (last : Resident) (idents : List Ident) → IsGroup s rs last idents → Contains idents last.ident
last_leaves s rs last idents group =
    let node = node_of s last in
    let there : Contains group.nodes node = subst (λ (ns : List Node). Contains ns node) (sym group.order.root_last) (Contains-append_right group.order.dependents (node ∷ []) node (Contains-here node [])) in
    subst (λ (is : List Ident). Contains is last.ident) (sym group.whole) (Contains-map ident_of group.nodes node there)
