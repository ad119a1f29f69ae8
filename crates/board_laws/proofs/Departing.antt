-- The entries of a group, and what they tell.
use Rattle.std.proofs.Common.{◌≡◌, ℕ, List, [], ◌∷◌, ◌++◌, map, Contains, refl, ap, sym, ◌∙◌, subst, inl, inr}
use Rattle.std.proofs.lemmas.List.{map-append}
use Rattle.std.proofs.lemmas.List.Elements.{Contains-push_cases}
use Rattle.cache_ident.specs.declared.idents.Cause.{Cause}
use Rattle.cache_ident.specs.declared.idents.Cause.TheVariants as causes
use Rattle.cache_ident.specs.declared.idents.Ident.{Ident}
use Rattle.cache_ident.specs.Residents.{Resident, without, IsIdentResident}
use Rattle.quantum.specs.depend_lists.specs.declared.nodes.Node.{Node}
use Rattle.quantum.specs.writeback_order.specs.Order.{DependsOn, directly, further}
use Rattle.quantum.specs.flat_state.specs.State.{FlatState}
use Rattle.quantum.specs.flat_laws.proofs.Members.{Contains-from_map}
use Rattle.desc_tables.specs.run_journal.specs.declared.entries.Entry.{Entry}
use Rattle.desc_tables.specs.run_journal.specs.declared.entries.Entry.TheVariants.{WrittenBack}
use Rattle.desc_tables.specs.run_journal.specs.Told.{Anything, Load, Told, told_of, told_after, told_from}
use Rattle.desc_tables.specs.run_journal.specs.Groups.{node_of, IsGroup, departures}
use Rattle.desc_tables.specs.group_laws.specs.Leaving.{without_all}
use Rattle.desc_tables.specs.group_laws.proofs.Remaining.{without_all-push}
use Rattle.desc_tables.specs.desc_groups.specs.declared.departures.Gone.{Gone}
use Rattle.desc_tables.specs.desc_groups.specs.Moves.{gone_as}
use Rattle.desc_tables.specs.desc_groups.proofs.LeaveLemmas.{ident_of}
use Rattle.board_laws.specs.Moves.{written_back}

-- what is told once a group has left
pub told_unloaded : (cpu : ℕ) (nodes : List Node) (last : Ident) (k : Told) → told_from k (departures cpu nodes last causes.Unloaded) ≡ told_of k.state k.sealed k.loads (without last (without_all (map ident_of nodes) k.residents)) Anything
told_unloaded cpu [] last k = refl
told_unloaded cpu (n ∷ nodes) last k = told_unloaded cpu nodes last (told_after k (WrittenBack n.ident causes.Dependent cpu))

pub told_displaced : (cpu : ℕ) (nodes : List Node) (last : Ident) (k : Told) → told_from k (departures cpu nodes last causes.Displaced) ≡ told_of k.state k.sealed k.loads (without last (without_all (map ident_of nodes) k.residents)) (Load last.kind cpu)
told_displaced cpu [] last k = refl
told_displaced cpu (n ∷ nodes) last k = told_displaced cpu nodes last (told_after k (WrittenBack n.ident causes.Dependent cpu))

-- what left, an entry each, are the entries of the group
written_group : (cpu : ℕ) (nodes : List Node) (last : Ident) (cause : Cause) → written_back cpu (gone_as cause (map ident_of nodes ++ last ∷ [])) ≡ departures cpu nodes last cause
written_group cpu [] last cause = refl
written_group cpu (n ∷ []) last cause = refl
written_group cpu (n ∷ m ∷ nodes) last cause = ap (λ (es : List Entry). WrittenBack n.ident causes.Dependent cpu ∷ es) (written_group cpu (m ∷ nodes) last cause)

module _ (s : FlatState) (rs : List Resident) (root : Resident) (idents : List Ident) (group : IsGroup s rs root idents) where
  pub group_idents : idents ≡ map ident_of group.order.dependents ++ root.ident ∷ []
  group_idents = group.whole ∙ ap (map ident_of) group.order.root_last ∙ map-append ident_of group.order.dependents (node_of s root ∷ [])

  pub group_entries : (cpu : ℕ) (cause : Cause) (gone : List Gone) → gone ≡ gone_as cause idents → written_back cpu gone ≡ departures cpu group.order.dependents root.ident cause
  group_entries cpu cause gone is = ap (written_back cpu) (is ∙ ap (gone_as cause) group_idents) ∙ written_group cpu group.order.dependents root.ident cause

  pub group_leaves_behind : without root.ident (without_all (map ident_of group.order.dependents) rs) ≡ without_all idents rs
  group_leaves_behind = sym (without_all-push (map ident_of group.order.dependents) root.ident rs) ∙ ap (λ (all : List Ident). without_all all rs) (sym group_idents)

  -- each of the group is resident before
  pub group_resident : Contains rs root → (ident : Ident) → Contains idents ident → IsIdentResident rs ident
  group_resident there ident within = elim (Contains-push_cases (map ident_of group.order.dependents) root.ident ident (subst (λ (all : List Ident). Contains all ident) group_idents within)) [
    | inl before ↦
        let n = Contains-from_map ident_of group.order.dependents ident before in
        let found = of_pair n.0 ((group.order.closure n.0).0 n.1).0 in
        (found.0, found.1, found.2 ∙ n.2)
    | inr last ↦ (root, there, last)
  ]
    where
      of_pair : (n : Node) → DependsOn group.pairs root.ident n → IsIdentResident rs n.ident
      of_pair n (directly pair) = let is = group.are.sound (root.ident, n) pair in (is.child, is.child_there, sym (ap ident_of is.of_child))
      of_pair n (further {between = between} deeper pair) = let is = group.are.sound (between.ident, n) pair in (is.child, is.child_there, sym (ap ident_of is.of_child))
