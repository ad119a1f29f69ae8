-- Which pairs stay, where the machine changes, a lock is set, or something leaves.
use Rattle.std.proofs.Common.{◌≡◌, ◌≢◌, Bool, not, List, Contains, ap, sym, ◌∙◌, subst}
use Rattle.std.proofs.lemmas.Bool.{false≢true}
use Rattle.cache_ident.specs.declared.classes.Class.{Class}
use Rattle.cache_ident.specs.declared.idents.Ident.{Ident}
use Rattle.cache_ident.specs.declared.names.Name.{Name}
use Rattle.cache_ident.specs.Residents.{Resident, without, locked_if, with_lock}
use Rattle.cache_ident.specs.Rolls.{is_same}
use Rattle.cache_ident.proofs.RollLemmas.{is_same-refl}
use Rattle.depend_lists.specs.declared.nodes.Node.{Node}
use Rattle.depend_lists.specs.Pairs.{IsChild}
use Rattle.depend_lists.specs.Pairs.{without as pairs_without}
use Rattle.journal_laws.specs.flat_state.specs.State.{FlatState}
use Rattle.journal_laws.specs.flat_state.specs.Dependence.{parents, Depends}
use Rattle.journal_laws.specs.flat_state.specs.Names.{class_of}
use Rattle.journal_laws.specs.flat_laws.proofs.Members.{Contains-filter, Contains-map, Contains-from_map}
use Rattle.journal_laws.specs.run_journal.specs.Groups.{node_of, ArePairsOf, NothingDependsOn}
use Rattle.journal_laws.specs.run_journal.proofs.Others.{Contains-from_filter, without_cases, stays_without, locked_keeps, differ}
use Rattle.journal_laws.specs.Leaving.{HaveOneEach}

-- ---- another state

module _ (s t : FlatState) (rs : List Resident) (pairs : List (Ident × Node)) (same : (r : Resident) → Contains rs r → (parents t r.name ≡ parents s r.name) × (class_of t r.name ≡ class_of s r.name)) where
  same_node : (r : Resident) → Contains rs r → node_of s r ≡ node_of t r
  same_node r there =
      let with_class : Class → Node = λ class. record { ident = r.ident; class = class } in
      ap with_class (sym (same r there).1)

  pub same_keeps : ArePairsOf s rs pairs → ArePairsOf t rs pairs
  same_keeps are = record {
    sound = λ pair there. let of = are.sound pair there in record {
      parent = of.parent;
      child = of.child;
      parent_there = of.parent_there;
      child_there = of.child_there;
      of_parent = of.of_parent;
      of_child = of.of_child ∙ same_node of.child of.child_there;
      depends = subst (λ (names : List Name). Contains names of.parent.name) (sym (same of.child of.child_there).0) of.depends;
    };
    complete = λ parent child parent_there child_there depends.
        subst (λ (node : Node). Contains pairs (parent.ident, node)) (same_node child child_there) (are.complete parent child parent_there child_there (subst (λ (names : List Name). Contains names parent.name) (same child child_there).0 depends));
  }

-- ---- a lock

module _ (s : FlatState) (rs : List Resident) (pairs : List (Ident × Node)) (ident : Ident) (locked : Bool) where
  abbrev after : Resident → Resident
  after = locked_if ident locked

  -- what each was before
  before : (r : Resident) → Contains (with_lock ident locked rs) r → (q : Resident) × Contains rs q × (q.ident ≡ r.ident) × (q.name ≡ r.name)
  before r there =
      let from = Contains-from_map after rs r there in
      (from.0, from.1, sym (locked_keeps ident locked from.0).0 ∙ ap (λ (x : Resident). x.ident) from.2, sym (locked_keeps ident locked from.0).1 ∙ ap (λ (x : Resident). x.name) from.2)

  abbrev node_by : Ident → Name → Node
  node_by i name = record { ident = i; class = class_of s name }

  pub lock_keeps : ArePairsOf s rs pairs → ArePairsOf s (with_lock ident locked rs) pairs
  lock_keeps are = record {
    sound = λ pair there.
        let of = are.sound pair there in
        let parent = locked_keeps ident locked of.parent in
        let child = locked_keeps ident locked of.child in
        record {
          parent = after of.parent;
          child = after of.child;
          parent_there = Contains-map after rs of.parent of.parent_there;
          child_there = Contains-map after rs of.child of.child_there;
          of_parent = of.of_parent ∙ sym parent.0;
          of_child = of.of_child ∙ sym (ap (λ (i : Ident). node_by i (after of.child).name) child.0 ∙ ap (node_by of.child.ident) child.1);
          depends = subst (λ (name : Name). Depends s name (after of.parent).name) (sym child.1) (subst (Depends s of.child.name) (sym parent.1) of.depends);
        };
    complete = λ parent child parent_there child_there depends.
        let p = before parent parent_there in
        let c = before child child_there in
        let pair = are.complete p.0 c.0 p.1 c.1 (subst (λ (name : Name). Depends s name p.0.name) (sym c.3) (subst (Depends s child.name) (sym p.3) depends)) in
        subst (λ (i : Ident). Contains pairs (i, node_of s child)) p.2 (subst (λ (node : Node). Contains pairs (p.0.ident, node)) (ap (λ (i : Ident). node_by i c.0.name) c.2 ∙ ap (node_by child.ident) c.3) pair);
  }

-- ---- a departure

module _ (s : FlatState) (rs : List Resident) (pairs : List (Ident × Node)) (one : HaveOneEach rs) (r : Resident) (there : Contains rs r) (last : NothingDependsOn s rs r.name) where
  abbrev stays : Ident × Node → Bool
  stays pair = not (is_same pair.1.ident r.ident)

  pub leave_keeps : ArePairsOf s rs pairs → ArePairsOf s (without r.ident rs) (pairs_without pairs r.ident)
  leave_keeps are = record {
    sound = λ pair kept.
        let was = Contains-filter stays pairs pair kept in
        let of = are.sound pair was.0 in
        let other_child : of.child.ident ≢ r.ident = λ same. false≢true (ap not (sym (ap (λ (i : Ident). is_same i r.ident) (ap (λ (n : Node). n.ident) of.of_child ∙ same) ∙ is_same-refl r.ident)) ∙ was.1) in
        let other_parent : of.parent.ident ≢ r.ident = λ same. last of.child of.child_there (subst (λ (p : Resident). Depends s of.child.name p.name) (one.idents of.parent r of.parent_there there same) of.depends) in
        record {
          parent = of.parent;
          child = of.child;
          parent_there = stays_without r.ident rs of.parent of.parent_there other_parent;
          child_there = stays_without r.ident rs of.child of.child_there other_child;
          of_parent = of.of_parent;
          of_child = of.of_child;
          depends = of.depends;
        };
    complete = λ parent child parent_there child_there depends.
        let p = without_cases r.ident rs parent parent_there in
        let c = without_cases r.ident rs child child_there in
        Contains-from_filter stays pairs (parent.ident, node_of s child) (are.complete parent child p.0 c.0 depends) (ap not (differ child.ident r.ident c.1));
  }

-- what left is no child any more
pub no_child_left : (pairs : List (Ident × Node)) (ident : Ident) → IsChild (pairs_without pairs ident) ident → ⊥
no_child_left pairs ident is =
    let was = Contains-filter (λ (pair : Ident × Node). not (is_same pair.1.ident ident)) pairs is.0 is.1.0 in
    false≢true (ap not (sym (ap (λ (i : Ident). is_same i ident) is.1.1 ∙ is_same-refl ident)) ∙ was.1)
