-- What was gathered so far, and what is gathered in the end.
use Rattle.std.proofs.Common.{◌≡◌, ◌≢◌, ℕ, Bool, true, false, refl, ◌+◌, ◌<◌, ◌≤◌, List, [], ◌∷◌, ◌++◌, length, get_or, map, All, Contains, Option, Some, None, sym, ◌∙◌, ap, subst, ◌⊎◌, inl, inr, arith}
use Rattle.std.proofs.Math.ListN.{set}
use Rattle.std.specs.Iterator.{Yields, YieldsFirst}
use Rattle.std.proofs.lemmas.Iterator.Consumers.{YieldsList-end, YieldsList-from_first, YieldsList-turn}
use Rattle.std.proofs.lemmas.List.{append_assoc, get_or_append_left, get_or_default, map-append, map-id, map_push}
use Rattle.std.proofs.lemmas.List.Elements.{All-contains, All-push, Contains-append_left, Contains-get_or, Contains-push, Contains-push_cases}
use Rattle.std.proofs.lemmas.List.Quantifiers.{all_pairs_push}
use Rattle.std.proofs.lemmas.Bool.{cases_lt, false≢true}
use Rattle.cache_ident.specs.declared.idents.Ident.{Ident}
use Rattle.cache_ident.specs.declared.names.Caps.{Caps}
use Rattle.depend_lists.specs.declared.nodes.Node.{Node}
use Rattle.depend_lists.specs.Pairs.{children_of, count_of, place_of, IsAloneAt, IsChild, IsProper}
use Rattle.sorted_list.proofs.ListLemmas.{Contains-from_map, Contains-map}
use Rattle.depend_lists.proofs.PairLemmas.{same_node}
use Rattle.depend_lists.proofs.ChildLemmas.{child_of_pair, pair_of_child}
use Rattle.depend_lists.proofs.CountLemmas.{all_children, few_by_key}
use Rattle.writeback_order.specs.Order.{DependsOn, directly, further, IsClosure}
use Rattle.writeback_order.specs.Gathering.{places_of, HasChildrenOf, IsExtended, IsGathered, IsMarked, IsUnder}
use Rattle.writeback_order.proofs.DistinctLemmas.{count_once}
use Rattle.writeback_order.proofs.MarkLemmas.{marked_more}

abbrev ident_of : Node → Ident
ident_of node = node.ident

-- what depends stands in a pair
pub parent_of : (pairs : List (Ident × Node)) (root : Ident) (node : Node) → DependsOn pairs root node → (parent : Ident) × Contains pairs (parent, node)
parent_of pairs root node (directly there) = (root, there)
parent_of pairs root node (further {between = between} before there) = (between.ident, there)

-- so it is a child
pub reached_child : (pairs : List (Ident × Node)) (root : Ident) (node : Node) → DependsOn pairs root node → IsChild pairs node.ident
reached_child pairs root node depends =
    let parent = parent_of pairs root node depends in
    ((parent.0, node), (parent.1, refl))

module _ (pairs : List (Ident × Node)) (root : Ident) (nodes : List Node) (gathered : IsGathered pairs root nodes) where
  -- what was gathered is no more than the capacities allow
  pub few_gathered : (caps : Caps) → IsProper (record { caps = caps; pairs = pairs }) → length nodes ≤ count_of caps
  few_gathered caps proper =
      let all = all_children caps pairs proper.within in
      let among : (node : Node) → Contains nodes node → Contains all.0 node.ident = λ node there.
      let parent = parent_of pairs root node (gathered.reached node there).0 in
      all.1.1 (parent.0, node) parent.1 in
      omega (arith, all.1.0, few_by_key ident_of 1 all.0 nodes among (count_once ident_of nodes gathered.apart))

  module _ (marks : List Bool) (marked : IsMarked pairs nodes marks) (child : Ident) (place : ℕ) where
    -- a child whose mark is set was gathered
    pub gathered_before : IsAloneAt pairs child place → get_or marks place false ≡ true → Contains (map (λ node. node.ident) nodes) child
    gathered_before alone is_set =
        let found = Contains-from_map (λ (node : Node). place_of pairs node.ident) nodes place ((marked place).0 is_set) in
        let same = alone found.0.ident (reached_child pairs root found.0 (gathered.reached found.0 found.1).0) found.2 in
        subst (Contains (map ident_of nodes)) same (Contains-map ident_of nodes found.0 found.1)

    -- and one whose mark isn't set was not
    pub not_before : place ≡ place_of pairs child → get_or marks place false ≡ false → Contains (map (λ node. node.ident) nodes) child → ⊥
    not_before is unset there =
        let found = Contains-from_map ident_of nodes child there in
        let at = Contains-map (λ (node : Node). place_of pairs node.ident) nodes found.0 found.1 in
        false≢true (sym unset ∙ (marked place).1 (subst (Contains (places_of pairs nodes)) (ap (place_of pairs) found.2 ∙ sym is) at))

  -- a child that wasn't gathered is so now
  pub gathered_more : (child : Node) → DependsOn pairs root child → child.ident ≢ root → (Contains (map (λ node. node.ident) nodes) child.ident → ⊥) → IsGathered pairs root (nodes ++ child ∷ [])
  gathered_more child depends apart absent = record {
    reached = λ node there. elim (Contains-push_cases nodes child node there) [
      | inl was ↦ gathered.reached node was
      | inr same ↦ (subst (DependsOn pairs root) same depends, λ at. apart (ap ident_of same ∙ at))
    ];
    apart = all_pairs_push (λ a b. a.ident ≢ b.ident) nodes child gathered.apart (λ k d lt same. absent (subst (Contains (map ident_of nodes)) same (Contains-map ident_of nodes (get_or nodes k d) (Contains-get_or nodes k d lt))));
  }

module _ (pairs : List (Ident × Node)) (root : Ident) (nodes : List Node) where
  -- a longer list has the children too
  pub has_children_more : (parent : Ident) (longer : List Node) → IsExtended nodes longer → HasChildrenOf pairs root parent nodes → HasChildrenOf pairs root parent longer
  has_children_more parent longer more has node there = elim (has node there) [
    | inl is_root ↦ inl is_root
    | inr marked ↦ inr (rw (more.1, map-append (λ (n : Node). n.ident) nodes more.0) (Contains-append_left (map (λ node. node.ident) nodes) (map (λ node. node.ident) more.0) node.ident marked))
  ]

  module _ (of_root : HasChildrenOf pairs root root nodes) (of_nodes : (node : Node) → Contains nodes node → HasChildrenOf pairs root node.ident nodes) where
    -- where the children of the root and of each node are there, all that depends is there
    all_marked : (node : Node) → DependsOn pairs root node → (node.ident ≡ root) ⊎ Contains (map (λ node. node.ident) nodes) node.ident
    all_marked node (directly there) = of_root node there
    all_marked node (further {between = between} before there) = elim (all_marked between before) [
      | inl is_root ↦ of_root node (subst (λ i. Contains pairs (i, node)) is_root there)
      | inr marked ↦
          let found = Contains-from_map (λ (n : Node). n.ident) nodes between.ident marked in
          of_nodes found.0 found.1 node (subst (λ i. Contains pairs (i, node)) (sym found.2) there)
    ]

    -- and nothing else
    pub closure_from_children : (caps : Caps) → IsProper (record { caps = caps; pairs = pairs }) → ((node : Node) → Contains nodes node → DependsOn pairs root node × (node.ident ≢ root)) → IsClosure pairs root nodes
    closure_from_children caps proper reached node = (
      reached node,
      λ depends. elim (all_marked node depends.0) [
        | inl is_root ↦ absurd (depends.1 is_root)
        | inr marked ↦
            let found = Contains-from_map (λ (n : Node). n.ident) nodes node.ident marked in
            let its = parent_of pairs root found.0 (reached found.0 found.1).0 in
            let parent = parent_of pairs root node depends.0 in
            subst (Contains nodes) (same_node found.0 node found.2 (proper.one_class (parent.0, node) parent.1 (its.0, found.0) its.1 found.2)) found.1
      ],
    )

module _ (pairs : List (Ident × Node)) (parent : Ident) (child : Node) (listed : Contains (children_of pairs parent) child) where
  -- what is listed under a parent is a child
  pub listed_child : IsChild pairs child.ident
  listed_child = ((parent, child), (pair_of_child pairs parent child listed, refl))

  -- and depends, where the children of that parent do
  pub listed_depends : (root : Ident) → IsUnder pairs root parent → DependsOn pairs root child
  listed_depends root under = under child (pair_of_child pairs parent child listed)

module _ (pairs : List (Ident × Node)) (parent : Ident) (start : List Node) (are : start ≡ children_of pairs parent) (gone left : List Node) (yielded : Yields (YieldsFirst (λ (left : List Node). left)) start gone left) (item : Option Node) (rest : List Node) (next : YieldsFirst (λ (left : List Node). left) left item rest) where
  -- what comes while the children of a parent are gone over is one of them
  pub comes_listed : (child : Node) → item ≡ Some child → Contains (children_of pairs parent) child
  comes_listed child is =
      let turn = YieldsList-turn (YieldsList-from_first (λ node. node) (λ left. left) (children_of pairs parent) are) gone left yielded item rest child is next in
      (length gone, turn.0, sym turn.1)

  -- and in the end all have come
  pub all_came : item ≡ None → gone ≡ children_of pairs parent
  all_came none = sym (map-id gone) ∙ (YieldsList-end (YieldsList-from_first (λ node. node) (λ left. left) (children_of pairs parent) are) gone left yielded item rest none next).0

-- these children are there: each is the root or was gathered
abbrev pub AreThere : Ident → List Node → List Node → Type 0
AreThere root nodes children = All (λ child. (child.ident ≡ root) ⊎ Contains (map (λ node. node.ident) nodes) child.ident) children

-- the state after some children: what was gathered at first, and these
pub record HasCome (pairs : List (Ident × Node)) (root : Ident) (first nodes : List Node) (marks : List Bool) (gone : List Node) : Type 0 where
  pub gathered : IsGathered pairs root nodes
  pub marked : IsMarked pairs nodes marks
  pub extended : IsExtended first nodes
  pub there : AreThere root nodes gone

module _ (pairs : List (Ident × Node)) (root : Ident) (first nodes : List Node) (marks : List Bool) (gone : List Node) (come : HasCome pairs root first nodes marks gone) (child : Node) where
  -- one more child, which is there
  pub come_past : (child.ident ≡ root) ⊎ Contains (map (λ node. node.ident) nodes) child.ident → HasCome pairs root first nodes marks (gone ++ child ∷ [])
  come_past here = record {
    gathered = come.gathered;
    marked = come.marked;
    extended = come.extended;
    there = All-push (λ (c : Node). (c.ident ≡ root) ⊎ Contains (map (λ node. node.ident) nodes) c.ident) gone child come.there here;
  }

  -- or which is gathered now
  pub come_new : (place : ℕ) → DependsOn pairs root child → child.ident ≢ root → place ≡ place_of pairs child.ident → place < length marks → get_or marks place false ≡ false → HasCome pairs root first (nodes ++ child ∷ []) (set marks place true) (gone ++ child ∷ [])
  come_new place depends apart is has_mark unset =
      let longer = nodes ++ child ∷ [] in
      let idents = map_push ident_of nodes child in
      record {
        gathered = gathered_more pairs root nodes come.gathered child depends apart (not_before pairs root nodes come.gathered marks come.marked child.ident place is unset);
        marked = marked_more pairs nodes marks child place is has_mark come.marked;
        extended = (come.extended.0 ++ child ∷ [], ap (λ ns. ns ++ child ∷ []) come.extended.1 ∙ append_assoc first come.extended.0 (child ∷ []));
        there = All-push (λ (c : Node). (c.ident ≡ root) ⊎ Contains (map (λ node. node.ident) longer) c.ident) gone child (λ k d lt. elim (come.there k d lt) [
          | inl is_root ↦ inl is_root
          | inr was ↦ inr (rw idents (Contains-append_left (map ident_of nodes) (child.ident ∷ []) (get_or gone k d).ident was))
        ]) (inr (rw idents (Contains-push (map ident_of nodes) child.ident)));
      }

-- each child of a parent whose children were gone through is there
pub has_children_all : (pairs : List (Ident × Node)) (root parent : Ident) (nodes : List Node) → AreThere root nodes (children_of pairs parent) → HasChildrenOf pairs root parent nodes
has_children_all pairs root parent nodes each node there = All-contains (λ (c : Node). (c.ident ≡ root) ⊎ Contains (map (λ node. node.ident) nodes) c.ident) (children_of pairs parent) node each (child_of_pair pairs parent node there)

-- what depends on the root over one pair
pub under_root : (pairs : List (Ident × Node)) (root : Ident) → IsUnder pairs root root
under_root pairs root node there = directly there

-- and over one pair more
pub under_node : (pairs : List (Ident × Node)) (root : Ident) (node : Node) → DependsOn pairs root node → IsUnder pairs root node.ident
under_node pairs root node depends child there = further depends there

-- the children of the first n nodes are there
abbrev pub HasChildrenBefore : List (Ident × Node) → Ident → List Node → ℕ → Type 0
HasChildrenBefore pairs root nodes n = (k : ℕ) (d : Node) → k < n → HasChildrenOf pairs root (get_or nodes k d).ident nodes

-- and of one more
pub children_before_more : (pairs : List (Ident × Node)) (root : Ident) (nodes longer : List Node) (n : ℕ) (e : Node) → n < length nodes → IsExtended nodes longer → HasChildrenBefore pairs root nodes n → HasChildrenOf pairs root (get_or nodes n e).ident longer → HasChildrenBefore pairs root longer (n + 1)
children_before_more pairs root nodes longer n e within more before here k d lt = elim (cases_lt k n) [
  | inl earlier ↦ at k (omega arith) (has_children_more pairs root nodes (get_or nodes k d).ident longer more (before k d earlier))
  | inr not_earlier ↦
      let same : n ≡ k = omega arith in
      at k (omega arith) (subst (λ node. HasChildrenOf pairs root node.ident longer) (get_or_default nodes n e d within ∙ ap (λ k. get_or nodes k d) same) here)
]
  where
    at : (k : ℕ) → k < length nodes → HasChildrenOf pairs root (get_or nodes k d).ident longer → HasChildrenOf pairs root (get_or longer k d).ident longer
    at k in_nodes has = subst (λ node. HasChildrenOf pairs root node.ident longer) (sym (ap (λ ns. get_or ns k d) more.1 ∙ get_or_append_left nodes more.0 d k in_nodes)) has
