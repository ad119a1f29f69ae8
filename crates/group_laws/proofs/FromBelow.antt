-- What leaves in the order of leaving leaves from below.
use Rattle.std.proofs.Common.{◌≡◌, ◌≢◌, ℕ, ◌<◌, ◌≤◌, List, [], ◌∷◌, ◌++◌, map, length, get_or, AllPairs, Contains, append_assoc, ap, sym, ◌∙◌, subst, inl, inr, ◌⊎◌, arith}
use Rattle.std.specs.declared.cmp.Ordering.{Ordering}
use Rattle.std.specs.declared.cmp.Ordering.TheVariants.{Less, Equal, Greater}
use Rattle.std.specs.Cmp.{IsTotalOrder, nat_cmp_is}
use Rattle.std.specs.Ordering.{nat_cmp, ordering_then}
use Rattle.std.proofs.lemmas.Bool.{cases_lt}
use Rattle.std.proofs.lemmas.Cmp.{nat_cmp_total, on_total, then_total, tied_itself}
use Rattle.std.proofs.lemmas.List.{map-append, append-nil}
use Rattle.std.proofs.lemmas.List.Elements.{All-contains_itself, Contains-append_cases, Contains-append_left, Contains-append_right}
use Rattle.std.proofs.lemmas.List.Quantifiers.{all_pairs_push}
use Rattle.cache_ident.specs.declared.idents.Ident.{Ident}
use Rattle.cache_ident.specs.contracts.idents.IdentOrd.TheImpl as ident_order
use Rattle.cache_ident.specs.contracts.idents.IdentOrd.TheImpl.Laws as ident_laws
use Rattle.cache_ident.specs.declared.names.Name.{Name}
use Rattle.cache_ident.specs.Residents.{Resident, without}
use Rattle.journal_laws.specs.depend_lists.specs.declared.nodes.Node.{Node}
use Rattle.phys_groups.specs.Rows.{HasOneRowAPage}
use Rattle.journal_laws.specs.writeback_order.specs.Order.{DependsOn, directly, further, leaving_cmp, rank_of, IsOrder}
use Rattle.journal_laws.specs.flat_state.specs.State.{FlatState}
use Rattle.journal_laws.specs.flat_state.specs.Dependence.{Depends}
use Rattle.journal_laws.specs.flat_state.specs.Names.{class_of}
use Rattle.journal_laws.specs.flat_laws.proofs.Members.{Contains-here, Contains-cases, Contains-from_map, Contains-map, contains_nothing}
use Rattle.journal_laws.specs.run_journal.specs.Groups.{node_of, ArePairsOf, NothingDependsOn}
use Rattle.journal_laws.specs.run_journal.specs.Legal.{AreGood}
use Rattle.journal_laws.specs.Leaving.{HaveOneEach}
use Rattle.group_laws.specs.Leaving.{AreAgreed, without_all}
use Rattle.group_laws.proofs.Ranks.{parent_leaves_later}
use Rattle.group_laws.proofs.Remaining.{without_all_cases, stays_without_all, without_all-push, pairs_before, pairs_behind}
use Rattle.group_laws.proofs.StayingGood.{good_left}
use Rattle.group_laws.proofs.StayingOne.{one_all_left}

-- the order of leaving is a total order
leaving_total : IsTotalOrder leaving_cmp
leaving_total = then_total (then_total (on_total (λ (n : Node). rank_of n.class) nat_cmp_total) (on_total (λ (n : Node). n.ident.serial) nat_cmp_total)) (on_total (λ (n : Node). n.ident) ident_laws.total-law)

less≢equal : (o : Ordering) → o ≡ Less → o ≡ Equal → ⊥
less≢equal o less equal = let e : Less ≡ Equal = sym less ∙ equal in cc

not_itself : (n : Node) → leaving_cmp n n ≡ Less → ⊥
not_itself n before = less≢equal _ before (tied_itself leaving_total n)

-- of two that leave in this order the first has no greater rank
pub rank_of_earlier : (a b : Node) → leaving_cmp a b ≡ Less → rank_of a.class ≤ rank_of b.class
rank_of_earlier a b before = elim (cases_lt (rank_of b.class) (rank_of a.class)) [
  | inl greater ↦ absurd (differ (sym (ap (λ (o : Ordering). ordering_then (ordering_then o (nat_cmp a.ident.serial b.ident.serial)) ((ident_order.ghosts).cmp a.ident b.ident)) (nat_cmp_is (rank_of a.class) (rank_of b.class) Greater greater) ∙ before)))
  | inr least ↦ least
]
  where
    differ : Less ≡ Greater → ⊥
    differ e = cc

module _ (s : FlatState) (rs : List Resident) (pairs : List (Ident × Node)) (one : HaveOneEach rs) (are : ArePairsOf s rs pairs) where
  abbrev pub node : Resident → Node
  node = node_of s

  -- it is the node of something resident
  abbrev pub IsNode : Node → Type 0
  IsNode n = (r : Resident) × Contains rs r × (n ≡ node r)

  child_is : (parent : Ident) (n : Node) → Contains pairs (parent, n) → IsNode n
  child_is parent n there = let its = are.sound (parent, n) there in (its.child, its.child_there, its.of_child)

  -- what depends on something is the node of something resident
  dependent_is : (root : Ident) (n : Node) → DependsOn pairs root n → IsNode n
  dependent_is root n (directly there) = child_is root n there
  dependent_is root n (further {between = between} before there) = child_is between.ident n there

  -- nodes of residents with one identifier are one
  one_node : (a b : Node) → IsNode a → IsNode b → a.ident ≡ b.ident → a ≡ b
  one_node a b is_a is_b same =
      let its : is_a.0.ident ≡ is_b.0.ident = sym (ap (λ (n : Node). n.ident) is_a.2) ∙ same ∙ ap (λ (n : Node). n.ident) is_b.2 in
      is_a.2 ∙ ap node (one.idents is_a.0 is_b.0 is_a.1 is_b.1 its) ∙ sym is_b.2

  -- no identifier leaves twice
  pub leave_once : (root : Resident) (nodes : List Node) → IsOrder pairs (node root) nodes → AllPairs (λ a b. a.ident ≢ b.ident) nodes
  leave_once root nodes order =
      subst (λ (all : List Node). AllPairs (λ a b. a.ident ≢ b.ident) all) (sym order.root_last)
      (all_pairs_push (λ a b. a.ident ≢ b.ident) order.dependents (node root) among (λ k d low. ((order.closure (get_or order.dependents k d)).0 (All-contains_itself order.dependents k d low)).1))
    where
      is : (k : ℕ) (d : Node) → k < length order.dependents → IsNode (get_or order.dependents k d)
      is k d low = dependent_is root.ident (get_or order.dependents k d) ((order.closure (get_or order.dependents k d)).0 (All-contains_itself order.dependents k d low)).0

      among : AllPairs (λ a b. a.ident ≢ b.ident) order.dependents
      among i j d lt within same =
          let equal = one_node (get_or order.dependents i d) (get_or order.dependents j d) (is i d (omega arith)) (is j d within) same in
          not_itself (get_or order.dependents j d) (subst (λ (n : Node). leaving_cmp n (get_or order.dependents j d) ≡ Less) equal (order.rising i j d lt within))

  module _ (falls : (child parent : Name) → Depends s child parent → rank_of (class_of s child) < rank_of (class_of s parent)) where
    -- a pair's child has a lower rank than the resident of its parent
    falls_below : (n : Node) (r : Resident) → Contains rs r → Contains pairs (r.ident, n) → rank_of n.class < rank_of (class_of s r.name)
    falls_below n r there pair =
        let its = are.sound (r.ident, n) pair in
        let low = falls its.child.name its.parent.name its.depends in
        let parent = ap (λ (q : Resident). rank_of (class_of s q.name)) (one.idents its.parent r its.parent_there there (sym its.of_parent)) in
        let child = ap (λ (m : Node). rank_of m.class) its.of_child in
        omega arith

    module _ (root : Resident) (root_there : Contains rs root) where
      -- what depends on the root has a lower rank
      pub all_fall : (n : Node) → DependsOn pairs root.ident n → rank_of n.class < rank_of (class_of s root.name)
      all_fall n (directly there) = falls_below n root root_there there
      all_fall n (further {between = between} before there) =
          let mid = dependent_is root.ident between before in
          let low = falls_below n mid.0 mid.1 (subst (λ (m : Node). Contains pairs (m.ident, n)) mid.2 there) in
          let same = ap (λ (m : Node). rank_of m.class) mid.2 in
          let high = all_fall between before in
          omega arith

      module _ (nodes : List Node) (order : IsOrder pairs (node root) nodes) where
        -- each that leaves is the root, or depends on it
        each_is : (n : Node) → Contains nodes n → (n ≡ node root) ⊎ DependsOn pairs root.ident n
        each_is n there = elim (Contains-append_cases order.dependents (node root ∷ []) n (subst (λ (all : List Node). Contains all n) order.root_last there)) [
          | inl among ↦ inr ((order.closure n).0 among).0
          | inr last ↦ elim (Contains-cases (node root) [] n last) [
            | inl same ↦ inl (sym same)
            | inr none ↦ absurd (contains_nothing n none)
          ]
        ]

        -- so it is the node of something resident
        each_node : (n : Node) → Contains nodes n → IsNode n
        each_node n there = elim (each_is n there) [
          | inl same ↦ (root, root_there, same)
          | inr depends ↦ dependent_is root.ident n depends
        ]

        -- the ranks never fall
        ranks_rise : AllPairs (λ a b. rank_of a.class ≤ rank_of b.class) nodes
        ranks_rise =
            subst (λ (all : List Node). AllPairs (λ a b. rank_of a.class ≤ rank_of b.class) all) (sym order.root_last)
            (all_pairs_push (λ a b. rank_of a.class ≤ rank_of b.class) order.dependents (node root)
            (λ i j d lt within. rank_of_earlier (get_or order.dependents i d) (get_or order.dependents j d) (order.rising i j d lt within))
            (λ k d low. let lower = all_fall (get_or order.dependents k d) ((order.closure (get_or order.dependents k d)).0 (All-contains_itself order.dependents k d low)).0 in omega arith))

        -- what depends on one that leaves, leaves too
        child_leaves : (r child : Resident) → Contains nodes (node r) → Contains rs r → Contains rs child → Depends s child.name r.name → Contains nodes (node child)
        child_leaves r child here r_there child_there depends =
            subst (λ (all : List Node). Contains all (node child)) (sym order.root_last)
            (Contains-append_left order.dependents (node root ∷ []) (node child) ((order.closure (node child)).1 (deeper, other)))
          where
            pair : Contains pairs (r.ident, node child)
            pair = are.complete r child r_there child_there depends

            deeper : DependsOn pairs root.ident (node child)
            deeper = elim (each_is (node r) here) [
              | inl same ↦ directly (subst (λ (m : Node). Contains pairs (m.ident, node child)) same pair)
              | inr before ↦ further before pair
            ]

            other : child.ident ≢ root.ident
            other same =
                let low = all_fall (node child) deeper in
                let equal = ap (λ (q : Resident). rank_of (class_of s q.name)) (one.idents child root child_there root_there same) in
                omega arith

        pub leaves_from_below : (done todo : List Node) (n : Node) → nodes ≡ done ++ n ∷ todo → (r : Resident) × Contains (without_all (map (λ m. m.ident) done) rs) r × (n ≡ node r) × NothingDependsOn s (without_all (map (λ m. m.ident) done) rs) r.name
        leaves_from_below done todo n all = (r, still, is.2, last)
          where
            left : List Ident
            left = map (λ m. m.ident) done

            here : Contains nodes n
            here = subst (λ (ns : List Node). Contains ns n) (sym all) (Contains-append_right done (n ∷ todo) n (Contains-here n todo))

            is : IsNode n
            is = each_node n here

            r : Resident
            r = is.0

            apart : AllPairs (λ a b. a.ident ≢ b.ident) (done ++ n ∷ todo)
            apart = subst (λ (ns : List Node). AllPairs (λ a b. a.ident ≢ b.ident) ns) all (leave_once root nodes order)

            rise : AllPairs (λ a b. rank_of a.class ≤ rank_of b.class) (done ++ n ∷ todo)
            rise = subst (λ (ns : List Node). AllPairs (λ a b. rank_of a.class ≤ rank_of b.class) ns) all ranks_rise

            still : Contains (without_all left rs) r
            still =
                stays_without_all left rs r is.1
                (λ gone.
                let was = Contains-from_map (λ (m : Node). m.ident) done r.ident gone in
                pairs_before (λ a b. a.ident ≢ b.ident) done n todo apart was.0 was.1 (was.2 ∙ sym (ap (λ (m : Node). m.ident) is.2)))

            last : NothingDependsOn s (without_all left rs) r.name
            last child child_there depends =
                let was = without_all_cases left rs child child_there in
                let low = falls child.name r.name depends in
                let equal = ap (λ (m : Node). rank_of m.class) is.2 in
                let leaves = child_leaves r child (subst (λ (m : Node). Contains nodes m) is.2 here) is.1 was.0 depends in
                elim (Contains-append_cases done (n ∷ todo) (node child) (subst (λ (ns : List Node). Contains ns (node child)) all leaves)) [
                  | inl gone ↦ was.1 (Contains-map (λ (m : Node). m.ident) done (node child) gone)
                  | inr coming ↦ elim (Contains-cases n todo (node child) coming) [
                    | inl same ↦ (let its = ap (λ (m : Node). rank_of m.class) same in omega arith)
                    | inr behind ↦ (let later = pairs_behind (λ a b. rank_of a.class ≤ rank_of b.class) done n todo rise (node child) behind in omega arith)
                  ]
                ]

        -- all that is resident then is good
        stays_good : (mid done todo : List Node) → nodes ≡ done ++ (mid ++ todo) → AreGood s (without_all (map (λ m. m.ident) done) rs) → AreGood s (without_all (map (λ m. m.ident) (done ++ mid)) rs)
        stays_good [] done todo all good = subst (λ (ns : List Node). AreGood s (without_all (map (λ m. m.ident) ns) rs)) (sym (append-nil done)) good
        stays_good (n ∷ mid) done todo all good =
            let left : List Ident = map (λ m. m.ident) done in
            let next = leaves_from_below done (mid ++ todo) n all in
            let less = good_left s (without_all left rs) next.0 (one_all_left rs left one) good next.1 next.3 in
            let is : without next.0.ident (without_all left rs) ≡ without_all (map (λ m. m.ident) (done ++ n ∷ [])) rs =
            ap (λ (m : Node). without m.ident (without_all left rs)) (sym next.2)
            ∙ sym (without_all-push left n.ident rs)
            ∙ ap (λ (idents : List Ident). without_all idents rs) (sym (map-append (λ (m : Node). m.ident) done (n ∷ []))) in
            subst (λ (ns : List Node). AreGood s (without_all (map (λ m. m.ident) ns) rs)) (append_assoc done (n ∷ []) mid)
            (stays_good mid (done ++ n ∷ []) todo (all ∙ sym (append_assoc done (n ∷ []) (mid ++ todo))) (subst (AreGood s) is less))

        pub good_from_below : (done todo : List Node) → nodes ≡ done ++ todo → AreGood s rs → AreGood s (without_all (map (λ m. m.ident) done) rs)
        good_from_below done todo all good = stays_good done [] todo all good

pub group_leaves : (s : FlatState) (rs : List Resident) (pairs : List (Ident × Node)) (root : Resident) (nodes done todo : List Node) (n : Node) → AreAgreed s → HasOneRowAPage s.rows → HaveOneEach rs → ArePairsOf s rs pairs → Contains rs root → IsOrder pairs (node_of s root) nodes
    → nodes ≡ done ++ n ∷ todo → (r : Resident) × Contains (without_all (map (λ m. m.ident) done) rs) r × (n ≡ node_of s r) × NothingDependsOn s (without_all (map (λ m. m.ident) done) rs) r.name
group_leaves s rs pairs root nodes done todo n agreed single one are there order all =
    leaves_from_below s rs pairs one are (parent_leaves_later s agreed single) root there nodes order done todo n all

pub group_leaves_good : (s : FlatState) (rs : List Resident) (pairs : List (Ident × Node)) (root : Resident) (nodes done todo : List Node) → AreAgreed s → HasOneRowAPage s.rows → HaveOneEach rs → ArePairsOf s rs pairs → Contains rs root → IsOrder pairs (node_of s root) nodes
    → nodes ≡ done ++ todo → AreGood s rs → AreGood s (without_all (map (λ m. m.ident) done) rs)
group_leaves_good s rs pairs root nodes done todo agreed single one are there order all good =
    good_from_below s rs pairs one are (parent_leaves_later s agreed single) root there nodes order done todo all good
