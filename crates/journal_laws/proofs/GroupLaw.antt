-- When what left before a root is all that depends on it, in its order.
use Rattle.std.proofs.Common.{◌≡◌, ◌≢◌, ℕ, zero, suc, ◌+◌, ◌≤◌, List, [], ◌∷◌, ◌++◌, map, Contains, refl, ap, ap₂, sym, ◌∙◌, subst, inl, inr, arith}
use Rattle.std.proofs.lemmas.List.{append_cancel_right, map-append}
use Rattle.std.proofs.lemmas.List.Elements.{Contains-append_cases, Contains-append_left, Contains-append_right}
use Rattle.cache_ident.specs.declared.idents.Ident.{Ident}
use Rattle.cache_ident.specs.declared.classes.Class.{Class}
use Rattle.cache_ident.specs.declared.classes.Class.TheVariants as class
use Rattle.cache_ident.specs.declared.names.Name.{Name}
use Rattle.cache_ident.specs.Residents.{Resident, IsNameResident}
use Rattle.run_journal.specs.depend_lists.specs.declared.nodes.Node.{Node}
use Rattle.run_journal.specs.writeback_order.specs.Order.{DependsOn, directly, further, leaving_cmp, rank_of, IsClosure}
use Rattle.sorted_list.specs.Sorted.{IsRising}
use Rattle.run_journal.specs.flat_state.specs.State.{FlatState}
use Rattle.run_journal.specs.flat_state.specs.Dependence.{parents, Depends}
use Rattle.run_journal.specs.flat_state.specs.Names.{class_of}
use Rattle.run_journal.specs.flat_state.specs.WellFormed.{IsWellFormed}
use Rattle.run_journal.specs.flat_laws.proofs.Members.{contains_nothing, Contains-here, Contains-behind, Contains-cases, Contains-map, Contains-from_map}
use Rattle.run_journal.specs.flat_laws.proofs.ParentLaws.{parent_leaves_later}
use Rattle.run_journal.specs.Groups.{node_of, IsPairOf, ArePairsOf, IsGroup}
use Rattle.run_journal.specs.Legal.{AreGood}
use Rattle.journal_laws.specs.Leaving.{LacksParent, HaveOneEach, HaveLeft}

-- ---- the pairs of what is resident

module _ (s : FlatState) (rs : List Resident) where
  -- a resident of each name that a child depends on, with the child
  pairs_for : (c : Resident) (ns : List Name) → ((n : Name) → Contains ns n → IsNameResident rs n) → List (Ident × Node)
  pairs_for c [] known = []
  pairs_for c (n ∷ ns) known = ((known n (Contains-here n ns)).0.ident, node_of s c) ∷ pairs_for c ns (λ m there. known m (Contains-behind n ns m there))

  pairs_of : (cs : List Resident) → ((c : Resident) → Contains cs c → (n : Name) → Depends s c.name n → IsNameResident rs n) → List (Ident × Node)
  pairs_of [] known = []
  pairs_of (c ∷ cs) known = pairs_for c (parents s c.name) (known c (Contains-here c cs)) ++ pairs_of cs (λ d there. known d (Contains-behind c cs d there))

  sound_for : (c : Resident) → Contains rs c → (ns : List Name) (known : (n : Name) → Contains ns n → IsNameResident rs n) → ((n : Name) → Contains ns n → Depends s c.name n) → (pair : Ident × Node) → Contains (pairs_for c ns known) pair → IsPairOf s rs pair
  unfolding pairs_for
  sound_for c c_there [] known are pair there = absurd (contains_nothing pair there)
  sound_for c c_there (n ∷ ns) known are pair there = elim (Contains-cases _ _ pair there) [
    | inl same ↦
        let found = known n (Contains-here n ns) in
        record {
          parent = found.0;
          child = c;
          parent_there = found.1;
          child_there = c_there;
          of_parent = ap (λ (p : Ident × Node). p.0) (sym same);
          of_child = ap (λ (p : Ident × Node). p.1) (sym same);
          depends = subst (λ (m : Name). Depends s c.name m) (sym found.2) (are n (Contains-here n ns));
        }
    | inr behind ↦ sound_for c c_there ns (λ m there. known m (Contains-behind n ns m there)) (λ m there. are m (Contains-behind n ns m there)) pair behind
  ]

  sound_of : (cs : List Resident) (known : (c : Resident) → Contains cs c → (n : Name) → Depends s c.name n → IsNameResident rs n) → ((c : Resident) → Contains cs c → Contains rs c) → (pair : Ident × Node) → Contains (pairs_of cs known) pair → IsPairOf s rs pair
  unfolding pairs_of
  sound_of [] known among pair there = absurd (contains_nothing pair there)
  sound_of (c ∷ cs) known among pair there = elim (Contains-append_cases (pairs_for c (parents s c.name) (known c (Contains-here c cs))) _ pair there) [
    | inl here ↦ sound_for c (among c (Contains-here c cs)) (parents s c.name) (known c (Contains-here c cs)) (λ n is. is) pair here
    | inr behind ↦ sound_of cs (λ d there. known d (Contains-behind c cs d there)) (λ d there. among d (Contains-behind c cs d there)) pair behind
  ]

  module _ (one : HaveOneEach rs) where
    complete_for : (c : Resident) (ns : List Name) (known : (n : Name) → Contains ns n → IsNameResident rs n) (parent : Resident) → Contains rs parent → Contains ns parent.name → Contains (pairs_for c ns known) (parent.ident, node_of s c)
    unfolding pairs_for
    complete_for c [] known parent parent_there there = absurd (contains_nothing parent.name there)
    complete_for c (n ∷ ns) known parent parent_there there = elim (Contains-cases n ns parent.name there) [
      | inl same ↦
          let found = known n (Contains-here n ns) in
          let its : found.0 ≡ parent = one.names found.0 parent found.1 parent_there (found.2 ∙ same) in
          subst (λ (i : Ident). Contains (pairs_for c (n ∷ ns) known) (i, node_of s c)) (ap (λ (r : Resident). r.ident) its) (Contains-here _ _)
      | inr behind ↦ Contains-behind _ _ (parent.ident, node_of s c) (complete_for c ns (λ m there. known m (Contains-behind n ns m there)) parent parent_there behind)
    ]

    complete_of : (cs : List Resident) (known : (c : Resident) → Contains cs c → (n : Name) → Depends s c.name n → IsNameResident rs n) (parent child : Resident) → Contains rs parent → Contains cs child → Depends s child.name parent.name → Contains (pairs_of cs known) (parent.ident, node_of s child)
    unfolding pairs_of
    complete_of [] known parent child parent_there child_there depends = absurd (contains_nothing child child_there)
    complete_of (c ∷ cs) known parent child parent_there child_there depends = elim (Contains-cases c cs child child_there) [
      | inl same ↦
          subst (λ (d : Resident). Contains (pairs_of (c ∷ cs) known) (parent.ident, node_of s d)) same
          (Contains-append_left (pairs_for c (parents s c.name) (known c (Contains-here c cs))) _ (parent.ident, node_of s c)
          (complete_for c (parents s c.name) (known c (Contains-here c cs)) parent parent_there (subst (λ (d : Resident). Depends s d.name parent.name) (sym same) depends)))
      | inr behind ↦
          Contains-append_right (pairs_for c (parents s c.name) (known c (Contains-here c cs))) _ (parent.ident, node_of s child)
          (complete_of cs (λ d there. known d (Contains-behind c cs d there)) parent child parent_there behind depends)
    ]

-- residents that are whole have a list of their pairs
whole_pairs : (s : FlatState) (rs : List Resident) → HaveOneEach rs → AreGood s rs → (pairs : List (Ident × Node)) × ArePairsOf s rs pairs
whole_pairs s rs one whole =
    let known = λ (c : Resident) (there : Contains rs c) (n : Name) (depends : Depends s c.name n). (whole c there).parents n depends in (
      pairs_of s rs rs known,
      record {
        sound = λ pair there. sound_of s rs rs known (λ c c_there. c_there) pair there;
        complete = λ parent child parent_there child_there depends. complete_of s rs one rs known parent child parent_there child_there depends;
      },
    )

-- ---- ranks

rank_small : (c : Class) → rank_of c ≤ 5
rank_small class.MessageRow = omega arith
rank_small class.SignalRow = omega arith
rank_small class.OtherRow = omega arith
rank_small class.Thread = omega arith
rank_small class.Space = omega arith
rank_small class.Kernel = omega arith

module _ (s : FlatState) (formed : IsWellFormed s) (before after gone : List Resident) (root : Resident) (left : HaveLeft before after gone root) (whole : AreGood s before) (good : AreGood s after) where
  abbrev node : Resident → Node
  node = node_of s

  -- what was there before and isn't after has no name there
  out_name : (r : Resident) → Contains before r → (Contains after r → ⊥) → IsNameResident after r.name → ⊥
  out_name r there out found = out (subst (λ (x : Resident). Contains after x) (left.one.names found.0 r (left.stay found.0 found.1) there found.2) found.1)

  -- what depends on such a one is gone too
  child_out : (c p : Resident) → Contains before p → (Contains after p → ⊥) → Depends s c.name p.name → Contains after c → ⊥
  child_out c p p_there out depends c_after = out_name p p_there out ((good c c_after).parents p.name depends)

  module _ (pairs : List (Ident × Node)) (are : ArePairsOf s before pairs) where
    -- the parent and the child of a pair are one with what has their identifiers
    parent_is : (pair : Ident × Node) (its : IsPairOf s before pair) (p : Resident) → Contains before p → pair.0 ≡ p.ident → its.parent ≡ p
    parent_is pair its p there is = left.one.idents its.parent p its.parent_there there (sym its.of_parent ∙ is)

    -- the parent of what depends on the root is out, and it depends on that parent
    record HasLeftWith (n : Node) : Type 0 where
      child : Resident
      child_there : Contains before child
      its : n ≡ node child
      parent : Resident
      parent_there : Contains before parent
      parent_out : Contains after parent → ⊥
      depends : Depends s child.name parent.name

    left_with : (n : Node) → DependsOn pairs root.ident n → HasLeftWith n
    left_with n (directly there) =
        let its = are.sound (root.ident, n) there in
        let same = parent_is (root.ident, n) its root left.last refl in
        record {
          child = its.child;
          child_there = its.child_there;
          its = its.of_child;
          parent = root;
          parent_there = left.last;
          parent_out = left.last_out;
          depends = subst (λ (p : Resident). Depends s its.child.name p.name) same its.depends;
        }
    left_with n (further {between = between} prior there) =
        let mid = left_with between prior in
        let its = are.sound (between.ident, n) there in
        let same = parent_is (between.ident, n) its mid.child mid.child_there (ap (λ (m : Node). m.ident) mid.its) in
        record {
          child = its.child;
          child_there = its.child_there;
          its = its.of_child;
          parent = mid.child;
          parent_there = mid.child_there;
          parent_out = child_out mid.child mid.parent mid.parent_there mid.parent_out mid.depends;
          depends = subst (λ (p : Resident). Depends s its.child.name p.name) same its.depends;
        }

    -- so all that depends on the root left before it
    gone_too : (n : Node) → DependsOn pairs root.ident n → n.ident ≢ root.ident → Contains (map node gone) n
    gone_too n depends other =
        let its = left_with n depends in
        elim (left.all its.child its.child_there) [
          | inl stays ↦ absurd (child_out its.child its.parent its.parent_there its.parent_out its.depends stays)
          | inr out ↦ elim out [
            | inl there ↦ subst (λ (m : Node). Contains (map node gone) m) (sym its.its) (Contains-map node gone its.child there)
            | inr same ↦ absurd (other (ap (λ (m : Node). m.ident) its.its ∙ ap (λ (r : Resident). r.ident) same))
          ]
        ]

    -- what lacks something depends on the root
    depends_far : ((g : Resident) → Contains gone g → LacksParent s after g.name) → (fuel : ℕ) (g : Resident) → Contains gone g → 6 ≤ rank_of (class_of s g.name) + fuel → DependsOn pairs root.ident (node g)
    depends_far lacks zero g there high = absurd (let low = rank_small (class_of s g.name) in omega arith)
    depends_far lacks (suc fuel) g there high =
        let missing = lacks g there in
        let found = (whole g (left.there g there)).parents missing.0 missing.1 in
        let depends : Depends s g.name found.0.name = subst (λ (m : Name). Depends s g.name m) (sym found.2) missing.1 in
        let pair = are.complete found.0 g found.1 (left.there g there) depends in
        elim (left.all found.0 found.1) [
          | inl stays ↦ absurd (missing.2 (found.0, stays, found.2))
          | inr out ↦ elim out [
            | inl gone_parent ↦
                let later = parent_leaves_later s formed g.name found.0.name depends in
                further {between = node found.0} (depends_far lacks fuel found.0 gone_parent (omega (arith, later))) pair
            | inr same ↦ directly (subst (λ (r : Resident). Contains pairs (r.ident, node g)) same pair)
          ]
        ]

    closed : ((g : Resident) → Contains gone g → LacksParent s after g.name) → IsClosure pairs root.ident (map node gone)
    closed lacks n = (
      λ there.
          let from = Contains-from_map node gone n there in (
            subst (λ (m : Node). DependsOn pairs root.ident m) from.2 (depends_far lacks 6 from.0 from.1 (omega arith)),
            λ same. left.other from.0 from.1 (left.one.idents from.0 root (left.there from.0 from.1) left.last (ap (λ (m : Node). m.ident) from.2 ∙ same)),
          ),
      λ both. gone_too n both.0 both.1,
    )

    lacks_then : (g : Resident) → Contains gone g → DependsOn pairs root.ident (node g) → LacksParent s after g.name
    lacks_then g there depends =
        let its = left_with (node g) depends in
        let same : its.child ≡ g = left.one.idents its.child g its.child_there (left.there g there) (ap (λ (m : Node). m.ident) (sym its.its)) in
        (its.parent.name, subst (λ (r : Resident). Depends s r.name its.parent.name) same its.depends, out_name its.parent its.parent_there its.parent_out)

  -- nodes of residents are told by their identifiers
  same_nodes : (gs : List Resident) (ns : List Node) → ((g : Resident) → Contains gs g → Contains before g) → ((n : Node) → Contains ns n → (c : Resident) × Contains before c × (n ≡ node c)) → map (λ (r : Resident). r.ident) gs ≡ map (λ (n : Node). n.ident) ns → ns ≡ map node gs
  same_nodes [] [] among are same = refl
  same_nodes [] (n ∷ ns) among are same = absurd (cc)
  same_nodes (g ∷ gs) [] among are same = absurd (cc)
  same_nodes (g ∷ gs) (n ∷ ns) among are same =
      let its = are n (Contains-here n ns) in
      let first : g.ident ≡ n.ident = cc in
      let one : its.0 ≡ g = left.one.idents its.0 g its.1 (among g (Contains-here g gs)) (ap (λ (m : Node). m.ident) (sym its.2) ∙ sym first) in
      let rest : map (λ (r : Resident). r.ident) gs ≡ map (λ (n : Node). n.ident) ns = cc in
      ap₂ (λ (m : Node) (ms : List Node). m ∷ ms) (its.2 ∙ ap node one) (same_nodes gs ns (λ h there. among h (Contains-behind g gs h there)) (λ m there. are m (Contains-behind n ns m there)) rest)

  idents_are : map (λ (r : Resident). r.ident) gone ++ root.ident ∷ [] ≡ map (λ (n : Node). n.ident) (map node gone ++ node root ∷ [])
  idents_are = sym (map-append (λ (n : Node). n.ident) (map node gone) (node root ∷ []) ∙ ap (λ (is : List Ident). is ++ root.ident ∷ []) (again gone))
    where
      again : (gs : List Resident) → map (λ (n : Node). n.ident) (map node gs) ≡ map (λ (r : Resident). r.ident) gs
      again [] = refl
      again (g ∷ gs) = ap (λ (is : List Ident). g.ident ∷ is) (again gs)

  abbrev pub IsInOrder : Type 0
  IsInOrder = IsRising leaving_cmp (map node gone) × ((g : Resident) → Contains gone g → LacksParent s after g.name)

  pub group_if : IsInOrder → IsGroup s before root (map (λ (r : Resident). r.ident) gone ++ root.ident ∷ [])
  group_if order =
      let made = whole_pairs s before left.one whole in
      record {
        pairs = made.0;
        are = made.1;
        nodes = map node gone ++ node root ∷ [];
        order = record { dependents = map node gone; closure = closed made.0 made.1 order.1; rising = order.0; root_last = refl };
        whole = idents_are;
      }

  pub order_if : IsGroup s before root (map (λ (r : Resident). r.ident) gone ++ root.ident ∷ []) → IsInOrder
  order_if group =
      let ds = group.order.dependents in
      let ends : map (λ (n : Node). n.ident) group.nodes ≡ map (λ (n : Node). n.ident) ds ++ root.ident ∷ [] = ap (map (λ (n : Node). n.ident)) group.order.root_last ∙ map-append (λ (n : Node). n.ident) ds (node root ∷ []) in
      let idents : map (λ (r : Resident). r.ident) gone ≡ map (λ (n : Node). n.ident) ds = append_cancel_right _ _ (root.ident ∷ []) (group.whole ∙ ends) in
      let nodes : ds ≡ map node gone = same_nodes gone ds left.there (λ n there. let its = left_with group.pairs group.are n ((group.order.closure n).0 there).0 in (its.child, its.child_there, its.its)) idents in (
        subst (IsRising leaving_cmp) nodes group.order.rising,
        λ g there. lacks_then group.pairs group.are g there ((group.order.closure (node g)).0 (subst (λ (ms : List Node). Contains ms (node g)) (sym nodes) (Contains-map node gone g there))).0,
      )
