-- What is among the children of a parent.
use Rattle.std.proofs.Common.{◌≡◌, ◌↔◌, ◌||◌, Bool, true, false, List, [], ◌∷◌, Contains, sym, ◌∙◌, ap, inl, inr, refl, arith}
use Rattle.std.specs.List.{list_any}
use Rattle.std.specs.Ordering.{is_eq}
use Rattle.std.proofs.lemmas.Bool.{false≢true}
use Rattle.std.proofs.lemmas.Cmp.{tied_itself}
use Rattle.cache_ident.specs.declared.idents.Ident.{Ident}
use Rattle.cache_ident.specs.Rolls.{is_same}
use Rattle.cache_ident.proofs.RollLemmas.{is_same-refl, same_ident}
use Rattle.depend_lists.specs.declared.nodes.Node.{Node}
use Rattle.depend_lists.specs.contracts.nodes.NodePartialEq.TheImpl as node_equality
use Rattle.depend_lists.specs.contracts.nodes.NodeOrd.TheImpl.Laws as node_laws
use Rattle.depend_lists.specs.Pairs.{children_of}
use Rattle.sorted_list.proofs.ListLemmas.{Contains-cons_cases, Contains-later}
use Rattle.sorted_list.proofs.UnderLemmas.{entry_of_value, value_of_entry}
use Rattle.depend_lists.proofs.PairLemmas.{one_node}
use Rattle.depend_lists.proofs.MirrorLemmas.{equal}

module _ (pairs : List (Ident × Node)) (parent : Ident) (node : Node) where
  -- each child of a parent makes a pair with it
  pub pair_of_child : Contains (children_of pairs parent) node → Contains pairs (parent, node)
  pair_of_child there = entry_of_value is_same same_ident pairs parent node there

  -- and each such pair makes a child
  pub child_of_pair : Contains pairs (parent, node) → Contains (children_of pairs parent) node
  child_of_pair there = value_of_entry is_same same_ident pairs parent (is_same-refl parent) node there

-- nodes are equal where they are one
node_eq : Node → Node → Bool
node_eq = (node_equality.ghosts).eq

module _ (child : Node) where
  same_child : (n : Node) → node_eq n child ≡ true → n ≡ child
  unfolding node_eq
  same_child n same = one_node n child (equal _ (sym (node_laws.matches_eq-law n child) ∙ same))

  any_child : (children : List Node) → Contains children child → list_any (λ n. node_eq n child) children ≡ true
  unfolding node_eq
  any_child [] there = absurd (omega (arith, there.1))
  any_child (n ∷ children) there = elim (Contains-cons_cases children n child there) [
    | inl first ↦ rw (ap (λ m. node_eq m child) (sym first) ∙ node_laws.matches_eq-law child child ∙ ap is_eq (tied_itself node_laws.total-law child)) refl
    | inr later ↦ after (node_eq n child) (any_child children later)
  ]
    where
      after : (b : Bool) → list_any (λ n. node_eq n child) children ≡ true → (b || list_any (λ n. node_eq n child) children) ≡ true
      after true rest = refl
      after false rest = rest

  child_of_any : (children : List Node) → list_any (λ n. node_eq n child) children ≡ true → Contains children child
  child_of_any [] any = absurd (false≢true any)
  child_of_any (n ∷ children) any = by (child_of_any children) (node_eq n child) refl any
    where
      by : (list_any (λ n. node_eq n child) children ≡ true → Contains children child) → (b : Bool) → node_eq n child ≡ b → (b || list_any (λ n. node_eq n child) children) ≡ true → Contains (n ∷ children) child
      by later true here any = (0, omega arith, same_child n here)
      by later false other rest = Contains-later children n child (later rest)

  -- a test of the children of a parent for a node finds the pair of the two
  pub tests_pair : (pairs : List (Ident × Node)) (parent : Ident) (found : Bool) → found ≡ list_any (λ n. (node_equality.ghosts).eq n child) (children_of pairs parent) → (found ≡ true) ↔ Contains pairs (parent, child)
  unfolding node_eq
  tests_pair pairs parent found is = (λ yes. pair_of_child pairs parent child (child_of_any (children_of pairs parent) (sym is ∙ yes)), λ there. is ∙ any_child (children_of pairs parent) (child_of_pair pairs parent child there))
