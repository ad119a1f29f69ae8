-- The marks, by the places of children, and the nodes that were gathered.
use Rattle.std.proofs.Common.{◌≡◌, ℕ, zero, suc, ◌+◌, ◌<◌, ◌≤◌, Bool, true, false, List, [], ◌∷◌, ◌++◌, length, get_or, drop, Contains, sym, ◌∙◌, ap, subst, inl, inr, refl, arith}
use Rattle.std.proofs.Math.ListN.{set}
use Rattle.std.proofs.lemmas.Bool.{cases_Bool, cases_eq, false≢true}
use Rattle.std.proofs.lemmas.List.{drop_all, drop_more, get_or-map, get_or-set_other, get_or-set_same, length-map, map_push}
use Rattle.std.proofs.lemmas.List.Elements.{Contains-append_left, Contains-push, Contains-push_cases}
use Rattle.cache_ident.specs.declared.idents.Ident.{Ident}
use Rattle.cache_ident.specs.declared.idents.Kind.TheVariants as kind
use Rattle.cache_ident.specs.declared.classes.Class.TheVariants as class
use Rattle.depend_lists.specs.declared.nodes.Node.{Node}
use Rattle.depend_lists.specs.Pairs.{place_of}
use Rattle.sorted_list.proofs.ListLemmas.{Contains-cons_cases}
use Rattle.writeback_order.specs.Gathering.{places_of, IsClear, IsMarked}

-- what is read past the end of a list
abbrev pub nobody : Node
nobody = record { ident = record { kind = kind.Kernel; slot = 0; serial = 0 }; class = class.MessageRow }

-- one more mark that isn't set
pub clear_more : (marks : List Bool) → IsClear marks → IsClear (marks ++ false ∷ [])
clear_more [] clear zero = refl
clear_more [] clear (suc at) = refl
clear_more (mark ∷ marks) clear zero = clear zero
clear_more (mark ∷ marks) clear (suc at) = clear_more marks (λ at. clear (suc at)) at

-- where none is set, nothing was gathered
pub clear_marked : (pairs : List (Ident × Node)) (marks : List Bool) → IsClear marks → IsMarked pairs [] marks
clear_marked pairs marks clear at = (λ is_set. absurd (false≢true (sym (clear at) ∙ is_set)), λ there. absurd (omega (arith, there.1)))

-- a node more, and the mark at its place
pub marked_more : (pairs : List (Ident × Node)) (nodes : List Node) (marks : List Bool) (child : Node) (place : ℕ) → place ≡ place_of pairs child.ident → place < length marks → IsMarked pairs nodes marks → IsMarked pairs (nodes ++ child ∷ []) (set marks place true)
marked_more pairs nodes marks child place is within marked at =
    let places = places_of pairs nodes in
    rw (map_push (λ (n : Node). place_of pairs n.ident) nodes child, ← is) (elim (cases_eq at place) [
      | inl here ↦ (
        λ is_set. subst (Contains (places ++ place ∷ [])) (sym here) (Contains-push places place),
        λ there. ap (λ k. get_or (set marks place true) k false) here ∙ get_or-set_same marks place true false within,
      )
      | inr other ↦ (
        λ is_set. Contains-append_left places (place ∷ []) at ((marked at).0 (sym (get_or-set_other marks place at true false other) ∙ is_set)),
        λ there. get_or-set_other marks place at true false other ∙ (marked at).1 (elim (Contains-push_cases places place at there) [
          | inl was ↦ was
          | inr same ↦ absurd (other (sym same))
        ]),
      )
    ])

-- the marks that are set are at places of nodes from the n-th on
abbrev pub AreLeft : List (Ident × Node) → List Node → ℕ → List Bool → Type 0
AreLeft pairs nodes n marks = (at : ℕ) → get_or marks at false ≡ true → Contains (drop n (places_of pairs nodes)) at

module _ (pairs : List (Ident × Node)) (nodes : List Node) (n : ℕ) (marks : List Bool) (left : AreLeft pairs nodes n marks) where
  -- also once the mark of that one was taken away
  pub left_more : (node : Node) (place : ℕ) → n < length nodes → get_or nodes n node ≡ node → place ≡ place_of pairs node.ident → place < length marks → AreLeft pairs nodes (n + 1) (set marks place false)
  left_more node place more here is within at is_set =
      let places = places_of pairs nodes in
      let place_here : get_or places n place ≡ place = get_or-map (λ (m : Node). place_of pairs m.ident) nodes n node place more ∙ ap (λ (m : Node). place_of pairs m.ident) here ∙ sym is in
      elim (cases_eq at place) [
        | inl same ↦ absurd (false≢true (sym (ap (λ k. get_or (set marks place false) k false) same ∙ get_or-set_same marks place false false within) ∙ is_set))
        | inr other ↦ elim (Contains-cons_cases (drop (n + 1) places) (get_or places n place) at (subst (λ ps. Contains ps at) (drop_more places n place (omega (arith, more, length-map nodes (λ (m : Node). place_of pairs m.ident)))) (left at (sym (get_or-set_other marks place at false false other) ∙ is_set)))) [
          | inl first ↦ absurd (other (first ∙ place_here))
          | inr later ↦ later
        ]
      ]

  -- in the end none is set
  pub left_none : length nodes ≤ n → IsClear marks
  left_none all at = elim (cases_Bool (get_or marks at false)) [
    | inl is_set ↦
        let nothing = drop_all n (places_of pairs nodes) (omega (arith, all, length-map nodes (λ (k : Node). place_of pairs k.ident))) in
        absurd (omega (arith, (subst (λ ps. Contains ps at) nothing (left at is_set)).1))
    | inr clear ↦ clear
  ]
