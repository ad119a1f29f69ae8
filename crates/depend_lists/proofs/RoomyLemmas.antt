-- A child gets its parents one after another, where there is room for all.
use Rattle.std.proofs.Common.{◌≡◌, ℕ, ◌+◌, ◌<◌, ◌≤◌, Bool, true, false, cond, not, List, [], ◌∷◌, length, map, filter, Contains, sym, ◌∙◌, ap, inl, inr, refl, arith}
use Rattle.std.specs.List.{insert}
use Rattle.std.proofs.lemmas.Bool.{false≢true}
use Rattle.std.proofs.lemmas.List.{length-map}
use Rattle.std.proofs.lemmas.List.Elements.{filter_passes}
use Rattle.std.proofs.lemmas.List.Edits.{length-insert}
use Rattle.std.proofs.lemmas.List.Filters.{length-filter_both}
use Rattle.std.proofs.lemmas.List.Sorted.{IsPermutation-insert, sum_by_pushed}
use Rattle.std.proofs.lemmas.List.Sums.{length-filter}
use Rattle.cache_ident.specs.declared.idents.Ident.{Ident}
use Rattle.cache_ident.specs.declared.idents.Kind.{Kind}
use Rattle.cache_ident.specs.declared.idents.Kind.TheVariants as kind
use Rattle.cache_ident.specs.declared.names.Caps.{Caps}
use Rattle.cache_ident.specs.Names.{amount_of}
use Rattle.cache_ident.specs.Rolls.{is_same}
use Rattle.cache_ident.proofs.RollLemmas.{is_same-refl}
use Rattle.sorted_list.proofs.RisingLemmas.{filter_none}
use Rattle.depend_lists.specs.declared.nodes.Node.{Node}
use Rattle.sorted_list.specs.Sorted.{IsAdded}
use Rattle.depend_lists.specs.Pairs.{parent_count, without, HasOneClass, IsWithin}
use Rattle.depend_lists.specs.Roomy.{IsRoomy}
use Rattle.sorted_list.proofs.ListLemmas.{Contains-from_filter, Contains-insert_cases, Contains-map}

-- few pairs have few children
within_roomy : (caps : Caps) (pairs : List (Ident × Node)) → IsRoomy caps (length pairs) → IsWithin caps pairs
within_roomy caps pairs roomy of = (map ident_of pairs, omega (arith, length-map pairs ident_of, enough of), λ pair there same. Contains-map ident_of pairs pair there)
  where
    ident_of : Ident × Node → Ident
    ident_of pair = pair.1.ident

    enough : (of : Kind) → length pairs ≤ amount_of caps of
    enough kind.Kernel = roomy.0
    enough kind.Space = roomy.1
    enough kind.Thread = roomy.2
    enough kind.Mapping = roomy.3

-- also with one more pair
pub within_more : (caps : Caps) (most : ℕ) (pair : Ident × Node) (pairs : List (Ident × Node)) → length pairs < most → IsRoomy caps most → IsWithin caps (pair ∷ pairs)
within_more caps most pair pairs short roomy = within_roomy caps (pair ∷ pairs) (omega (arith, roomy.0), omega (arith, roomy.1), omega (arith, roomy.2), omega (arith, roomy.3))

-- how far a child has come: so many parents, one class, and no more pairs than before but those
pub record HasParents (before : ℕ) (pairs : List (Ident × Node)) (child : Node) (n : ℕ) : Type 0 where
  pub count : parent_count pairs child.ident ≡ n
  pub one_class : HasOneClass pairs child
  pub short : length pairs ≤ before + n

-- a child that was taken out has no parent
pub parents_none : (pairs : List (Ident × Node)) (child : Node) → HasParents (length pairs) (without pairs child.ident) child 0
parents_none pairs child = record {
  count = sym (length-filter is_child (filter other pairs)) ∙ ap length nothing;
  one_class = λ pair there same.
      let was = Contains-from_filter other pairs pair there in
      absurd (false≢true (sym (ap (λ (i : Ident). not (is_same i child.ident)) same ∙ ap not (is_same-refl child.ident)) ∙ was.1));
  short = omega (arith, length-filter_both is_child other (λ _. refl) pairs);
}
  where
    is_child : Ident × Node → Bool
    is_child pair = is_same pair.1.ident child.ident

    other : Ident × Node → Bool
    other pair = not (is_same pair.1.ident child.ident)

    fails : (b : Bool) → not b ≡ true → b ≡ false
    fails true passes = absurd (false≢true passes)
    fails false passes = refl

    nothing : filter is_child (filter other pairs) ≡ []
    nothing = filter_none is_child (filter other pairs) (λ k d lt. fails _ (filter_passes other pairs k d lt))

-- nor is it in any pair
pub absent_without : (pairs : List (Ident × Node)) (parent : Ident) (child : Node) → Contains (without pairs child.ident) (parent, child) → ⊥
absent_without pairs parent child there = false≢true (sym (ap not (is_same-refl child.ident)) ∙ (Contains-from_filter (λ (pair : Ident × Node). not (is_same pair.1.ident child.ident)) pairs (parent, child) there).1)

-- and one more with each that is added
pub parents_more : (before : ℕ) (old new : List (Ident × Node)) (parent : Ident) (child : Node) (n : ℕ) → HasParents before old child n → IsAdded old new (parent, child) → HasParents before new child (n + 1)
parents_more before old new parent child n had added =
    let pair : Ident × Node = (parent, child) in
    let inserted = insert old added.0 pair in
    let counted : parent_count inserted child.ident ≡ cond (is_same child.ident child.ident) 1 0 + parent_count old child.ident = sum_by_pushed (λ (p : Ident × Node). cond (is_same p.1.ident child.ident) 1 0) pair old inserted (IsPermutation-insert old added.0 pair) in
    let counts : Bool → ℕ = λ b. cond b 1 0 in
    let one = ap counts (is_same-refl child.ident) in
    rw added.2 (record {
      count = omega (arith, counted, one, had.count);
      one_class = λ p there same. elim (Contains-insert_cases old added.0 pair p there) [
        | inl new ↦ ap (λ (p : Ident × Node). p.1.class) new
        | inr was ↦ had.one_class p was same
      ];
      short = omega (arith, had.short, length-insert old added.0 pair added.1);
    })
