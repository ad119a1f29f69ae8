-- What was gathered, once it is sorted, and why there is one order.
use Rattle.std.proofs.Common.{◌≡◌, ◌≢◌, ◌↔◌, suc, false, List, [], ◌∷◌, ◌++◌, get_or, Contains, sym, ◌∙◌, ap, subst, ◌⊎◌, inl, inr, refl, arith}
use Rattle.std.specs.declared.cmp.Ordering.{Ordering}
use Rattle.std.specs.declared.cmp.Ordering.TheVariants.{Less, Equal, Greater}
use Rattle.std.specs.Cmp.{IsTotalOrder}
use Rattle.std.specs.List.Sorted.{IsPermutation, IsSortedBy}
use Rattle.std.specs.Ordering.{is_lt, ordering_reverse, ordering_then}
use Rattle.std.proofs.lemmas.Bool.{false≢true}
use Rattle.std.proofs.lemmas.Cmp.{nat_cmp_total, on_total, then_total, tied_itself}
use Rattle.std.proofs.lemmas.List.Sorted.{Contains-permutation, IsPermutation-sym, ranks_by, sorted_far}
use Rattle.cache_ident.specs.declared.idents.Ident.{Ident}
use Rattle.cache_ident.specs.contracts.idents.IdentOrd.TheImpl.Laws as ident_laws
use Rattle.depend_lists.specs.declared.nodes.Node.{Node}
use Rattle.sorted_list.specs.Sorted.{IsRising}
use Rattle.sorted_list.proofs.ListLemmas.{Contains-cons_cases, Contains-first, Contains-later}
use Rattle.sorted_list.proofs.UnderLemmas.{less≢equal}
use Rattle.depend_lists.proofs.PairLemmas.{one_ident}
use Rattle.writeback_order.specs.Order.{DependsOn, directly, further, leaving_cmp, rank_of, IsClosure, IsOrder}
use Rattle.writeback_order.specs.Gathering.{IsApart}

-- the order of leaving is a total order
leaving_total : IsTotalOrder leaving_cmp
leaving_total = then_total (then_total (on_total (λ (n : Node). rank_of n.class) nat_cmp_total) (on_total (λ (n : Node). n.ident.serial) nat_cmp_total)) (on_total (λ (n : Node). n.ident) ident_laws.total-law)

second_tie : (o next : Ordering) → ordering_then o next ≡ Equal → next ≡ Equal
second_tie Less next ties = absurd (cc)
second_tie Equal next ties = ties
second_tie Greater next ties = absurd (cc)

-- of two identifiers, what doesn't come before the other comes after it
after_or_before : (a b : Node) → a.ident ≢ b.ident → is_lt (leaving_cmp b a) ≡ false → leaving_cmp a b ≡ Less
after_or_before a b apart not_before = leaving_total.antisymm a b ∙ ap ordering_reverse (greater (leaving_cmp b a) refl not_before)
  where
    greater : (o : Ordering) → leaving_cmp b a ≡ o → is_lt o ≡ false → leaving_cmp b a ≡ Greater
    greater Less is lt = absurd (false≢true (sym lt))
    greater Equal is lt = absurd (apart (sym (one_ident b.ident a.ident (second_tie _ _ is))))
    greater Greater is lt = is

-- a sorted list of different identifiers rises
pub rising_from_sorted : (nodes : List Node) → IsSortedBy (λ a b. is_lt (leaving_cmp a b)) nodes → IsApart nodes → IsRising leaving_cmp nodes
rising_from_sorted nodes sorted apart i j d lt within = after_or_before (get_or nodes i d) (get_or nodes j d) (apart i j d lt within) (sorted_far (λ a b. is_lt (leaving_cmp a b)) (ranks_by leaving_total (λ n. n)) nodes sorted i j d (omega arith) within)

-- a closure stays one in another order
pub closure_permutation : (pairs : List (Ident × Node)) (root : Ident) (old new : List Node) → IsPermutation old new → IsClosure pairs root old → IsClosure pairs root new
closure_permutation pairs root old new moved closure node = (λ there. (closure node).0 (Contains-permutation new old node (IsPermutation-sym old new moved) there), λ depends. Contains-permutation old new node moved ((closure node).1 depends))

-- what depends over some pairs depends over others that are as many
depends_alike : (some others : List (Ident × Node)) (root : Ident) → ((pair : Ident × Node) → Contains some pair → Contains others pair) → (node : Node) → DependsOn some root node → DependsOn others root node
depends_alike some others root kept node (directly there) = directly (kept (root, node) there)
depends_alike some others root kept node (further {between = between} before there) = further (depends_alike some others root kept between before) (kept (between.ident, node) there)

module _ {K : Type 0} (cmp : K → K → Ordering) (o : IsTotalOrder cmp) where
  head_below : (x : K) (xs : List K) → IsRising cmp (x ∷ xs) → (y : K) → Contains xs y → cmp x y ≡ Less
  head_below x xs rising y there = subst (λ z. cmp x z ≡ Less) there.2 (rising 0 (suc there.0) y (omega arith) (omega (arith, there.1)))

  behind : (x : K) (xs : List K) → IsRising cmp (x ∷ xs) → IsRising cmp xs
  behind x xs rising i j d lt within = rising (suc i) (suc j) d (omega arith) (omega arith)

  not_below_itself : (x : K) → cmp x x ≡ Less → ⊥
  not_below_itself x below = less≢equal _ below (tied_itself o x)

  -- rising lists of the same items are one
  pub one_rising : (xs ys : List K) → IsRising cmp xs → IsRising cmp ys → ((z : K) → Contains xs z ↔ Contains ys z) → xs ≡ ys
  one_rising [] [] up_xs up_ys same = refl
  one_rising [] (y ∷ ys) up_xs up_ys same = absurd (omega (arith, ((same y).1 (Contains-first ys y)).1))
  one_rising (x ∷ xs) [] up_xs up_ys same = absurd (omega (arith, ((same x).0 (Contains-first xs x)).1))
  one_rising (x ∷ xs) (y ∷ ys) up_xs up_ys same =
      let heads = first (Contains-cons_cases ys y x ((same x).0 (Contains-first xs x))) (Contains-cons_cases xs x y ((same y).1 (Contains-first ys y))) in
      let tails = one_rising xs ys (behind x xs up_xs) (behind y ys up_ys) (λ z. (
        λ there. elim (Contains-cons_cases ys y z ((same z).0 (Contains-later xs x z there))) [
          | inl at ↦ absurd (not_below_itself x (subst (λ w. cmp x w ≡ Less) (at ∙ sym heads) (head_below x xs up_xs z there)))
          | inr later ↦ later
        ],
        λ there. elim (Contains-cons_cases xs x z ((same z).1 (Contains-later ys y z there))) [
          | inl at ↦ absurd (not_below_itself y (subst (λ w. cmp y w ≡ Less) (at ∙ heads) (head_below y ys up_ys z there)))
          | inr later ↦ later
        ],
      )) in
      ap (λ w. w ∷ xs) heads ∙ ap (λ zs. y ∷ zs) tails
    where
      first : (x ≡ y) ⊎ Contains ys x → (y ≡ x) ⊎ Contains xs y → x ≡ y
      first (inl at) others = at
      first (inr later) (inl at) = sym at
      first (inr later) (inr other) = absurd (not_below_itself x (o.trans x y x (head_below x xs up_xs y other) (head_below y ys up_ys x later)))

-- over the same pairs there is one order
pub order_is_one : (some others : List (Ident × Node)) (root : Node) (a b : List Node) → ((pair : Ident × Node) → Contains some pair ↔ Contains others pair) → IsOrder some root a → IsOrder others root b → a ≡ b
order_is_one some others root a b same first second =
    let alike = one_rising leaving_cmp leaving_total first.dependents second.dependents first.rising second.rising (λ node. (
      λ there.
          let depends = (first.closure node).0 there in
          (second.closure node).1 (depends_alike some others root.ident (λ pair. (same pair).0) node depends.0, depends.1),
      λ there.
          let depends = (second.closure node).0 there in
          (first.closure node).1 (depends_alike others some root.ident (λ pair. (same pair).1) node depends.0, depends.1),
    )) in
    first.root_last ∙ ap (λ nodes. nodes ++ root ∷ []) alike ∙ sym second.root_last
