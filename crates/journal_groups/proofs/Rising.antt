-- A list in the order of leaving, and one more behind it.
use Rattle.std.proofs.Common.{◌≡◌, ℕ, ◌-◌, ◌<◌, zero, suc, List, [], ◌∷◌, ◌++◌, length, get_or, Option, Some, None, slice_get, IfSome, refl, sym, ◌∙◌, subst, inl, inr, arith}
use Rattle.std.specs.declared.cmp.Ordering.TheVariants.{Less}
use Rattle.std.specs.Cmp.{IsTotalOrder}
use Rattle.std.proofs.lemmas.Bool.{cases_lt}
use Rattle.std.proofs.lemmas.Cmp.{nat_cmp_total, on_total, then_total}
use Rattle.std.proofs.lemmas.List.{length-append}
use Rattle.std.proofs.lemmas.List.Quantifiers.{all_pairs_push}
use Rattle.std.proofs.lemmas.Option.{slice_get-get_or, slice_get_within, get_or_from_slice_get}
use Rattle.cache_ident.specs.contracts.idents.IdentOrd.TheImpl.Laws as ident_laws
use Rattle.residents.specs.depend_lists.specs.declared.nodes.Node.{Node}
use Rattle.sorted_list.specs.Sorted.{IsRising}
use Rattle.residents.specs.writeback_order.specs.Order.{leaving_cmp, rank_of}

-- the order of leaving is a total order
pub leaving_total : IsTotalOrder leaving_cmp
leaving_total = then_total (then_total (on_total (λ (n : Node). rank_of n.class) nat_cmp_total) (on_total (λ (n : Node). n.ident.serial) nat_cmp_total)) (on_total (λ (n : Node). n.ident) ident_laws.total-law)

-- the last one, if there is one, leaves before another
abbrev pub IsLastBefore : List Node → Node → Type 0
IsLastBefore nodes n = IfSome (slice_get nodes (length nodes - 1)) (λ last. leaving_cmp last n ≡ Less)

last_is : (nodes : List Node) (n d : Node) → 0 < length nodes → IsLastBefore nodes n → leaving_cmp (get_or nodes (length nodes - 1) d) n ≡ Less
last_is nodes n d some before = subst (λ (o : Option Node). IfSome o (λ last. leaving_cmp last n ≡ Less)) (slice_get-get_or nodes (length nodes - 1) d (omega arith)) before

pub rising_more : (nodes : List Node) (n : Node) → IsRising leaving_cmp nodes → IsLastBefore nodes n → IsRising leaving_cmp (nodes ++ n ∷ [])
rising_more nodes n rising before = all_pairs_push (λ a b. leaving_cmp a b ≡ Less) nodes n rising (λ k d within. elim (cases_lt k (length nodes - 1)) [
  | inl below ↦ leaving_total.trans (get_or nodes k d) (get_or nodes (length nodes - 1) d) n (rising k (length nodes - 1) d below (omega arith)) (last_is nodes n d (omega arith) before)
  | inr above ↦ (let last : k ≡ length nodes - 1 = omega (arith, above) in subst (λ (m : ℕ). leaving_cmp (get_or nodes m d) n ≡ Less) (sym last) (last_is nodes n d (omega arith) before))
])

front : (nodes : List Node) (n d : Node) (k : ℕ) → k < length nodes → get_or (nodes ++ n ∷ []) k d ≡ get_or nodes k d
front [] n d k within = absurd (omega arith)
front (m ∷ ms) n d zero within = refl
front (m ∷ ms) n d (suc k) within = front ms n d k (omega arith)

back : (nodes : List Node) (n d : Node) → get_or (nodes ++ n ∷ []) (length nodes) d ≡ n
back [] n d = refl
back (m ∷ ms) n d = back ms n d

pub rising_front : (nodes : List Node) (n : Node) → IsRising leaving_cmp (nodes ++ n ∷ []) → IsRising leaving_cmp nodes
rising_front nodes n rising i j d lt within =
    subst (λ (a : Node). leaving_cmp a (get_or nodes j d) ≡ Less) (front nodes n d i (omega arith))
    (subst (λ (b : Node). leaving_cmp (get_or (nodes ++ n ∷ []) i d) b ≡ Less) (front nodes n d j within) (rising i j d lt (omega (arith, length-append nodes (n ∷ [])))))

pub rising_last : (nodes : List Node) (n : Node) → IsRising leaving_cmp (nodes ++ n ∷ []) → IsLastBefore nodes n
rising_last nodes n rising = by (slice_get nodes (length nodes - 1)) refl
  where
    by : (o : Option Node) → slice_get nodes (length nodes - 1) ≡ o → IfSome o (λ last. leaving_cmp last n ≡ Less)
    by None is = tt
    by (Some last) is =
        let within = slice_get_within nodes (length nodes - 1) last is in
        let here : get_or nodes (length nodes - 1) last ≡ last = get_or_from_slice_get nodes (length nodes - 1) last last is in
        subst (λ (a : Node). leaving_cmp a n ≡ Less) (front nodes n last (length nodes - 1) within ∙ here)
        (subst (λ (b : Node). leaving_cmp (get_or (nodes ++ n ∷ []) (length nodes - 1) last) b ≡ Less) (back nodes n last)
        (rising (length nodes - 1) (length nodes) last (omega (arith, within)) (omega (arith, length-append nodes (n ∷ [])))))
