-- The pairs seen from their other ends: what stands in one list stands in the other, also after an edit of both.
use Rattle.std.proofs.Common.{◌≡◌, ◌↔◌, ℕ, ◌<◌, Bool, true, cond, List, length, get_or, filter, count_by, Contains, sym, ◌∙◌, ap, subst, refl, arith}
use Rattle.std.specs.declared.cmp.Ordering.{Ordering}
use Rattle.std.specs.declared.cmp.Ordering.TheVariants.{Less, Equal, Greater}
use Rattle.std.specs.List.{insert, remove}
use Rattle.std.specs.Ordering.{is_eq}
use Rattle.std.proofs.lemmas.List.Elements.{Contains-get_or}
use Rattle.std.proofs.lemmas.List.Sums.{length-filter, sum_by-insert, sum_by-remove}
use Rattle.cache_ident.specs.declared.idents.Ident.{Ident}
use Rattle.cache_ident.specs.declared.classes.Class.{Class}
use Rattle.sorted_list.proofs.RisingLemmas.{filter_all}
use Rattle.depend_lists.specs.declared.nodes.Node.{Node}
use Rattle.depend_lists.specs.Indexes.{turned, turned_cmp, Mirrors}
use Rattle.sorted_list.proofs.ListLemmas.{some_item, Contains-filter, Contains-from_filter}
use Rattle.depend_lists.proofs.PairLemmas.{one_turned, turned_back, turned_itself}

module _ {X : Type 0} (test : X → Bool) (xs : List X) where
  -- where some pass a test, one of them is there
  from_count : 0 < count_by test xs → (x : X) × Contains xs x × (test x ≡ true)
  from_count some =
      let passing : 0 < length (filter test xs) = omega (arith, length-filter test xs) in
      let x = some_item (filter test xs) passing in
      let kept = Contains-from_filter test xs _ (Contains-get_or (filter test xs) 0 x passing) in
      (get_or (filter test xs) 0 x, kept.0, kept.1)

  to_count : (x : X) → Contains xs x → test x ≡ true → 0 < count_by test xs
  to_count x there passes = omega (arith, (Contains-filter test xs x there passes).1, length-filter test xs)

pub equal : (o : Ordering) → is_eq o ≡ true → o ≡ Equal
equal Less ties = absurd (cc)
equal Equal ties = refl
equal Greater ties = absurd (cc)

module _ (pairs : List (Ident × Node)) (parents : List (Ident × (Class × Ident))) (mirrored : Mirrors pairs parents) where
  -- a pair stands in one list where it stands in the other
  pub both_ways : (pair : Ident × Node) → Contains parents (turned pair) ↔ Contains pairs pair
  both_ways pair =
      let is_it = λ (entry : Ident × (Class × Ident)). is_eq (turned_cmp entry (turned pair)) in
      let itself = ap is_eq (turned_itself (turned pair)) in (
        λ there.
            let found = from_count (λ p. is_it (turned p)) pairs (subst (λ n. 0 < n) (mirrored is_it) (to_count is_it parents (turned pair) there itself)) in
            subst (Contains pairs) (turned_back found.0 pair (one_turned (turned found.0) (turned pair) (equal _ found.2))) found.1,
        λ there.
            let found = from_count is_it parents (subst (λ n. 0 < n) (sym (mirrored is_it)) (to_count (λ p. is_it (turned p)) pairs pair there itself)) in
            subst (Contains parents) (one_turned found.0 (turned pair) (equal _ found.2)) found.1,
      )

  -- the lists are of one length
  pub as_many : length parents ≡ length pairs
  as_many = sym (whole parents) ∙ mirrored (λ _. true) ∙ whole pairs
    where
      whole : {X : Type 0} (xs : List X) → count_by (λ _. true) xs ≡ length xs
      whole xs = sym (length-filter (λ _. true) xs) ∙ ap length (filter_all (λ _. true) xs (λ k d lt. refl))

  module _ (at place : ℕ) (pair : Ident × Node) where
    -- so they stay after an insert in both
    pub mirrors-insert : Mirrors (insert pairs at pair) (insert parents place (turned pair))
    mirrors-insert test = omega (arith, mirrored test, sum_by-insert (λ e. cond (test e) 1 0) parents place (turned pair), sum_by-insert (λ p. cond (test (turned p)) 1 0) pairs at pair)

    -- and after a removal from both
    pub mirrors-remove : at < length pairs → get_or pairs at pair ≡ pair → place < length parents → get_or parents place (turned pair) ≡ turned pair → Mirrors (remove pairs at) (remove parents place)
    mirrors-remove within here parents_within parents_here test =
        let counts : Ident × (Class × Ident) → ℕ = λ e. cond (test e) 1 0 in
        omega (arith, mirrored test, sum_by-remove counts parents place (turned pair) parents_within, sum_by-remove (λ p. counts (turned p)) pairs at pair within, ap counts parents_here, ap (λ p. counts (turned p)) here)
