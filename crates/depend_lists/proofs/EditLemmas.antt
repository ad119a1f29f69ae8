-- What holds of the pairs after an edit.
use Rattle.std.proofs.Common.{◌≡◌, ◌≢◌, ℕ, ◌+◌, ◌*◌, ◌<◌, ◌≤◌, Bool, true, false, cond, List, ◌∷◌, length, get_or, AllPairs, Contains, sym, ◌∙◌, ap, subst, ◌⊎◌, inl, inr, refl, arith}
use Rattle.std.specs.List.{insert, remove}
use Rattle.std.specs.List.Sorted.{IsPermutation}
use Rattle.std.proofs.lemmas.List.Sorted.{IsPermutation-insert, IsPermutation-refl, IsPermutation-remove, sum_by_popped, sum_by_pushed}
use Rattle.cache_ident.specs.declared.idents.Ident.{Ident}
use Rattle.cache_ident.specs.declared.names.Caps.{Caps}
use Rattle.cache_ident.specs.Rolls.{is_same}
use Rattle.cache_ident.proofs.RollLemmas.{same_ident}
use Rattle.cache_ident.specs.declared.classes.Class.{Class}
use Rattle.depend_lists.specs.declared.nodes.Node.{Node}
use Rattle.depend_lists.specs.declared.nodes.TheConstants.{MOST_PARENTS}
use Rattle.depend_lists.specs.Pairs.{count_of, parent_count, HasOneClass, IsProper, IsWithin}
use Rattle.sorted_list.proofs.ListLemmas.{Contains-first, Contains-from_remove, Contains-insert_cases, Contains-later}
use Rattle.depend_lists.proofs.CountLemmas.{few_pairs}

module _ (caps : Caps) (pairs : List (Ident × Node)) (old : IsProper (record { caps = caps; pairs = pairs })) (at : ℕ) (pair : Ident × Node) where
  -- one more parent for a child that has few
  few_more : (child : Ident) → parent_count pairs pair.1.ident < MOST_PARENTS → (b : Bool) → is_same pair.1.ident child ≡ b → cond b 1 0 + parent_count pairs child ≤ MOST_PARENTS
  few_more child few true same = omega (arith, ap (parent_count pairs) (same_ident pair.1.ident child same), few)
  few_more child few false other = omega (arith, old.few_parents child)

  -- which is the count where the pair stands too
  few_with : (pairs_with : List (Ident × Node)) → IsPermutation (pair ∷ pairs) pairs_with → parent_count pairs pair.1.ident < MOST_PARENTS → (child : Ident) → parent_count pairs_with child ≤ MOST_PARENTS
  few_with pairs_with same few child = subst (λ n. n ≤ MOST_PARENTS) (sym (sum_by_pushed (λ (p : Ident × Node). cond (is_same p.1.ident child) 1 0) pair pairs pairs_with same)) (few_more child few (is_same pair.1.ident child) refl)

  -- so there is room for one more
  pub room_for_pair : parent_count pairs pair.1.ident < MOST_PARENTS → IsWithin caps (pair ∷ pairs) → length pairs < MOST_PARENTS * count_of caps
  room_for_pair few within = omega (arith, few_pairs caps (pair ∷ pairs) within (few_with (pair ∷ pairs) (IsPermutation-refl (pair ∷ pairs)) few))

  -- what holds of all pairs holds once one was added that may be added
  pub proper-insert : HasOneClass pairs pair.1 → parent_count pairs pair.1.ident < MOST_PARENTS → IsWithin caps (pair ∷ pairs) → AllPairs ◌≢◌ (insert pairs at pair) → IsProper (record { caps = caps; pairs = insert pairs at pair })
  proper-insert class few within once = record {
    one_class = λ p p_there q q_there same. elim (Contains-insert_cases pairs at pair p p_there) [
      | inl p_new ↦ elim (Contains-insert_cases pairs at pair q q_there) [
        | inl q_new ↦ ap class_of (q_new ∙ sym p_new)
        | inr q_old ↦ class q q_old (same ∙ ap ident_of p_new) ∙ ap class_of (sym p_new)
      ]
      | inr p_old ↦ elim (Contains-insert_cases pairs at pair q q_there) [
        | inl q_new ↦ ap class_of q_new ∙ sym (class p p_old (sym same ∙ ap ident_of q_new))
        | inr q_old ↦ old.one_class p p_old q q_old same
      ]
    ];
    few_parents = few_with (insert pairs at pair) (IsPermutation-insert pairs at pair) few;
    once = once;
    within = λ kind. ((within kind).0, (within kind).1, λ p there of. (within kind).2 p (from_front p (Contains-insert_cases pairs at pair p there)) of);
  }
    where
      class_of : Ident × Node → Class
      class_of p = p.1.class

      ident_of : Ident × Node → Ident
      ident_of p = p.1.ident

      from_front : (p : Ident × Node) → (p ≡ pair) ⊎ Contains pairs p → Contains (pair ∷ pairs) p
      from_front p (inl same) = subst (Contains (pair ∷ pairs)) (sym same) (Contains-first pairs pair)
      from_front p (inr there) = Contains-later pairs pair p there

  -- and once one was taken out
  pub proper-remove : at < length pairs → get_or pairs at pair ≡ pair → AllPairs ◌≢◌ (remove pairs at) → IsProper (record { caps = caps; pairs = remove pairs at })
  proper-remove within here once =
      let was : (p : Ident × Node) → Contains (remove pairs at) p → Contains pairs p = λ p there. Contains-from_remove pairs at pair p within here there in
      record {
        one_class = λ p p_there q q_there same. old.one_class p (was p p_there) q (was q q_there) same;
        few_parents = λ child.
            let fewer : parent_count (remove pairs at) child + cond (is_same pair.1.ident child) 1 0 ≡ parent_count pairs child = sum_by_popped (λ (p : Ident × Node). cond (is_same p.1.ident child) 1 0) pair pairs (remove pairs at) (IsPermutation-remove pairs at pair within (sym here)) in
            omega (arith, old.few_parents child, fewer);
        once = once;
        within = λ kind. let w = old.within kind in (w.0, w.1, λ p there of. w.2 p (was p there) of);
      }
