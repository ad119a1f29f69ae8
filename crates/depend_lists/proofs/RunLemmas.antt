-- What stands, or doesn't stand, under a child.
use Rattle.std.proofs.Common.{◌≡◌, Bool, true, false, not, List, get_or, Some, None, slice_get, Contains, sym, ◌∙◌, subst, refl}
use Rattle.std.proofs.lemmas.Bool.{false≢true, not_from_false}
use Rattle.std.proofs.lemmas.List.Elements.{All-contains, Contains-get_or}
use Rattle.cache_ident.specs.declared.idents.Ident.{Ident}
use Rattle.cache_ident.specs.declared.classes.Class.{Class}
use Rattle.cache_ident.specs.Rolls.{is_same}
use Rattle.cache_ident.proofs.RollLemmas.{same_ident}
use Rattle.sorted_list.specs.Sorted.{values_under}
use Rattle.sorted_list.proofs.RisingLemmas.{filter_all}
use Rattle.sorted_list.proofs.SortedLemmas.{first_passes, none_passes}
use Rattle.depend_lists.specs.declared.nodes.Node.{Node}
use Rattle.depend_lists.specs.Pairs.{without}
use Rattle.depend_lists.specs.Indexes.{turned, Mirrors}
use Rattle.sorted_list.proofs.UnderLemmas.{same_pair}
use Rattle.depend_lists.proofs.MirrorLemmas.{both_ways}

module _ (parents : List (Ident × (Class × Ident))) (child : Ident) where
  -- the first value under a child is one of it
  pub first_under : (value : Class × Ident) → slice_get (values_under is_same parents child) 0 ≡ Some value → Contains parents (child, value)
  first_under value first =
      let entry = first_passes (λ (e : Ident × (Class × Ident)). is_same e.0 child) parents value first in
      subst (Contains parents) (same_pair entry.0 (child, value) (same_ident entry.0.0 child entry.2) entry.3) entry.1

  -- where there is none, all pairs are of other children
  pub none_under : (pairs : List (Ident × Node)) → Mirrors pairs parents → slice_get (values_under is_same parents child) 0 ≡ None → without pairs child ≡ pairs
  none_under pairs mirrored nothing = filter_all (λ pair. not (is_same pair.1.ident child)) pairs (λ k d lt. other (get_or pairs k d) (Contains-get_or pairs k d lt) (is_same (get_or pairs k d).1.ident child) refl)
    where
      other : (pair : Ident × Node) → Contains pairs pair → (b : Bool) → is_same pair.1.ident child ≡ b → not (is_same pair.1.ident child) ≡ true
      other pair there false differs = not_from_false _ differs
      other pair there true same =
          let fails = none_passes (λ (e : Ident × (Class × Ident)). is_same e.0 child) parents nothing in
          absurd (false≢true (sym (All-contains (λ (e : Ident × (Class × Ident)). is_same e.0 child ≡ false) parents (turned pair) fails ((both_ways pairs parents mirrored pair).1 there)) ∙ same))
