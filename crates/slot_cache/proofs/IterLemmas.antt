-- What a list of all that is loaded has.
use Rattle.std.proofs.Common.{◌≡◌, ℕ, zero, suc, ◌+◌, ◌<◌, List, [], ◌∷◌, get_or, All, Contains, Option, Some, None, sym, ap, subst, inl, inr, refl, arith}
use Rattle.std.proofs.lemmas.List.Elements.{Contains-get_or}
use Rattle.std.proofs.lemmas.List.Kept.{AllPairs-cons}
use Rattle.sorted_list.proofs.ListLemmas.{Contains-cons_cases, Contains-later}
use Rattle.cache_ident.specs.declared.idents.Kind.{Kind}
use Rattle.slot_cache.specs.declared.loaded.Loaded.{Loaded}
use Rattle.slot_cache.specs.Cells.{cell_at, loaded_in, HasExactlyLoaded, IsInOrderOfSlot}
use Rattle.slot_cache.specs.Table.{IsPlaced}
use Rattle.slot_cache.proofs.SlotLemmas.{cell_within, some_same}

module _ {T : Type 0} where
  -- what stands at a slot is listed
  listed : (cells : List (Option (Loaded T))) (slot : ℕ) (e : Loaded T) → cell_at cells slot ≡ Some e → Contains (loaded_in cells) e
  listed [] slot e there = absurd (omega (arith, cell_within [] slot e there))
  listed (None ∷ cells) zero e there = absurd (cc)
  listed (None ∷ cells) (suc slot) e there = listed cells slot e there
  listed (Some x ∷ cells) zero e there = (0, omega arith, some_same x e there)
  listed (Some x ∷ cells) (suc slot) e there = Contains-later (loaded_in cells) x e (listed cells slot e there)

  -- and what is listed stands at a slot
  stands : (cells : List (Option (Loaded T))) (e : Loaded T) → Contains (loaded_in cells) e → (slot : ℕ) × (cell_at cells slot ≡ Some e)
  stands [] e there = absurd (omega (arith, there.1))
  stands (None ∷ cells) e there = let rest = stands cells e there in (suc rest.0, rest.1)
  stands (Some x ∷ cells) e there = elim (Contains-cons_cases (loaded_in cells) x e there) [
    | inl first ↦ (0, ap (λ l. Some l) (sym first))
    | inr later ↦ let rest = stands cells e later in (suc rest.0, rest.1)
  ]

  -- cells that begin at a slot, where each descriptor stands in the slot of its identifier
  IsPlacedFrom : ℕ → List (Option (Loaded T)) → Type 0
  IsPlacedFrom first cells = (slot : ℕ) (e : Loaded T) → cell_at cells slot ≡ Some e → e.ident.slot ≡ first + slot

  -- and so do those behind the first
  placed_behind : (first : ℕ) (cell : Option (Loaded T)) (cells : List (Option (Loaded T))) → IsPlacedFrom first (cell ∷ cells) → IsPlacedFrom (suc first) cells
  unfolding IsPlacedFrom
  placed_behind first cell cells placed slot e there = omega (arith, placed (suc slot) e there)

  rising : (first : ℕ) (cells : List (Option (Loaded T))) → IsPlacedFrom first cells → IsInOrderOfSlot (loaded_in cells)
  unfolding IsPlacedFrom
  rising first [] placed = λ i j d lt within. absurd (omega (arith, within))
  rising first (None ∷ cells) placed = rising (suc first) cells (placed_behind first None cells placed)
  rising first (Some x ∷ cells) placed =
      let above : All (λ e. x.ident.slot < e.ident.slot) (loaded_in cells) = λ k d within.
      let e = get_or (loaded_in cells) k d in
      let at = stands cells e (Contains-get_or (loaded_in cells) k d within) in
      omega (arith, placed 0 x refl, placed (suc at.0) e at.1) in
      AllPairs-cons (λ (a : Loaded T) (b : Loaded T). a.ident.slot < b.ident.slot) x (loaded_in cells) above (rising (suc first) cells (placed_behind first (Some x) cells placed))

  module _ (kind : Kind) (cells : List (Option (Loaded T))) (placed : IsPlaced kind cells) where
    pub lists_exactly : HasExactlyLoaded cells (loaded_in cells)
    lists_exactly e =
        (λ there. let at = stands cells e there in subst (λ slot. cell_at cells slot ≡ Some e) (sym (placed at.0 e at.1).0) at.1, listed cells e.ident.slot e)

    pub lists_in_order : IsInOrderOfSlot (loaded_in cells)
    unfolding IsPlacedFrom
    lists_in_order = rising 0 cells (λ slot e there. omega (arith, (placed slot e there).0))
