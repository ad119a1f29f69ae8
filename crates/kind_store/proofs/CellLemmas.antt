-- Which loaded descriptor has a name, once a slot is written.
use Rattle.std.proofs.Common.{◌≡◌, ◌≢◌, ℕ, zero, suc, cond, List, [], ◌∷◌, set, Option, Some, None, sym, ◌∙◌, ap, refl, arith}
use Rattle.std.specs.List.{find}
use Rattle.cache_ident.specs.declared.names.Name.{Name}
use Rattle.slot_cache.specs.declared.loaded.Loaded.{Loaded}
use Rattle.slot_cache.specs.Cells.{cell_at, loaded_in, HasNoName}
use Rattle.slot_cache.proofs.SlotLemmas.{cell_within, some_same}
use Rattle.owner_shelf.proofs.NameLemmas.{eq_apart, eq_same}
use Rattle.kind_store.specs.Kept.{is_called}

module _ {T : Type 0} (called : T → Name) where
  -- what is loaded under a name
  abbrev pub found : List (Option (Loaded T)) → Name → Option (Loaded T)
  found cells name = find (is_called called name) (loaded_in cells)

  -- what stands in a cell, if anything, has another name
  abbrev pub IsNotNamed : Option (Loaded T) → Name → Type 0
  IsNotNamed cell name = (loaded : Loaded T) → cell ≡ Some loaded → called loaded.value ≢ name

  passed : (cell : Option (Loaded T)) (cells : List (Option (Loaded T))) (name : Name) → IsNotNamed cell name → found (cell ∷ cells) name ≡ found cells name
  passed None cells name not_named = refl
  passed (Some x) cells name not_named = rw (eq_apart (called x.value) name (not_named x refl)) refl

  -- a slot that hasn't the name before and after decides nothing
  pub found-set_other : (cells : List (Option (Loaded T))) (slot : ℕ) (cell : Option (Loaded T)) (name : Name) → IsNotNamed (cell_at cells slot) name → IsNotNamed cell name → found (set cells slot cell) name ≡ found cells name
  found-set_other [] slot cell name was is = refl
  found-set_other (c ∷ cells) zero cell name was is = passed cell cells name is ∙ sym (passed c cells name was)
  found-set_other (None ∷ cells) (suc slot) cell name was is = found-set_other cells slot cell name was is
  found-set_other (Some x ∷ cells) (suc slot) cell name was is = ap (λ later. cond (is_called called name x) (Some x) later) (found-set_other cells slot cell name was is)

  -- where nothing that is loaded has the name, nothing is found
  pub found-absent : (cells : List (Option (Loaded T))) (name : Name) → HasNoName called cells name → found cells name ≡ None
  found-absent [] name absent = refl
  found-absent (None ∷ cells) name absent = found-absent cells name (λ slot. absent (suc slot))
  found-absent (Some x ∷ cells) name absent = rw (eq_apart (called x.value) name (absent 0 x refl)) (found-absent cells name (λ slot. absent (suc slot)))

  -- the one of a name is found under it
  pub found-there : (cells : List (Option (Loaded T))) (slot : ℕ) (loaded : Loaded T) → cell_at cells slot ≡ Some loaded → ((other : ℕ) (a : Loaded T) → cell_at cells other ≡ Some a → called a.value ≡ called loaded.value → other ≡ slot) → found cells (called loaded.value) ≡ Some loaded
  found-there [] slot loaded there one = absurd (omega (arith, cell_within [] slot loaded there))
  found-there (None ∷ cells) zero loaded there one = absurd (cc)
  found-there (None ∷ cells) (suc slot) loaded there one = found-there cells slot loaded there (λ other a at same. omega (arith, one (suc other) a at same))
  found-there (Some x ∷ cells) zero loaded there one = rw (eq_same (called x.value) (called loaded.value) (ap (λ (l : Loaded T). called l.value) (some_same x loaded there))) there
  found-there (Some x ∷ cells) (suc slot) loaded there one =
      let apart = eq_apart (called x.value) (called loaded.value) (λ same. absurd (omega (arith, one 0 x refl same))) in
      rw apart (found-there cells slot loaded there (λ other a at same. omega (arith, one (suc other) a at same)))
