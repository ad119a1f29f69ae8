-- What holds of all slots stays, once a slot is written.
use Rattle.std.proofs.Common.{◌≡◌, ◌≢◌, ℕ, ◌<◌, List, length, set, Option, Some, None, sym, ◌∙◌, ap, inl, inr}
use Rattle.std.proofs.lemmas.Bool.{cases_eq}
use Rattle.cache_ident.specs.declared.idents.Ident.{Ident}
use Rattle.cache_ident.specs.declared.idents.Kind.{Kind}
use Rattle.cache_ident.specs.declared.names.Name.{Name}
use Rattle.slot_cache.specs.declared.loaded.Loaded.{Loaded}
use Rattle.slot_cache.specs.Cells.{cell_at}
use Rattle.slot_cache.specs.Table.{IsProper}
use Rattle.slot_cache.proofs.SlotLemmas.{elsewhere, here, not_none, placed-put, some_same}

module _ {T : Type 0} where
  -- what stands in a slot once another one is emptied stood there before
  pub was_there : (cells : List (Option (Loaded T))) (slot : ℕ) → slot < length cells → (other : ℕ) (a : Loaded T) → cell_at (set cells slot None) other ≡ Some a → cell_at cells other ≡ Some a
  was_there cells slot within other a there = elim (cases_eq other slot) [
    | inl at ↦ absurd (not_none (set cells slot None) slot a (ap (cell_at (set cells slot None)) (sym at) ∙ there) (here cells slot None within))
    | inr apart ↦ sym (elsewhere cells slot other None apart) ∙ there
  ]

module _ {T K : Type 0} (key : Loaded T → K) where
  -- no key stands twice
  abbrev pub IsOnce : List (Option (Loaded T)) → Type 0
  IsOnce cells = (i j : ℕ) (a b : Loaded T) → cell_at cells i ≡ Some a → cell_at cells j ≡ Some b → key a ≡ key b → i ≡ j

  -- no other slot has the key
  abbrev pub IsNowhereElse : List (Option (Loaded T)) → ℕ → K → Type 0
  IsNowhereElse cells slot k = (other : ℕ) (a : Loaded T) → other ≢ slot → cell_at cells other ≡ Some a → key a ≢ k

  once-put : (cells : List (Option (Loaded T))) (slot : ℕ) (new : Loaded T) → slot < length cells → IsNowhereElse cells slot (key new) → IsOnce cells → IsOnce (set cells slot (Some new))
  once-put cells slot new within nowhere once i j a b first second same =
      let is : (x : Loaded T) (k : ℕ) → k ≡ slot → cell_at (set cells slot (Some new)) k ≡ Some x → x ≡ new = λ x k at there. some_same x new (sym there ∙ ap (cell_at (set cells slot (Some new))) at ∙ here cells slot (Some new) within) in
      let was : (x : Loaded T) (k : ℕ) → k ≢ slot → cell_at (set cells slot (Some new)) k ≡ Some x → cell_at cells k ≡ Some x = λ x k apart there. sym (elsewhere cells slot k (Some new) apart) ∙ there in
      elim (cases_eq i slot) [
        | inl i_at ↦ elim (cases_eq j slot) [
          | inl j_at ↦ i_at ∙ sym j_at
          | inr j_apart ↦ absurd (nowhere j b j_apart (was b j j_apart second) (sym same ∙ ap key (is a i i_at first)))
        ]
        | inr i_apart ↦ elim (cases_eq j slot) [
          | inl j_at ↦ absurd (nowhere i a i_apart (was a i i_apart first) (same ∙ ap key (is b j j_at second)))
          | inr j_apart ↦ once i j a b (was a i i_apart first) (was b j j_apart second) same
        ]
      ]

  once-take : (cells : List (Option (Loaded T))) (slot : ℕ) → slot < length cells → IsOnce cells → IsOnce (set cells slot None)
  once-take cells slot within once i j a b first second same = once i j a b (was_there cells slot within i a first) (was_there cells slot within j b second) same

module _ {T : Type 0} (called : T → Name) (kind : Kind) where
  -- what may come into a slot: it is of that slot and of the kind, and no other slot has its serial or its name
  pub record Fits (cells : List (Option (Loaded T))) (slot : ℕ) (new : Loaded T) : Type 0 where
    pub slot_is : new.ident.slot ≡ slot
    pub kind_is : new.ident.kind ≡ kind
    pub serial : IsNowhereElse (λ (x : Loaded T). x.ident.serial) cells slot new.ident.serial
    pub name : IsNowhereElse (λ (x : Loaded T). called x.value) cells slot (called new.value)

  pub proper-put : (cells : List (Option (Loaded T))) (slot : ℕ) (new : Loaded T) → slot < length cells → Fits cells slot new → IsProper called kind cells → IsProper called kind (set cells slot (Some new))
  proper-put cells slot new within fits proper = record {
    placed = placed-put kind cells slot new within fits.slot_is fits.kind_is proper.placed;
    one_serial = once-put (λ (x : Loaded T). x.ident.serial) cells slot new within fits.serial proper.one_serial;
    one_name = once-put (λ (x : Loaded T). called x.value) cells slot new within fits.name proper.one_name;
  }

  -- one of the same identifier and the same name fits in the place of one that is there
  pub fits_there : (cells : List (Option (Loaded T))) (slot : ℕ) (e new : Loaded T) → cell_at cells slot ≡ Some e → new.ident ≡ e.ident → called new.value ≡ called e.value → IsProper called kind cells → Fits cells slot new
  fits_there cells slot e new there ident name proper = record {
    slot_is = ap (λ (i : Ident). i.slot) ident ∙ (proper.placed slot e there).0;
    kind_is = ap (λ (i : Ident). i.kind) ident ∙ (proper.placed slot e there).1;
    serial = λ other a apart at same. apart (proper.one_serial other slot a e at there (same ∙ ap (λ (i : Ident). i.serial) ident));
    name = λ other a apart at same. apart (proper.one_name other slot a e at there (same ∙ name));
  }
