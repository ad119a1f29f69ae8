-- What is loaded with an identifier, once a slot is written.
use Rattle.std.proofs.Common.{◌≡◌, ◌≢◌, ◌<◌, List, length, set, Option, Some, None, sym, ◌∙◌, ap, subst, inl, inr, refl}
use Rattle.std.specs.Option.{option_map, IfNone, IfSome}
use Rattle.std.proofs.lemmas.Bool.{cases_eq}
use Rattle.cache_ident.specs.declared.idents.Ident.{Ident}
use Rattle.slot_cache.specs.declared.loaded.Loaded.{Loaded}
use Rattle.slot_cache.specs.Cells.{cell_at, changed, IsContent, IsLoaded}
use Rattle.slot_cache.proofs.SlotLemmas.{cell_within, elsewhere, here, some_same}
use Rattle.kind_store.specs.Rolls.{held_as, loaded_as}
use Rattle.kind_store.proofs.OrderLemmas.{apart_fails, cases_ident, same_passes}

module _ {T : Type 0} where
  held_same : (l : Loaded T) (i : Ident) → l.ident ≡ i → held_as i (Some l) ≡ Some l
  held_same l i same = rw (same_passes l.ident i same) refl

  held_other : (l : Loaded T) (i : Ident) → l.ident ≢ i → held_as i (Some l) ≡ None
  held_other l i apart = rw (apart_fails l.ident i apart) refl

  -- what stands in the slot of its identifier is loaded with it
  pub as_loaded : (cells : List (Option (Loaded T))) (ident : Ident) (l : Loaded T) → cell_at cells ident.slot ≡ Some l → l.ident ≡ ident → loaded_as cells ident ≡ Some l
  as_loaded cells ident l there own = ap (held_as ident) there ∙ held_same l ident own

  held_back : (i : Ident) (o : Option (Loaded T)) (l : Loaded T) → held_as i o ≡ Some l → (o ≡ Some l) × (l.ident ≡ i)
  held_back i None l held = absurd (cc)
  held_back i (Some x) l held = elim (cases_ident x.ident i) [
    | inl same ↦
        let one : x ≡ l = some_same x l (sym (held_same x i same) ∙ held) in
        (ap (λ y. Some y) one, ap (λ (y : Loaded T). y.ident) (sym one) ∙ same)
    | inr apart ↦ absurd (cc (sym (held_other x i apart) ∙ held))
  ]

  -- and back
  pub loaded_back : (cells : List (Option (Loaded T))) (ident : Ident) (l : Loaded T) → loaded_as cells ident ≡ Some l → (cell_at cells ident.slot ≡ Some l) × (l.ident ≡ ident)
  loaded_back cells ident l held = held_back ident (cell_at cells ident.slot) l held

  -- a slot that was and is of that identifier or free decides nothing of another one
  abbrev IsHeldBy : Ident → Option (Loaded T) → Type 0
  IsHeldBy ident cell = (l : Loaded T) → cell ≡ Some l → l.ident ≡ ident

  nothing_held : (i ident : Ident) (cell : Option (Loaded T)) → i ≢ ident → IsHeldBy ident cell → held_as i cell ≡ None
  nothing_held i ident None apart own = refl
  nothing_held i ident (Some l) apart own = held_other l i (λ same. apart (sym same ∙ own l refl))

  pub as_other : (cells : List (Option (Loaded T))) (ident : Ident) (cell : Option (Loaded T)) (i : Ident) → ident.slot < length cells → i ≢ ident → IsHeldBy ident (cell_at cells ident.slot) → IsHeldBy ident cell → loaded_as (set cells ident.slot cell) i ≡ loaded_as cells i
  as_other cells ident cell i within apart was is = elim (cases_eq i.slot ident.slot) [
    | inl at ↦
        let now : cell_at (set cells ident.slot cell) i.slot ≡ cell = ap (cell_at (set cells ident.slot cell)) at ∙ here cells ident.slot cell within in
        ap (held_as i) now ∙ nothing_held i ident cell apart is ∙ sym (nothing_held i ident (cell_at cells ident.slot) apart was) ∙ ap (λ k. held_as i (cell_at cells k)) (sym at)
    | inr other ↦ ap (held_as i) (elsewhere cells ident.slot i.slot cell other)
  ]

  module _ (cells : List (Option (Loaded T))) (ident : Ident) (y : Loaded T) (there : cell_at cells ident.slot ≡ Some y) (own : y.ident ≡ ident) where
    was_own : IsHeldBy ident (cell_at cells ident.slot)
    was_own l is = ap (λ (l : Loaded T). l.ident) (some_same l y (sym is ∙ there)) ∙ own

    -- once it has left
    pub left_none : loaded_as (set cells ident.slot None) ident ≡ None
    left_none = ap (held_as ident) (here cells ident.slot None (cell_within cells ident.slot y there))

    pub left_other : (i : Ident) → i ≢ ident → loaded_as (set cells ident.slot None) i ≡ loaded_as cells i
    left_other i apart = as_other cells ident None i (cell_within cells ident.slot y there) apart was_own (λ l is. absurd (cc))

    module _ (change : Loaded T → Loaded T) (stays : (change y).ident ≡ y.ident) where
      changed_is : set cells ident.slot (Some (change y)) ≡ changed cells ident.slot change
      changed_is = ap (λ c. set cells ident.slot (option_map change c)) (sym there)

      -- once it has changed in its place
      pub changed_same : loaded_as (changed cells ident.slot change) ident ≡ Some (change y)
      changed_same = subst (λ new. loaded_as new ident ≡ Some (change y)) changed_is (as_loaded (set cells ident.slot (Some (change y))) ident (change y) (here cells ident.slot (Some (change y)) (cell_within cells ident.slot y there)) (stays ∙ own))

      pub changed_other : (i : Ident) → i ≢ ident → loaded_as (changed cells ident.slot change) i ≡ loaded_as cells i
      changed_other i apart = subst (λ new. loaded_as new i ≡ loaded_as cells i) changed_is (as_other cells ident (Some (change y)) i (cell_within cells ident.slot y there) apart was_own (λ l is. ap (λ (l : Loaded T). l.ident) (some_same l (change y) (sym is)) ∙ stays ∙ own))

  -- a free slot was filled
  module _ (cells : List (Option (Loaded T))) (x : Loaded T) (within : x.ident.slot < length cells) (free : cell_at cells x.ident.slot ≡ None) where
    pub filled_same : loaded_as (set cells x.ident.slot (Some x)) x.ident ≡ Some x
    filled_same = as_loaded (set cells x.ident.slot (Some x)) x.ident x (here cells x.ident.slot (Some x) within) refl

    pub filled_other : (i : Ident) → i ≢ x.ident → loaded_as (set cells x.ident.slot (Some x)) i ≡ loaded_as cells i
    filled_other i apart = as_other cells x.ident (Some x) i within apart (λ l is. absurd (cc)) (λ l is. ap (λ (l : Loaded T). l.ident) (some_same l x (sym is)))

  -- what a reader of one kind finds
  pub got_as : {R : Type 0} (value : R → T) (cells : List (Option (Loaded T))) (ident : Ident) (r : Option R) → IfSome r (λ x. IsContent cells ident (value x)) → IfNone r (IsLoaded cells ident → ⊥) → option_map value r ≡ option_map (λ l. l.value) (loaded_as cells ident)
  got_as value cells ident None some none = by (loaded_as cells ident) refl
    where
      by : (o : Option (Loaded T)) → loaded_as cells ident ≡ o → None ≡ option_map (λ l. l.value) o
      by None is = refl
      by (Some l) is =
          let back = loaded_back cells ident l is in
          absurd (none (l, back.0, back.1))
  got_as value cells ident (Some x) some none = rw (as_loaded cells ident some.0 some.1 some.2) (ap (λ v. Some v) (sym some.3))
