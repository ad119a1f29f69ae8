-- A place of a list after a write to one, and who has a page then.
use Rattle.std.proofs.Common.{◌≡◌, ℕ, zero, suc, ◌<◌, List, [], ◌∷◌, length, get_or, set, Some, slice_get, refl, ap, sym, ◌∙◌, ◌⊎◌, inl, inr}
use Rattle.std.proofs.lemmas.Bool.{cases_eq}
use Rattle.std.proofs.lemmas.Option.{same_Some, slice_get_read}
use Rattle.cache_ident.specs.declared.names.Frame.{Frame}
use Rattle.page_store.specs.declared.page.Page.{Page}
use Rattle.page_store.specs.Kept.{HasPage}

module _ {X : Type 0} where
  pub get-set_same : (xs : List X) (n : ℕ) (y x : X) → slice_get xs n ≡ Some x → slice_get (set xs n y) n ≡ Some y
  get-set_same [] n y x e = absurd (cc)
  get-set_same (z ∷ xs) zero y x e = refl
  get-set_same (z ∷ xs) (suc n) y x e = get-set_same xs n y x e

  pub get-set_other : (xs : List X) (n k : ℕ) (y : X) → (k ≡ n → ⊥) → slice_get (set xs n y) k ≡ slice_get xs k
  get-set_other [] n k y other = refl
  get-set_other (z ∷ xs) zero zero y other = absurd (other refl)
  get-set_other (z ∷ xs) zero (suc k) y other = refl
  get-set_other (z ∷ xs) (suc n) zero y other = refl
  get-set_other (z ∷ xs) (suc n) (suc k) y other = get-set_other xs n k y (λ e. other (ap suc e))

  pub set_set : (xs : List X) (n : ℕ) (x y : X) → set (set xs n x) n y ≡ set xs n y
  set_set [] n x y = refl
  set_set (z ∷ xs) zero x y = refl
  set_set (z ∷ xs) (suc n) x y = ap (λ (ys : List X). z ∷ ys) (set_set xs n x y)

  -- what stands at a place already
  pub set_same : (xs : List X) (n : ℕ) (x : X) → slice_get xs n ≡ Some x → xs ≡ set xs n x
  set_same [] n x e = refl
  set_same (z ∷ xs) zero x e = ap (λ (y : X). y ∷ xs) (same_Some z x e)
  set_same (z ∷ xs) (suc n) x e = ap (λ (ys : List X). z ∷ ys) (set_same xs n x e)

  -- what is read at a place stands there
  pub read_at : (xs : List X) (n : ℕ) (x : X) → n < length xs → x ≡ get_or xs n x → slice_get xs n ≡ Some x
  read_at xs n x within is = slice_get_read xs (length xs) n x refl within is

-- one page stands at a place
pub same_page : (slots : List Page) (p : ℕ) (a b : Page) → slice_get slots p ≡ Some a → slice_get slots p ≡ Some b → a ≡ b
same_page slots p a b at_a at_b = same_Some a b (sym at_a ∙ at_b)

-- the same frame, by its number
pub same_frame : (f g : Frame) → f.0 ≡ g.0 → f ≡ g
same_frame f g same = ap (λ (n : ℕ). record { 0 = n }) same

-- a slot is written
module _ (slots : List Page) (p : ℕ) (page now : Page) (here : slice_get slots p ≡ Some page) where
  -- who has a page afterwards
  pub has_cases : (q : ℕ) (g : Frame) (pg : Page) → HasPage (set slots p now) q g pg → ((q ≡ p) × (now ≡ pg)) ⊎ ((q ≡ p → ⊥) × HasPage slots q g pg)
  has_cases q g pg has = elim (cases_eq q p) [
    | inl is ↦ inl (is, same_Some now pg (sym (get-set_same slots p now page here) ∙ ap (slice_get (set slots p now)) (sym is) ∙ has.there))
    | inr other ↦ inr (other, record { there = sym (get-set_other slots p q now other) ∙ has.there; its = has.its })
  ]

  -- and who had one before
  pub had_cases : (q : ℕ) (g : Frame) (pg : Page) → HasPage slots q g pg → ((q ≡ p) × (page ≡ pg)) ⊎ ((q ≡ p → ⊥) × HasPage (set slots p now) q g pg)
  had_cases q g pg has = elim (cases_eq q p) [
    | inl is ↦ inl (is, same_Some page pg (sym here ∙ ap (slice_get slots) (sym is) ∙ has.there))
    | inr other ↦ inr (other, record { there = get-set_other slots p q now other ∙ has.there; its = has.its })
  ]

  pub has_now : (f : Frame) → now.frame ≡ Some f → HasPage (set slots p now) p f now
  has_now f its = record { there = get-set_same slots p now page here; its = its }
