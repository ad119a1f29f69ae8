-- The pages of a frame's signal rows, as rows come, go and change.
use Rattle.std.proofs.Common.{◌≡◌, ℕ, zero, suc, ◌<◌, Bool, false, not, cond, List, [], ◌∷◌, ◌++◌, length, get_or, map, filter, refl, ap, ◌∙◌, inl, inr, arith}
use Rattle.std.specs.List.{remove}
use Rattle.std.proofs.lemmas.Bool.{cases_Bool}
use Rattle.std.proofs.lemmas.List.{map-append}
use Rattle.std.proofs.lemmas.List.Elements.{filter-append}

module _ {X Y : Type 0} (key : X → Y) (p : X → Bool) where
  -- what one element gives
  pub listed_one : (x : X) → map key (filter p (x ∷ [])) ≡ cond (p x) (key x ∷ []) []
  listed_one x = elim (cases_Bool (p x)) [ inl h ↦ rw h refl | inr h ↦ rw h refl ]

  pub listed-push : (xs : List X) (x : X) → map key (filter p (xs ++ x ∷ [])) ≡ map key (filter p xs) ++ cond (p x) (key x ∷ []) []
  listed-push xs x =
      ap (map key) (filter-append p xs (x ∷ []))
      ∙ map-append key (filter p xs) (filter p (x ∷ []))
      ∙ ap (λ (ys : List Y). map key (filter p xs) ++ ys) (listed_one x)

  -- those whose keys fail a test are left out before or after
  pub listed-filter : (t : Y → Bool) (xs : List X) → map key (filter p (filter (λ x. not (t (key x))) xs)) ≡ filter (λ y. not (t y)) (map key (filter p xs))
  listed-filter t [] = refl
  listed-filter t (x ∷ xs) = elim (cases_Bool (p x)) [
    | inl h ↦ elim (cases_Bool (t (key x))) [
      | inl e ↦ rw (h, e) (listed-filter t xs)
      | inr e ↦ rw (h, e, h) (ap (λ (ys : List Y). key x ∷ ys) (listed-filter t xs))
    ]
    | inr h ↦ elim (cases_Bool (t (key x))) [
      | inl e ↦ rw (h, e) (listed-filter t xs)
      | inr e ↦ rw (h, e, h) (listed-filter t xs)
    ]
  ]

  pub listed-map : (f : X → X) → ((x : X) → p (f x) ≡ p x) → ((x : X) → key (f x) ≡ key x) → (xs : List X) → map key (filter p (map f xs)) ≡ map key (filter p xs)
  listed-map f same keys [] = refl
  listed-map f same keys (x ∷ xs) = elim (cases_Bool (p x)) [
    | inl h ↦ rw (same x, h) (ap (λ (y : Y). y ∷ map key (filter p (map f xs))) (keys x) ∙ ap (λ (ys : List Y). key x ∷ ys) (listed-map f same keys xs))
    | inr h ↦ rw (same x, h) (listed-map f same keys xs)
  ]

-- one that fails is removed
pub filter-remove : {X : Type 0} (p : X → Bool) (xs : List X) (place : ℕ) → place < length xs → ((d : X) → p (get_or xs place d) ≡ false) → filter p (remove xs place) ≡ filter p xs
filter-remove p [] place lt fails = absurd (omega arith)
filter-remove p (x ∷ xs) zero lt fails = rw (fails x) refl
filter-remove p (x ∷ xs) (suc place) lt fails = ap (λ (ys : List _). cond (p x) (x ∷ ys) ys) (filter-remove p xs place (omega arith) fails)
