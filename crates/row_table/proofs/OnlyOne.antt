-- Lists of which none or at most one passes a test.
use Rattle.std.proofs.Common.{◌≡◌, zero, suc, Bool, true, false, not, List, [], ◌∷◌, map, filter, find, Some, None, refl, sym, ap, ◌∙◌, inl, inr, arith}
use Rattle.std.specs.Prelude.{⊤}
use Rattle.std.specs.List.{AllByRecursion, Contains}
use Rattle.std.proofs.lemmas.Bool.{cases_Bool, both_ways}
use Rattle.std.proofs.lemmas.Option.{none-some, same_Some}

module _ {X : Type 0} (p : X → Bool) where
  -- none passes
  abbrev pub NonePass : List X → Type 0
  NonePass xs = AllByRecursion (λ x. p x ≡ false) xs

  -- after one that passes none does
  abbrev pub AtMostOne : List X → Type 0
  AtMostOne [] = ⊤
  AtMostOne (x ∷ xs) = (p x ≡ true → NonePass xs) × AtMostOne xs

  pub none_from_find : (xs : List X) → find p xs ≡ None → NonePass xs
  none_from_find [] e = tt
  none_from_find (x ∷ xs) e = elim (cases_Bool (p x)) [
    | inl h ↦ absurd (none-some x (sym (rw h at e)))
    | inr h ↦ (h, none_from_find xs (rw h at e))
  ]

  pub find-none : (xs : List X) → NonePass xs → find p xs ≡ None
  find-none [] h = refl
  find-none (x ∷ xs) h = rw h.0 (find-none xs h.1)

  -- what is found passes
  pub find-passes : (xs : List X) (x : X) → find p xs ≡ Some x → p x ≡ true
  find-passes [] x e = absurd (none-some x e)
  find-passes (y ∷ ys) x e = elim (cases_Bool (p y)) [
    | inl h ↦ ap p (sym (same_Some y x (rw h at e))) ∙ h
    | inr h ↦ find-passes ys x (rw h at e)
  ]

  pub filter-none : (xs : List X) → NonePass xs → filter (λ x. not (p x)) xs ≡ xs
  filter-none [] h = refl
  filter-none (x ∷ xs) h = rw h.0 (ap (λ (ys : List X). x ∷ ys) (filter-none xs h.1))

  pub map-none : (f : X → X) → ((x : X) → p x ≡ false → f x ≡ x) → (xs : List X) → NonePass xs → map f xs ≡ xs
  map-none f same [] h = refl
  map-none f same (x ∷ xs) h = ap (λ (y : X). y ∷ map f xs) (same x h.0) ∙ ap (λ (ys : List X). x ∷ ys) (map-none f same xs h.1)

  -- one that passes isn't in a list of which none does
  none_contained : (xs : List X) (x : X) → NonePass xs → Contains xs x → p x ≡ true → ⊥
  none_contained [] x h c e = absurd (omega arith)
  none_contained (y ∷ ys) x h (zero, lt, is) e = both_ways (p y) h.0 (ap p is ∙ e)
  none_contained (y ∷ ys) x h (suc k, lt, is) e = none_contained ys x h.1 (k, omega arith, is) e

  -- one that passes is the one that is found
  pub find-contained : (xs : List X) (x : X) → AtMostOne xs → Contains xs x → p x ≡ true → find p xs ≡ Some x
  find-contained [] x one c e = absurd (omega arith)
  find-contained (y ∷ ys) x one (zero, lt, is) e = rw (ap p is ∙ e) (ap Some is)
  find-contained (y ∷ ys) x one (suc k, lt, is) e = elim (cases_Bool (p y)) [
    | inl h ↦ absurd (none_contained ys x (one.0 h) (k, omega arith, is) e)
    | inr h ↦ rw h (find-contained ys x one.1 (k, omega arith, is) e)
  ]

  -- where the one that passes fails another test, it counts for nothing there
  pub filter-others : (q : X → Bool) (xs : List X) (x : X) → AtMostOne xs → find p xs ≡ Some x → q x ≡ false → filter q (filter (λ y. not (p y)) xs) ≡ filter q xs
  filter-others q [] x one found fails = refl
  filter-others q (y ∷ ys) x one found fails = elim (cases_Bool (p y)) [
    | inl h ↦ rw (h, ap q (same_Some y x (rw h at found)) ∙ fails) (ap (filter q) (filter-none ys (one.0 h)))
    | inr h ↦ rw h (elim (cases_Bool (q y)) [
      | inl t ↦ rw t (ap (λ (zs : List X). y ∷ zs) (filter-others q ys x one.1 (rw h at found) fails))
      | inr t ↦ rw t (filter-others q ys x one.1 (rw h at found) fails)
    ])
  ]

-- of two tests that agree, none passes the one where none passes the other
pub none_agree : {X : Type 0} (p q : X → Bool) → ((x : X) → p x ≡ q x) → (xs : List X) → NonePass q xs → NonePass p xs
none_agree p q same [] h = tt
none_agree p q same (x ∷ xs) h = (same x ∙ h.0, none_agree p q same xs h.1)
