-- What a search in a list finds.
use Rattle.std.proofs.Common.{◌≡◌, Bool, true, ◌&&◌, List, [], ◌∷◌, map, Some, refl, inl, inr, arith}
use Rattle.std.specs.List.{filter, find, list_any, Contains}
use Rattle.std.specs.Option.{option_map}
use Rattle.std.proofs.lemmas.Bool.{cases_Bool}
use Rattle.std.proofs.lemmas.List.Elements.{Contains-append_right}

-- what is found among the images of what passes
pub find-map-filter : {X Y : Type 0} (p : X → Bool) (q : Y → Bool) (f : X → Y) (xs : List X) → find q (map f (filter p xs)) ≡ option_map f (find (λ x. p x && q (f x)) xs)
find-map-filter p q f [] = refl
find-map-filter p q f (x ∷ xs) = elim (cases_Bool (p x)) [
  | inl passes ↦ elim (cases_Bool (q (f x))) [
    | inl found ↦ rw (passes, found) refl
    | inr past ↦ rw (passes, past) (find-map-filter p q f xs)
  ]
  | inr skipped ↦ rw skipped (find-map-filter p q f xs)
]

-- what is found is there, and passes
pub find-passes : {X : Type 0} (p : X → Bool) (xs : List X) (x : X) → find p xs ≡ Some x → p x ≡ true
find-passes p [] x e = grind arith
find-passes p (y ∷ ys) x e = elim (cases_Bool (p y)) [
  | inl passes ↦ grind (arith, passes, e)
  | inr past ↦ find-passes p ys x (grind (arith, past, e))
]

-- what is found is an element
pub find-contains : {X : Type 0} (p : X → Bool) (xs : List X) (x : X) → find p xs ≡ Some x → Contains xs x
find-contains p [] x e = grind (arith, e)
find-contains p (y ∷ ys) x e = elim (cases_Bool (p y)) [
  | inl passes ↦ (0, omega arith, grind (arith, passes, e))
  | inr past ↦ Contains-append_right (y ∷ []) ys x (find-contains p ys x (grind (arith, past, e)))
]

-- what passes one test and is found by another passes some
pub any-found : {X : Type 0} (p q : X → Bool) (xs : List X) (x : X) → find p xs ≡ Some x → q x ≡ true → list_any q xs ≡ true
any-found p q [] x e passes = grind (arith, e)
any-found p q (y ∷ ys) x e passes = elim (cases_Bool (p y)) [
  | inl h ↦ grind (arith, h, e, passes)
  | inr past ↦ elim (cases_Bool (q y)) [
    | inl h ↦ rw h refl
    | inr h ↦ rw h (any-found p q ys x (grind (arith, past, e)) passes)
  ]
]
