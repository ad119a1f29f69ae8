-- What stands in a list.
use Rattle.std.proofs.Common.{◌≡◌, List, [], ◌∷◌, ◌++◌, ◌⊎◌, inl, inr}

abbrev pub IsIn : {X : Type 0} → X → List X → Type 0
IsIn x [] = ⊥
IsIn x (y ∷ ys) = (y ≡ x) ⊎ IsIn x ys

module _ {X : Type 0} where
  pub in_front : (x : X) (xs ys : List X) → IsIn x xs → IsIn x (xs ++ ys)
  in_front x [] ys there = absurd there
  in_front x (z ∷ xs) ys (inl here) = inl here
  in_front x (z ∷ xs) ys (inr later) = inr (in_front x xs ys later)

  pub in_back : (x : X) (xs ys : List X) → IsIn x ys → IsIn x (xs ++ ys)
  in_back x [] ys there = there
  in_back x (z ∷ xs) ys there = inr (in_back x xs ys there)

  pub in_either : (x : X) (xs ys : List X) → IsIn x (xs ++ ys) → IsIn x xs ⊎ IsIn x ys
  in_either x [] ys there = inr there
  in_either x (z ∷ xs) ys (inl here) = inl (inl here)
  in_either x (z ∷ xs) ys (inr later) = elim (in_either x xs ys later) [
    | inl front ↦ inl (inr front)
    | inr back ↦ inr back
  ]
