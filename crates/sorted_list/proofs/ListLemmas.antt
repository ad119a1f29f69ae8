-- What is in a list after an edit.
use Rattle.std.proofs.Common.{◌≡◌, ℕ, zero, suc, ◌+◌, ◌<◌, Bool, true, false, cond, List, [], ◌∷◌, ◌++◌, length, get_or, take, drop, map, filter, Contains, sym, ◌∙◌, ap, ◌⊎◌, inl, inr, refl, arith}
use Rattle.std.specs.List.{insert, remove}
use Rattle.std.proofs.lemmas.List.{drop_more, get_or-map, length-map, take-append-drop}
use Rattle.std.proofs.lemmas.List.Elements.{All-contains, All-contains_itself, All-filter, Contains-get_or, filter-append, filter_passes}
use Rattle.std.proofs.lemmas.List.Sorted.{Contains-permutation, IsPermutation-insert, IsPermutation-remove, IsPermutation-sym}

module _ {X : Type 0} where
  at_front : (xs : List X) (x y : X) (k : ℕ) → k < length (x ∷ xs) → get_or (x ∷ xs) k y ≡ y → (y ≡ x) ⊎ Contains xs y
  at_front xs x y zero lt there = inl (sym there)
  at_front xs x y (suc k) lt there = inr (k, omega arith, there)

  -- an item of a list is the first or a later one
  pub Contains-cons_cases : (xs : List X) (x y : X) → Contains (x ∷ xs) y → (y ≡ x) ⊎ Contains xs y
  Contains-cons_cases xs x y there = at_front xs x y there.0 there.1 there.2

  pub Contains-first : (xs : List X) (x : X) → Contains (x ∷ xs) x
  Contains-first xs x = (0, omega arith, refl)

  pub Contains-later : (xs : List X) (x y : X) → Contains xs y → Contains (x ∷ xs) y
  Contains-later xs x y there = (suc there.0, omega (arith, there.1), there.2)

  -- what is there after an insert
  pub Contains-insert_cases : (xs : List X) (at : ℕ) (x y : X) → Contains (insert xs at x) y → (y ≡ x) ⊎ Contains xs y
  Contains-insert_cases xs at x y there = Contains-cons_cases xs x y (Contains-permutation (insert xs at x) (x ∷ xs) y (IsPermutation-sym (x ∷ xs) (insert xs at x) (IsPermutation-insert xs at x)) there)

  -- what is there after a removal
  pub Contains-from_remove : (xs : List X) (at : ℕ) (x y : X) → at < length xs → get_or xs at x ≡ x → Contains (remove xs at) y → Contains xs y
  Contains-from_remove xs at x y within here there = Contains-permutation (x ∷ remove xs at) xs y (IsPermutation-sym xs (x ∷ remove xs at) (IsPermutation-remove xs at x within (sym here))) (Contains-later (remove xs at) x y there)

  -- what a filter keeps was there and passes
  pub Contains-from_filter : (p : X → Bool) (xs : List X) (x : X) → Contains (filter p xs) x → Contains xs x × (p x ≡ true)
  Contains-from_filter p xs x there = (All-contains (Contains xs) (filter p xs) x (All-filter p (Contains xs) xs (All-contains_itself xs)) there, All-contains (λ y. p y ≡ true) (filter p xs) x (filter_passes p xs) there)

  -- and it keeps what passes
  pub Contains-filter : (p : X → Bool) (xs : List X) (x : X) → Contains xs x → p x ≡ true → Contains (filter p xs) x
  Contains-filter p [] x there passes = absurd (omega (arith, there.1))
  Contains-filter p (y ∷ xs) x there passes = elim (Contains-cons_cases xs y x there) [
    | inl first ↦ rw (ap p (sym first) ∙ passes) (kept_first first)
    | inr later ↦ after (p y) (Contains-filter p xs x later passes)
  ]
    where
      kept_first : x ≡ y → Contains (y ∷ filter p xs) x
      kept_first first = (0, omega arith, sym first)

      after : (b : Bool) → Contains (filter p xs) x → Contains (cond b (y ∷ filter p xs) (filter p xs)) x
      after true later = Contains-later (filter p xs) y x later
      after false later = later

  -- a filter passes over a removal of what fails
  pub filter-remove : (p : X → Bool) (xs : List X) (at : ℕ) (x : X) → at < length xs → get_or xs at x ≡ x → p x ≡ false → filter p (remove xs at) ≡ filter p xs
  filter-remove p xs at x within here fails =
      let rest = drop (suc at) xs in
      let next : at + 1 ≡ suc at = omega arith in
      let split : xs ≡ take at xs ++ x ∷ rest = sym (take-append-drop at xs) ∙ ap (λ ys. take at xs ++ ys) (drop_more xs at x within ∙ ap (λ y. y ∷ drop (at + 1) xs) here ∙ ap (λ k. x ∷ drop k xs) next) in
      let skips : filter p (x ∷ rest) ≡ filter p rest = rw fails refl in
      filter-append p (take at xs) rest ∙ ap (λ ys. filter p (take at xs) ++ ys) (sym skips) ∙ sym (filter-append p (take at xs) (x ∷ rest)) ∙ ap (filter p) (sym split)

-- what is in a list made by a function
pub Contains-map : {X Y : Type 0} (f : X → Y) (xs : List X) (x : X) → Contains xs x → Contains (map f xs) (f x)
Contains-map f xs x there = (there.0, omega (arith, there.1, length-map xs f), get_or-map f xs there.0 x (f x) there.1 ∙ ap f there.2)

-- an item of a list that has one
pub some_item : {X : Type 0} (xs : List X) → 0 < length xs → X
some_item [] some = absurd (omega arith)
some_item (x ∷ xs) some = x

pub Contains-from_map : {X Y : Type 0} (f : X → Y) (xs : List X) (y : Y) → Contains (map f xs) y → (x : X) × Contains xs x × (f x ≡ y)
Contains-from_map f xs y there =
    let within : there.0 < length xs = omega (arith, there.1, length-map xs f) in
    let d = some_item xs (omega (arith, within)) in
    (get_or xs there.0 d, Contains-get_or xs there.0 d within, sym (get_or-map f xs there.0 d y within) ∙ there.2)
