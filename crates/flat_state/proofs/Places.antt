-- What stands at a place of a list after a change, and what a change leaves of a count.
use Rattle.std.proofs.Common.{◌≡◌, ℕ, zero, suc, ◌+◌, ◌≤◌, Bool, true, false, cond, List, [], ◌∷◌, ◌++◌, map, length, set, Option, Some, None, slice_get, Contains, filter, count_by, refl, ap, ◌∙◌, ◌⊎◌, inl, inr, arith}
use Rattle.std.specs.List.{find, sum_by}
use Rattle.std.proofs.lemmas.Option.{same_Some, slice_get-get_or, get_or_from_slice_get, slice_get_within}
use Rattle.std.proofs.lemmas.List.Sums.{sum_by-cons}

module _ {X : Type 0} where
  -- an element that stands at a place is one of the list, and each one stands at a place
  pub Contains-from_get : (xs : List X) (k : ℕ) (x : X) → slice_get xs k ≡ Some x → Contains xs x
  Contains-from_get xs k x e = (k, slice_get_within xs k x e, get_or_from_slice_get xs k x x e)

  pub get_from_Contains : (xs : List X) (x : X) → Contains xs x → (k : ℕ) × (slice_get xs k ≡ Some x)
  get_from_Contains xs x there = (there.0, slice_get-get_or xs there.0 x there.1 ∙ ap Some there.2)

  -- what is read of a list after a write to a place
  pub set_cases : (xs : List X) (n k : ℕ) (y t : X) → slice_get (set xs n y) k ≡ Some t → ((k ≡ n) × (y ≡ t)) ⊎ (slice_get xs k ≡ Some t)
  set_cases [] n k y t e = inr e
  set_cases (x ∷ xs) zero zero y t e = inl (refl, same_Some y t e)
  set_cases (x ∷ xs) zero (suc k) y t e = inr e
  set_cases (x ∷ xs) (suc n) zero y t e = inr e
  set_cases (x ∷ xs) (suc n) (suc k) y t e = elim (set_cases xs n k y t e) [
    | inl here ↦ inl (ap suc here.0, here.1)
    | inr other ↦ inr other
  ]

  pub get-set_same : (xs : List X) (n : ℕ) (y x : X) → slice_get xs n ≡ Some x → slice_get (set xs n y) n ≡ Some y
  get-set_same [] n y x e = absurd (cc)
  get-set_same (z ∷ xs) zero y x e = refl
  get-set_same (z ∷ xs) (suc n) y x e = get-set_same xs n y x e

  pub get-set_other : (xs : List X) (n k : ℕ) (y : X) → (k ≡ n → ⊥) → slice_get (set xs n y) k ≡ slice_get xs k
  get-set_other [] n k y other = refl
  get-set_other (z ∷ xs) zero zero y other = absurd (other refl)
  get-set_other (z ∷ xs) zero (suc k) y other = refl
  get-set_other (z ∷ xs) (suc n) zero y other = refl
  get-set_other (z ∷ xs) (suc n) (suc k) y other = get-set_other xs n k y (λ e. other (ap suc e))

  -- what is read of a list with one more element behind
  pub push_cases : (xs : List X) (y t : X) (k : ℕ) → slice_get (xs ++ y ∷ []) k ≡ Some t → (slice_get xs k ≡ Some t) ⊎ ((k ≡ length xs) × (y ≡ t))
  push_cases [] y t zero e = inr (refl, same_Some y t e)
  push_cases [] y t (suc k) e = inl e
  push_cases (x ∷ xs) y t zero e = inl e
  push_cases (x ∷ xs) y t (suc k) e = elim (push_cases xs y t k e) [
    | inl other ↦ inl other
    | inr here ↦ inr (ap suc here.0, here.1)
  ]

  pub get-append : (xs ys : List X) (k : ℕ) (t : X) → slice_get xs k ≡ Some t → slice_get (xs ++ ys) k ≡ Some t
  get-append [] ys k t e = absurd (cc)
  get-append (x ∷ xs) ys zero t e = e
  get-append (x ∷ xs) ys (suc k) t e = get-append xs ys k t e

  in_front : (b : Bool) (x : X) (ys xs : List X) (k : ℕ) (t : X) → ((j : ℕ) → slice_get ys j ≡ Some t → (i : ℕ) × (slice_get xs i ≡ Some t)) → slice_get (cond b (x ∷ ys) ys) k ≡ Some t → (j : ℕ) × (slice_get (x ∷ xs) j ≡ Some t)
  in_front true x ys xs zero t there e = (zero, e)
  in_front true x ys xs (suc k) t there e = (suc (there k e).0, (there k e).1)
  in_front false x ys xs k t there e = (suc (there k e).0, (there k e).1)

  -- what a filter keeps was there
  pub get_from_filter : (p : X → Bool) (xs : List X) (k : ℕ) (t : X) → slice_get (filter p xs) k ≡ Some t → (j : ℕ) × (slice_get xs j ≡ Some t)
  get_from_filter p [] k t e = absurd (cc)
  get_from_filter p (x ∷ xs) k t e = in_front (p x) x (filter p xs) xs k t (λ j kept. get_from_filter p xs j t kept) e

  -- a count of a list from its first element
  pub count_by-cons : (p : X → Bool) (x : X) (xs : List X) → count_by p (x ∷ xs) ≡ cond (p x) 1 0 + count_by p xs
  count_by-cons p x xs = sum_by-cons (λ y. cond (p y) 1 0) x xs

  count_by-in_front : (p : X → Bool) (b : Bool) (x : X) (ys xs : List X) → count_by p ys ≤ count_by p xs → count_by p (cond b (x ∷ ys) ys) ≤ count_by p (x ∷ xs)
  count_by-in_front p true x ys xs le = rw (count_by-cons p x ys, count_by-cons p x xs) (omega arith)
  count_by-in_front p false x ys xs le = rw (count_by-cons p x xs) (omega arith)

  -- a filter keeps no more of what is counted than there was
  pub count_by-filter : (p q : X → Bool) (xs : List X) → count_by p (filter q xs) ≤ count_by p xs
  count_by-filter p q [] = omega arith
  count_by-filter p q (x ∷ xs) = count_by-in_front p (q x) x (filter q xs) xs (count_by-filter p q xs)

  -- a map that keeps what is counted keeps the count
  pub count_by-map : (p : X → Bool) (f : X → X) → ((x : X) → p (f x) ≡ p x) → (xs : List X) → count_by p (map f xs) ≡ count_by p xs
  count_by-map p f same [] = refl
  count_by-map p f same (x ∷ xs) = rw (count_by-cons p (f x) (map f xs), count_by-cons p x xs, same x, count_by-map p f same xs) refl

  -- two tests that agree count the same
  pub count_by-agree : (p q : X → Bool) → ((x : X) → p x ≡ q x) → (xs : List X) → count_by p xs ≡ count_by q xs
  count_by-agree p q same [] = refl
  count_by-agree p q same (x ∷ xs) = rw (count_by-cons p x xs, count_by-cons q x xs, same x, count_by-agree p q same xs) refl

  -- a sum whose term at a place stays the same
  pub sum_by-set_same : (f : X → ℕ) (xs : List X) (n : ℕ) (y x : X) → slice_get xs n ≡ Some x → f y ≡ f x → sum_by f (set xs n y) ≡ sum_by f xs
  sum_by-set_same f [] n y x e same = refl
  sum_by-set_same f (z ∷ xs) zero y x e same = rw (sum_by-cons f y xs, sum_by-cons f z xs, same, same_Some z x e) refl
  sum_by-set_same f (z ∷ xs) (suc n) y x e same = rw (sum_by-cons f z (set xs n y), sum_by-cons f z xs, sum_by-set_same f xs n y x e same) refl

  fails_at_first : (b : Bool) (z : X) (later : Option X) → cond b (Some z) later ≡ None → b ≡ false
  fails_at_first true z later e = absurd (cc)
  fails_at_first false z later e = refl

  found_later : (b : Bool) (z : X) (later : Option X) → cond b (Some z) later ≡ None → later ≡ None
  found_later true z later e = absurd (cc)
  found_later false z later e = e

  -- nothing that is there passes a test by which nothing is found
  pub fails_if_not_found : (p : X → Bool) (xs : List X) (k : ℕ) (x : X) → find p xs ≡ None → slice_get xs k ≡ Some x → p x ≡ false
  fails_if_not_found p [] k x none e = absurd (cc)
  fails_if_not_found p (z ∷ xs) zero x none e = rw (← same_Some z x e) (fails_at_first (p z) z (find p xs) none)
  fails_if_not_found p (z ∷ xs) (suc k) x none e = fails_if_not_found p xs k x (found_later (p z) z (find p xs) none) e

-- what is read of a map was there before
pub get_from_map : {X Y : Type 0} (f : X → Y) (xs : List X) (k : ℕ) (y : Y) → slice_get (map f xs) k ≡ Some y → (x : X) × (slice_get xs k ≡ Some x) × (f x ≡ y)
get_from_map f [] k y e = absurd (cc)
get_from_map f (x ∷ xs) zero y e = (x, refl, same_Some (f x) y e)
get_from_map f (x ∷ xs) (suc k) y e = get_from_map f xs k y e
