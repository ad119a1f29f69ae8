-- What stands in a list that is made of others.
use Rattle.std.proofs.Common.{◌≡◌, ℕ, zero, suc, ◌+◌, ◌≤◌, Bool, true, false, cond, List, [], ◌∷◌, map, length, Option, Some, None, slice_get, Contains, filter, count_by, refl, ap, ap₂, sym, ◌∙◌, subst, ◌⊎◌, inl, inr, arith}
use Rattle.std.specs.Prelude.{option_to_list, is_some}
use Rattle.std.specs.List.{find, filter_map, flat_map, cons_option}
use Rattle.std.specs.Option.{option_map}
use Rattle.std.proofs.lemmas.List.Elements.{Contains-append_cases, Contains-append_left, Contains-append_right}
use Rattle.std.proofs.lemmas.Option.{same_Some}
use Rattle.flat_state.proofs.Places.{count_by-cons}

module _ {X : Type 0} where
  pub Contains-here : (x : X) (xs : List X) → Contains (x ∷ xs) x
  Contains-here x xs = (zero, omega arith, refl)

  pub Contains-behind : (x : X) (xs : List X) (y : X) → Contains xs y → Contains (x ∷ xs) y
  Contains-behind x xs y there = (suc there.0, let lt = there.1 in omega arith, there.2)

  pub Contains-cases : (x : X) (xs : List X) (y : X) → Contains (x ∷ xs) y → (x ≡ y) ⊎ Contains xs y
  Contains-cases x xs y (zero, lt, e) = inl e
  Contains-cases x xs y (suc k, lt, e) = inr (k, omega arith, e)

  pub contains_nothing : (y : X) → Contains [] y → ⊥
  contains_nothing y (k, lt, e) = omega arith

  pub Contains-option : (o : Option X) (x : X) → Contains (option_to_list o) x → o ≡ Some x
  Contains-option None x there = absurd (contains_nothing x there)
  Contains-option (Some y) x there = elim (Contains-cases y [] x there) [
    | inl same ↦ ap Some same
    | inr nothing ↦ absurd (contains_nothing x nothing)
  ]

  pub Contains-some : (o : Option X) (x : X) → o ≡ Some x → Contains (option_to_list o) x
  Contains-some None x e = absurd (cc)
  Contains-some (Some y) x e = subst (λ (z : X). Contains (z ∷ []) x) {x = x} {y = y} (sym (same_Some y x e)) (Contains-here x [])

  filter_cases : (p : X → Bool) (x : X) (b : Bool) → p x ≡ b → (xs : List X) (y : X) → Contains (cond b (x ∷ xs) xs) y → ((x ≡ y) × (p y ≡ true)) ⊎ Contains xs y
  filter_cases p x true is xs y there = elim (Contains-cases x xs y there) [
    | inl same ↦ inl (same, rw (← same) is)
    | inr behind ↦ inr behind
  ]
  filter_cases p x false is xs y there = inr there

  pub Contains-filter : (p : X → Bool) (xs : List X) (y : X) → Contains (filter p xs) y → Contains xs y × (p y ≡ true)
  Contains-filter p [] y there = absurd (contains_nothing y there)
  Contains-filter p (x ∷ xs) y there = elim (filter_cases p x (p x) refl (filter p xs) y there) [
    | inl here ↦ (rw here.0 (Contains-here y xs), here.1)
    | inr behind ↦ let kept = Contains-filter p xs y behind in (Contains-behind x xs y kept.0, kept.1)
  ]

  -- what passes a narrower test is no more
  pub count_by-le : (p q : X → Bool) → ((x : X) → p x ≡ true → q x ≡ true) → (xs : List X) → count_by p xs ≤ count_by q xs
  count_by-le p q narrow [] = omega arith
  count_by-le p q narrow (x ∷ xs) = rw (count_by-cons p x xs, count_by-cons q x xs) (let rest = count_by-le p q narrow xs in by (p x) (q x) (narrow x) rest)
    where
      by : (b c : Bool) → (b ≡ true → c ≡ true) → count_by p xs ≤ count_by q xs → cond b 1 0 + count_by p xs ≤ cond c 1 0 + count_by q xs
      by true true then rest = omega arith
      by true false then rest = absurd (let e : false ≡ true = then refl in cc)
      by false true then rest = omega arith
      by false false then rest = omega arith

  -- what a search finds passes, and stands at a place
  found_cases : (p : X → Bool) (x : X) (b : Bool) → p x ≡ b → (later : Option X) (y : X) → cond b (Some x) later ≡ Some y → ((x ≡ y) × (p y ≡ true)) ⊎ (later ≡ Some y)
  found_cases p x true is later y e = let same = same_Some x y e in inl (same, rw (← same) is)
  found_cases p x false is later y e = inr e

  pub found_place : (p : X → Bool) (xs : List X) (y : X) → find p xs ≡ Some y → (k : ℕ) × (slice_get xs k ≡ Some y) × (p y ≡ true)
  found_place p [] y e = absurd (cc)
  found_place p (x ∷ xs) y e = elim (found_cases p x (p x) refl (find p xs) y e) [
    | inl here ↦ (zero, ap Some here.0, here.1)
    | inr later ↦ let rest = found_place p xs y later in (suc rest.0, rest.1, rest.2)
  ]

  cons_some : (o : Option X) (ys : List X) (y : X) → o ≡ Some y → Contains (cons_option o ys) y
  cons_some None ys y e = absurd (cc)
  cons_some (Some z) ys y e = subst (λ (w : X). Contains (w ∷ ys) y) {x = y} {y = z} (sym (same_Some z y e)) (Contains-here y ys)

  cons_behind : (o : Option X) (ys : List X) (y : X) → Contains ys y → Contains (cons_option o ys) y
  cons_behind None ys y there = there
  cons_behind (Some z) ys y there = Contains-behind z ys y there

  cons_cases : (o : Option X) (ys : List X) (y : X) → Contains (cons_option o ys) y → (o ≡ Some y) ⊎ Contains ys y
  cons_cases None ys y there = inr there
  cons_cases (Some z) ys y there = elim (Contains-cases z ys y there) [
    | inl same ↦ inl (ap Some same)
    | inr behind ↦ inr behind
  ]

  length-cons_option : (o : Option X) (ys : List X) → length (cons_option o ys) ≤ suc (length ys)
  length-cons_option None ys = omega arith
  length-cons_option (Some y) ys = omega arith

module _ {X Y : Type 0} where
  pub Contains-map : (f : X → Y) (xs : List X) (x : X) → Contains xs x → Contains (map f xs) (f x)
  Contains-map f [] x there = absurd (contains_nothing x there)
  Contains-map f (z ∷ xs) x there = elim (Contains-cases z xs x there) [
    | inl same ↦ subst (λ (y : X). Contains (f y ∷ map f xs) (f x)) (sym same) (Contains-here (f x) (map f xs))
    | inr behind ↦ Contains-behind (f z) (map f xs) (f x) (Contains-map f xs x behind)
  ]

  pub Contains-from_map : (f : X → Y) (xs : List X) (y : Y) → Contains (map f xs) y → (x : X) × Contains xs x × (f x ≡ y)
  Contains-from_map f [] y there = absurd (contains_nothing y there)
  Contains-from_map f (x ∷ xs) y there = elim (Contains-cases (f x) (map f xs) y there) [
    | inl same ↦ (x, Contains-here x xs, same)
    | inr behind ↦ let rest = Contains-from_map f xs y behind in (rest.0, Contains-behind x xs rest.0 rest.1, rest.2)
  ]

  pub Contains-from_flat_map : (f : X → List Y) (xs : List X) (y : Y) → Contains (flat_map f xs) y → (x : X) × Contains xs x × Contains (f x) y
  Contains-from_flat_map f [] y there = absurd (contains_nothing y there)
  Contains-from_flat_map f (x ∷ xs) y there = elim (Contains-append_cases (f x) (flat_map f xs) y there) [
    | inl here ↦ (x, Contains-here x xs, here)
    | inr behind ↦ let rest = Contains-from_flat_map f xs y behind in (rest.0, Contains-behind x xs rest.0 rest.1, rest.2)
  ]

  pub Contains-flat_map : (f : X → List Y) (xs : List X) (x : X) (y : Y) → Contains xs x → Contains (f x) y → Contains (flat_map f xs) y
  Contains-flat_map f [] x y there its = absurd (contains_nothing x there)
  Contains-flat_map f (z ∷ xs) x y there its = elim (Contains-cases z xs x there) [
    | inl same ↦ Contains-append_left (f z) (flat_map f xs) y (subst (λ (w : X). Contains (f w) y) (sym same) its)
    | inr behind ↦ Contains-append_right (f z) (flat_map f xs) y (Contains-flat_map f xs x y behind its)
  ]

  pub Contains-filter_map : (h : X → Option Y) (xs : List X) (x : X) (y : Y) → Contains xs x → h x ≡ Some y → Contains (filter_map h xs) y
  Contains-filter_map h [] x y there e = absurd (contains_nothing x there)
  Contains-filter_map h (z ∷ xs) x y there e = elim (Contains-cases z xs x there) [
    | inl same ↦ cons_some (h z) (filter_map h xs) y (ap h same ∙ e)
    | inr behind ↦ cons_behind (h z) (filter_map h xs) y (Contains-filter_map h xs x y behind e)
  ]

  pub Contains-from_filter_map : (h : X → Option Y) (xs : List X) (y : Y) → Contains (filter_map h xs) y → (x : X) × Contains xs x × (h x ≡ Some y)
  Contains-from_filter_map h [] y there = absurd (contains_nothing y there)
  Contains-from_filter_map h (x ∷ xs) y there = elim (cons_cases (h x) (filter_map h xs) y there) [
    | inl here ↦ (x, Contains-here x xs, here)
    | inr behind ↦ let rest = Contains-from_filter_map h xs y behind in (rest.0, Contains-behind x xs rest.0 rest.1, rest.2)
  ]

  pub length-filter_map : (h : X → Option Y) (xs : List X) → length (filter_map h xs) ≤ length xs
  length-filter_map h [] = omega arith
  length-filter_map h (x ∷ xs) = let rest = length-filter_map h xs in let one = length-cons_option (h x) (filter_map h xs) in omega arith

  pub is_some-option_map : (f : X → Y) (o : Option X) → is_some (option_map f o) ≡ is_some o
  is_some-option_map f None = refl
  is_some-option_map f (Some x) = refl

  -- what is found among the images of a list
  pub find-map : (q : Y → Bool) (p : X → Bool) (f : X → Y) → ((x : X) → q (f x) ≡ p x) → (xs : List X) → find q (map f xs) ≡ option_map f (find p xs)
  find-map q p f same [] = refl
  find-map q p f same (x ∷ xs) = ap (λ b. cond b (Some (f x)) (find q (map f xs))) (same x) ∙ (ap (cond (p x) (Some (f x))) (find-map q p f same xs) ∙ by_test (p x) (find p xs))
    where
      by_test : (b : Bool) (later : Option X) → cond b (Some (f x)) (option_map f later) ≡ option_map f (cond b (Some x) later)
      by_test true later = refl
      by_test false later = refl

  -- two maps that agree on the elements
  pub map-agree : (f g : X → Y) (xs : List X) → ((i : ℕ) (x : X) → slice_get xs i ≡ Some x → f x ≡ g x) → map f xs ≡ map g xs
  map-agree f g [] same = refl
  map-agree f g (x ∷ xs) same = ap₂ (λ (y : Y) (ys : List Y). y ∷ ys) (same zero x refl) (map-agree f g xs (λ i z there. same (suc i) z there))

  pub Contains-option_map : (f : X → Y) (o : Option X) (y : Y) → Contains (option_to_list (option_map f o)) y → (x : X) × (o ≡ Some x) × (f x ≡ y)
  Contains-option_map f None y there = absurd (contains_nothing y there)
  Contains-option_map f (Some x) y there = elim (Contains-cases (f x) [] y there) [
    | inl same ↦ (x, refl, same)
    | inr nothing ↦ absurd (contains_nothing y nothing)
  ]
