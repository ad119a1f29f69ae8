-- Lists of what names have, once one of them changed, came or went.
use Rattle.std.proofs.Common.{All, ◌≡◌, ◌≢◌, ℕ, zero, suc, ◌+◌, ◌<◌, ◌≤◌, Bool, true, false, cond, List, [], ◌∷◌, ◌++◌, length, set, map, filter, filter_map, Contains, Option, Some, None, IsSome, slice_get, refl, sym, ◌∙◌, ap, subst, inl, inr, arith}
use Rattle.std.specs.List.{cons_option, find, range_with_len}
use Rattle.std.specs.Option.{option_map}
use Rattle.std.proofs.lemmas.Bool.{cases_Bool, cases_lt, false≢true}
use Rattle.std.proofs.lemmas.List.Elements.{All-cons, All-head, All-nil, All-tail}
use Rattle.std.proofs.lemmas.Option.{slice_get_past}
use Rattle.sorted_list.proofs.ListLemmas.{Contains-cons_cases, Contains-first, Contains-later}

module _ {X Y : Type 0} where
  -- the same of each element
  pub filter_map-agree : (f g : X → Option Y) (xs : List X) → ((x : X) → Contains xs x → f x ≡ g x) → filter_map f xs ≡ filter_map g xs
  filter_map-agree f g [] same = refl
  filter_map-agree f g (x ∷ xs) same = ap (λ o. cons_option o (filter_map f xs)) (same x (Contains-first xs x)) ∙ ap (cons_option (g x)) (filter_map-agree f g xs (λ y there. same y (Contains-later xs x y there)))

  -- each value changed in its place
  pub filter_map-map : (f g : X → Option Y) (change : Y → Y) (xs : List X) → ((x : X) → g x ≡ option_map change (f x)) → filter_map g xs ≡ map change (filter_map f xs)
  filter_map-map f g change [] same = refl
  filter_map-map f g change (x ∷ xs) same = ap (λ o. cons_option o (filter_map g xs)) (same x) ∙ by (f x) (filter_map-map f g change xs same)
    where
      by : (o : Option Y) → filter_map g xs ≡ map change (filter_map f xs) → cons_option (option_map change o) (filter_map g xs) ≡ map change (cons_option o (filter_map f xs))
      by None rest = rest
      by (Some y) rest = ap (λ ys. change y ∷ ys) rest

  -- the elements that stay have the values that stay
  pub filter_map-filter : (f g : X → Option Y) (p : X → Bool) (q : Y → Bool) (xs : List X) → ((x : X) → p x ≡ true → g x ≡ f x) → ((x : X) (y : Y) → f x ≡ Some y → q y ≡ p x) → filter_map g (filter p xs) ≡ filter q (filter_map f xs)
  filter_map-filter f g p q [] stays tests = refl
  filter_map-filter f g p q (x ∷ xs) stays tests = by (filter_map-filter f g p q xs stays tests) (p x) refl (f x) refl
    where
      by : filter_map g (filter p xs) ≡ filter q (filter_map f xs) → (b : Bool) → p x ≡ b → (o : Option Y) → f x ≡ o → filter_map g (cond b (x ∷ filter p xs) (filter p xs)) ≡ filter q (cons_option o (filter_map f xs))
      by rest true passes None is = ap (λ o. cons_option o (filter_map g (filter p xs))) (stays x passes ∙ is) ∙ rest
      by rest true passes (Some y) is = ap (λ o. cons_option o (filter_map g (filter p xs))) (stays x passes ∙ is) ∙ rw (tests x y is ∙ passes) (ap (λ ys. y ∷ ys) rest)
      by rest false fails None is = rest
      by rest false fails (Some y) is = rw (tests x y is ∙ fails) rest

  -- where each element has a value whose name it is, the names of the values are the elements
  pub map-filter_map : (f : X → Option Y) (name : Y → X) (xs : List X) → ((x : X) → Contains xs x → IsSome (f x)) → ((x : X) (y : Y) → f x ≡ Some y → name y ≡ x) → map name (filter_map f xs) ≡ xs
  map-filter_map f name [] some named = refl
  map-filter_map f name (x ∷ xs) some named = by (map-filter_map f name xs (λ y there. some y (Contains-later xs x y there)) named) (f x) refl (some x (Contains-first xs x))
    where
      by : map name (filter_map f xs) ≡ xs → (o : Option Y) → f x ≡ o → IsSome o → map name (cons_option o (filter_map f xs)) ≡ x ∷ xs
      by rest None is some = absurd (false≢true some)
      by rest (Some y) is some = ap (λ n. n ∷ map name (filter_map f xs)) (named x y is) ∙ ap (λ ys. x ∷ ys) rest

  -- the names of the values that pass are the elements that do
  pub map-filter-filter_map : (f : X → Option Y) (name : Y → X) (p : X → Bool) (q : Y → Bool) (xs : List X) → ((x : X) → f x ≡ None → p x ≡ false) → ((x : X) (y : Y) → f x ≡ Some y → (name y ≡ x) × (q y ≡ p x)) → map name (filter q (filter_map f xs)) ≡ filter p xs
  map-filter-filter_map f name p q [] none some = refl
  map-filter-filter_map f name p q (x ∷ xs) none some = by (map-filter-filter_map f name p q xs none some) (p x) refl (f x) refl
    where
      by : map name (filter q (filter_map f xs)) ≡ filter p xs → (b : Bool) → p x ≡ b → (o : Option Y) → f x ≡ o → map name (filter q (cons_option o (filter_map f xs))) ≡ cond b (x ∷ filter p xs) (filter p xs)
      by rest true passes None is = absurd (false≢true (sym (none x is) ∙ passes))
      by rest true passes (Some y) is = rw ((some x y is).1 ∙ passes) (ap (λ n. n ∷ map name (filter q (filter_map f xs))) (some x y is).0 ∙ ap (λ ys. x ∷ ys) rest)
      by rest false fails None is = rest
      by rest false fails (Some y) is = rw ((some x y is).1 ∙ fails) rest

  -- what is found among the values is that of the one element whose value passes
  pub find-filter_map : (f : X → Option Y) (q : Y → Bool) (target : X) (xs : List X) → ((x : X) (y : Y) → f x ≡ Some y → q y ≡ true → x ≡ target) → ((y : Y) → f target ≡ Some y → q y ≡ true) → (IsSome (f target) → Contains xs target) → find q (filter_map f xs) ≡ f target
  find-filter_map f q target [] own passes there = sym (by (f target) refl)
    where
      by : (o : Option Y) → f target ≡ o → f target ≡ None
      by None is = is
      by (Some y) is = absurd (omega (arith, (there (subst (λ o. IsSome o) (sym is) refl)).1))
  find-filter_map f q target (x ∷ xs) own passes there = by (λ later. find-filter_map f q target xs own passes later) (f x) refl
    where
      by : ((IsSome (f target) → Contains xs target) → find q (filter_map f xs) ≡ f target) → (o : Option Y) → f x ≡ o → find q (cons_option o (filter_map f xs)) ≡ f target
      by rest None is = rest (λ some. elim (Contains-cons_cases xs x target (there some)) [
        | inl same ↦ absurd (false≢true (subst (λ o. IsSome o) (ap f same ∙ is) some))
        | inr later ↦ later
      ])
      by rest (Some y) is = elim (cases_Bool (q y)) [
        | inl found ↦ rw found (sym is ∙ ap f (own x y is found))
        | inr past ↦ rw past (rest (λ some. elim (Contains-cons_cases xs x target (there some)) [
          | inl same ↦ absurd (false≢true (sym past ∙ passes y (ap f same ∙ is)))
          | inr later ↦ later
        ]))
      ]

  -- what holds of what each element has holds of all values
  pub All-filter_map : (P : Y → Type 0) (f : X → Option Y) (xs : List X) → ((x : X) (y : Y) → f x ≡ Some y → P y) → All P (filter_map f xs)
  All-filter_map P f [] holds = All-nil P
  All-filter_map P f (x ∷ xs) holds = by (All-filter_map P f xs holds) (f x) refl
    where
      by : All P (filter_map f xs) → (o : Option Y) → f x ≡ o → All P (cons_option o (filter_map f xs))
      by rest None is = rest
      by rest (Some y) is = All-cons P y (filter_map f xs) (holds x y is) rest

module _ {X : Type 0} where
  -- a change that leaves each element leaves the list
  pub map-stays : (change : X → X) (P : X → Type 0) → ((x : X) → P x → change x ≡ x) → (xs : List X) → All P xs → map change xs ≡ xs
  map-stays change P stays [] all = refl
  map-stays change P stays (x ∷ xs) all = ap (λ y. y ∷ map change xs) (stays x (All-head P x xs all)) ∙ ap (λ ys. x ∷ ys) (map-stays change P stays xs (All-tail P x xs all))

  -- where each passes, all stay
  pub filter-stays : (p : X → Bool) (xs : List X) → All (λ x. p x ≡ true) xs → filter p xs ≡ xs
  filter-stays p [] all = refl
  filter-stays p (x ∷ xs) all = ap (λ b. cond b (x ∷ filter p xs) (filter p xs)) (All-head (λ y. p y ≡ true) x xs all) ∙ ap (λ ys. x ∷ ys) (filter-stays p xs (All-tail (λ y. p y ≡ true) x xs all))

module _ {Y : Type 0} where
  -- each number from one on has a value
  abbrev pub AreThere : (ℕ → Option Y) → ℕ → ℕ → Type 0
  AreThere f from count = (n : ℕ) → from ≤ n → n < from + count → IsSome (f n)

  there_later : (f : ℕ → Option Y) (from count : ℕ) → AreThere f from (suc count) → AreThere f (from + 1) count
  there_later f from count there n least below = there n (omega (arith, least)) (omega (arith, below))

  -- so there are as many values as numbers
  pub length-numbered : (f : ℕ → Option Y) (from count : ℕ) → AreThere f from count → length (filter_map f (range_with_len from count)) ≡ count
  length-numbered f from zero there = refl
  length-numbered f from (suc count) there = by (length-numbered f (from + 1) count (there_later f from count there)) (f from) (there from (omega arith) (omega arith))
    where
      by : length (filter_map f (range_with_len (from + 1) count)) ≡ count → (o : Option Y) → IsSome o → length (cons_option o (filter_map f (range_with_len (from + 1) count))) ≡ suc count
      by rest None some = absurd (false≢true some)
      by rest (Some y) some = ap suc rest

  -- and each stands at its number
  get_from : (f : ℕ → Option Y) (from count : ℕ) → AreThere f from count → (i n : ℕ) → from + i ≡ n → i < count → slice_get (filter_map f (range_with_len from count)) i ≡ f n
  get_from f from zero there i n at below = absurd (omega (arith, below))
  get_from f from (suc count) there i n at below = by (get_from f (from + 1) count (there_later f from count there)) (f from) refl (there from (omega arith) (omega arith)) i at below
    where
      by : ((j m : ℕ) → from + 1 + j ≡ m → j < count → slice_get (filter_map f (range_with_len (from + 1) count)) j ≡ f m) → (o : Option Y) → f from ≡ o → IsSome o → (i : ℕ) → from + i ≡ n → i < suc count → slice_get (cons_option o (filter_map f (range_with_len (from + 1) count))) i ≡ f n
      by rest None is some i at below = absurd (false≢true some)
      by rest (Some y) is some zero at below = sym is ∙ ap f (omega (arith, at))
      by rest (Some y) is some (suc i) at below = rest i n (omega (arith, at)) (omega (arith, below))

  pub get-numbered : (f : ℕ → Option Y) (count : ℕ) → AreThere f 0 count → ((n : ℕ) → count ≤ n → f n ≡ None) → (n : ℕ) → slice_get (filter_map f (range_with_len 0 count)) n ≡ f n
  get-numbered f count there none n = elim (cases_lt n count) [
    | inl below ↦ get_from f 0 count there n n (omega arith) below
    | inr past ↦ slice_get_past (filter_map f (range_with_len 0 count)) n (omega (arith, past, length-numbered f 0 count there)) ∙ sym (none n (omega (arith, past)))
  ]

  -- the same of each number
  pub numbered-agree : (f g : ℕ → Option Y) (from count : ℕ) → ((n : ℕ) → from ≤ n → n < from + count → f n ≡ g n) → filter_map f (range_with_len from count) ≡ filter_map g (range_with_len from count)
  numbered-agree f g from zero same = refl
  numbered-agree f g from (suc count) same = ap (λ o. cons_option o (filter_map f (range_with_len (from + 1) count))) (same from (omega arith) (omega arith)) ∙ ap (cons_option (g from)) (numbered-agree f g (from + 1) count (λ n least below. same n (omega (arith, least)) (omega (arith, below))))

  -- the value of one number changed
  set_from : (f g : ℕ → Option Y) (y : Y) (from count : ℕ) → AreThere f from count → (i n : ℕ) → from + i ≡ n → g n ≡ Some y → ((k : ℕ) → k ≢ n → g k ≡ f k) → filter_map g (range_with_len from count) ≡ set (filter_map f (range_with_len from count)) i y
  set_from f g y from zero there i n at now others = refl
  set_from f g y from (suc count) there i n at now others = by (λ j later. set_from f g y (from + 1) count (there_later f from count there) j n later now others) (f from) refl (there from (omega arith) (omega arith)) i at
    where
      by : ((j : ℕ) → from + 1 + j ≡ n → filter_map g (range_with_len (from + 1) count) ≡ set (filter_map f (range_with_len (from + 1) count)) j y) → (o : Option Y) → f from ≡ o → IsSome o → (i : ℕ) → from + i ≡ n → filter_map g (range_with_len from (suc count)) ≡ set (cons_option o (filter_map f (range_with_len (from + 1) count))) i y
      by rest None is some i at = absurd (false≢true some)
      by rest (Some x) is some zero at =
          let same : from ≡ n = omega (arith, at) in
          ap (λ o. cons_option o (filter_map g (range_with_len (from + 1) count))) (ap g same ∙ now) ∙ ap (λ ys. y ∷ ys) (numbered-agree g f (from + 1) count (λ k least below. others k (λ is. absurd (omega (arith, is, same, least)))))
      by rest (Some x) is some (suc i) at =
          ap (λ o. cons_option o (filter_map g (range_with_len (from + 1) count))) (others from (λ is. absurd (omega (arith, is, at))) ∙ is) ∙ ap (λ ys. x ∷ ys) (rest i (omega (arith, at)))

  pub set-numbered : (f g : ℕ → Option Y) (y : Y) (count n : ℕ) → AreThere f 0 count → g n ≡ Some y → ((k : ℕ) → k ≢ n → g k ≡ f k) → filter_map g (range_with_len 0 count) ≡ set (filter_map f (range_with_len 0 count)) n y
  set-numbered f g y count n there now others = set_from f g y 0 count there n n (omega arith) now others

  -- one number came, with a value
  push_from : (f g : ℕ → Option Y) (y : Y) (from count n : ℕ) → from + count ≡ n → g n ≡ Some y → ((k : ℕ) → k ≢ n → g k ≡ f k) → filter_map g (range_with_len from (suc count)) ≡ filter_map f (range_with_len from count) ++ y ∷ []
  push_from f g y from zero n at now others = ap (λ o. cons_option o []) (ap g (omega (arith, at)) ∙ now)
  push_from f g y from (suc count) n at now others = ap (λ o. cons_option o (filter_map g (range_with_len (from + 1) (suc count)))) (others from (λ is. absurd (omega (arith, is, at)))) ∙ by (push_from f g y (from + 1) count n (omega (arith, at)) now others) (f from)
    where
      by : filter_map g (range_with_len (from + 1) (suc count)) ≡ filter_map f (range_with_len (from + 1) count) ++ y ∷ [] → (o : Option Y) → cons_option o (filter_map g (range_with_len (from + 1) (suc count))) ≡ cons_option o (filter_map f (range_with_len (from + 1) count)) ++ y ∷ []
      by rest None = rest
      by rest (Some x) = ap (λ ys. x ∷ ys) rest

  pub push-numbered : (f g : ℕ → Option Y) (y : Y) (count : ℕ) → g count ≡ Some y → ((k : ℕ) → k ≢ count → g k ≡ f k) → filter_map g (range_with_len 0 (count + 1)) ≡ filter_map f (range_with_len 0 count) ++ y ∷ []
  push-numbered f g y count now others = ap (λ n. filter_map g (range_with_len 0 n)) {x = count + 1} {y = suc count} (omega arith) ∙ push_from f g y 0 count count (omega arith) now others

-- of the images of numbers
pub filter_map-of_map : {A B C : Type 0} (f : B → Option C) (g : A → B) (xs : List A) → filter_map f (map g xs) ≡ filter_map (λ x. f (g x)) xs
filter_map-of_map f g [] = refl
filter_map-of_map f g (x ∷ xs) = ap (cons_option (f (g x))) (filter_map-of_map f g xs)
