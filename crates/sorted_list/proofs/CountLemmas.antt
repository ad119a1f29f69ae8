-- How many items of a list come before a cut.
use Rattle.std.proofs.Common.{◌≡◌, ℕ, zero, suc, ◌+◌, ◌<◌, ◌≤◌, Bool, true, false, cond, List, [], ◌∷◌, ◌++◌, length, get_or, All, AllPairs, count_by, ◌⊎◌, inl, inr, refl, sym, ◌∙◌, ap, subst, arith}
use Rattle.std.specs.Prelude.{slice_get, Option, Some, None}
use Rattle.std.specs.List.Sorted.{IsPartitionPoint}
use Rattle.std.specs.Option.{option_or}
use Rattle.std.proofs.Math.ListN.{get_or-append}
use Rattle.std.proofs.Math.Seq.{get_or-append_seam}
use Rattle.std.proofs.lemmas.Bool.{false≢true}
use Rattle.std.proofs.lemmas.List.{get_or-append-add, length-append}
use Rattle.std.proofs.lemmas.List.Elements.{All-head, All-tail}
use Rattle.std.proofs.lemmas.List.Sums.{sum_by-append}

module _ {X : Type 0} (R : X → X → Type 0) (xs : List X) (y : X) (ys : List X) (pairs : AllPairs R (xs ++ y ∷ ys)) where
  whole : length (xs ++ y ∷ ys) ≡ length xs + 1 + length ys
  whole = omega (arith, length-append xs (y ∷ ys))

  -- what holds of pairs holds on each side of an item
  pub pairs_before : AllPairs R xs
  pairs_before i j d lt within = subst (λ z. R (get_or xs i d) z) (get_or-append xs (y ∷ ys) d j within) (subst (λ z. R z (get_or (xs ++ y ∷ ys) j d)) (get_or-append xs (y ∷ ys) d i (omega (arith, lt, within))) (pairs i j d lt (omega (arith, within, whole))))

  pub pairs_behind : AllPairs R ys
  pairs_behind i j d lt within = subst (λ z. R (get_or ys i d) z) (get_or-append-add xs (y ∷ ys) (suc j) d) (subst (λ z. R z (get_or (xs ++ y ∷ ys) (length xs + suc j) d)) (get_or-append-add xs (y ∷ ys) (suc i) d) (pairs (length xs + suc i) (length xs + suc j) d (omega (arith, lt)) (omega (arith, within, whole))))

  -- and between it and the others
  pub pairs_to : All (λ x. R x y) xs
  pairs_to i d within = subst (λ z. R (get_or xs i d) z) (get_or-append_seam xs y ys d) (subst (λ z. R z (get_or (xs ++ y ∷ ys) (length xs) d)) (get_or-append xs (y ∷ ys) d i within) (pairs i (length xs) d within (omega (arith, whole))))

  pub pairs_from : All (λ z. R y z) ys
  pairs_from i d within = subst (λ z. R y z) (get_or-append-add xs (y ∷ ys) (suc i) d) (subst (λ z. R z (get_or (xs ++ y ∷ ys) (length xs + suc i) d)) (get_or-append_seam xs y ys d) (pairs (length xs) (length xs + suc i) d (omega arith) (omega (arith, within, whole))))

module _ {X : Type 0} (p : X → Bool) where
  -- of two items the first passes where the second does
  abbrev pub Falls : X → X → Type 0
  Falls a b = p b ≡ true → p a ≡ true

  count_cons : (x : X) (xs : List X) → count_by p (x ∷ xs) ≡ cond (p x) 1 0 + count_by p xs
  count_cons x xs = omega (arith, sum_by-append (λ x. cond (p x) 1 0) (x ∷ []) xs)

  one_more : (b : Bool) (n m : ℕ) → b ≡ true → n ≡ m → cond b 1 0 + n ≡ suc m
  one_more b n m passing same = let e : cond {A = ℕ} b 1 0 ≡ 1 = ap (λ b. cond {A = ℕ} b 1 0) passing in omega (arith, e, same)

  no_more : (b : Bool) (n : ℕ) → b ≡ false → n ≡ 0 → cond b 1 0 + n ≡ 0
  no_more b n failing none = let e : cond {A = ℕ} b 1 0 ≡ 0 = ap (λ b. cond {A = ℕ} b 1 0) failing in omega (arith, e, none)

  pub count_all : (xs : List X) → All (λ x. p x ≡ true) xs → count_by p xs ≡ length xs
  count_all [] all = refl
  count_all (x ∷ xs) all = count_cons x xs ∙ one_more (p x) (count_by p xs) (length xs) (All-head (λ x. p x ≡ true) x xs all) (count_all xs (All-tail (λ x. p x ≡ true) x xs all))

  pub count_none : (xs : List X) → All (λ x. p x ≡ false) xs → count_by p xs ≡ 0
  count_none [] none = refl
  count_none (x ∷ xs) none = count_cons x xs ∙ no_more (p x) (count_by p xs) (All-head (λ x. p x ≡ false) x xs none) (count_none xs (All-tail (λ x. p x ≡ false) x xs none))

  -- a test has one answer or the other
  answered : (b : Bool) → (b ≡ true) ⊎ (b ≡ false)
  answered true = inl refl
  answered false = inr refl

  not_true : (b : Bool) → (b ≡ true → ⊥) → b ≡ false
  not_true true not = absurd (not refl)
  not_true false not = refl

  -- where an item passes, all before it do
  pub count_behind : (xs : List X) (y : X) (ys : List X) → AllPairs Falls (xs ++ y ∷ ys) → p y ≡ true → count_by p (xs ++ y ∷ ys) ≡ length xs + 1 + count_by p ys
  count_behind xs y ys falls passing =
      let all = count_all xs (λ k d within. pairs_to Falls xs y ys falls k d within passing) in
      omega (arith, sum_by-append (λ x. cond (p x) 1 0) xs (y ∷ ys), count_cons y ys, all, one_more (p y) (count_by p ys) (count_by p ys) passing refl)

  -- and where one fails, all behind it do
  pub count_before : (xs : List X) (y : X) (ys : List X) → AllPairs Falls (xs ++ y ∷ ys) → p y ≡ false → count_by p (xs ++ y ∷ ys) ≡ count_by p xs
  count_before xs y ys falls failing =
      let none = count_none ys (λ k d within. not_true (p (get_or ys k d)) (λ passes. false≢true (sym failing ∙ pairs_from Falls xs y ys falls k d within passes))) in
      omega (arith, sum_by-append (λ x. cond (p x) 1 0) xs (y ∷ ys), count_cons y ys, no_more (p y) (count_by p ys) failing none)

  -- so those that pass stand before the others
  pub parted : (xs : List X) → AllPairs Falls xs → IsPartitionPoint (λ x. p x ≡ true) (λ x. p x ≡ false) xs (count_by p xs)
  parted [] falls = (λ k d low high. absurd (omega (arith, high)), λ k d low high. absurd (omega (arith, high)))
  parted (x ∷ xs) falls = elim (answered (p x)) [
    | inl passing ↦
        let count = count_cons x xs ∙ one_more (p x) (count_by p xs) (count_by p xs) passing refl in
        let rest = parted xs (pairs_behind Falls [] x xs falls) in
        (λ k d low high. passes passing rest.0 k d (omega (arith, high, count)), λ k d low high. fails rest.1 k d (omega (arith, low, count)) high)
    | inr failing ↦
        let none = λ (k : ℕ) (d : X) (within : k < length xs). not_true (p (get_or xs k d)) (λ passes. false≢true (sym failing ∙ pairs_from Falls [] x xs falls k d within passes)) in
        let count = count_cons x xs ∙ no_more (p x) (count_by p xs) failing (count_none xs none) in
        (λ k d low high. absurd (omega (arith, high, count)), λ k d low high. all_fail failing none k d high)
  ]
    where
      passes : p x ≡ true → ((k : ℕ) (d : X) → 0 ≤ k → k < count_by p xs → p (get_or xs k d) ≡ true) → (k : ℕ) (d : X) → k < suc (count_by p xs) → p (get_or (x ∷ xs) k d) ≡ true
      passes passing rest zero d high = passing
      passes passing rest (suc k) d high = rest k d (omega arith) (omega (arith, high))

      fails : ((k : ℕ) (d : X) → count_by p xs ≤ k → k < length xs → p (get_or xs k d) ≡ false) → (k : ℕ) (d : X) → suc (count_by p xs) ≤ k → k < length (x ∷ xs) → p (get_or (x ∷ xs) k d) ≡ false
      fails rest zero d low high = absurd (omega (arith, low))
      fails rest (suc k) d low high = rest k d (omega (arith, low)) (omega (arith, high))

      all_fail : p x ≡ false → ((k : ℕ) (d : X) → k < length xs → p (get_or xs k d) ≡ false) → (k : ℕ) (d : X) → k < length (x ∷ xs) → p (get_or (x ∷ xs) k d) ≡ false
      all_fail failing none zero d high = failing
      all_fail failing none (suc k) d high = none k d (omega (arith, high))

module _ {X : Type 0} where
  -- what stands at a place up to an item
  pub get_upto : (xs : List X) (y : X) (ys : List X) (k : ℕ) → k ≤ length xs → slice_get (xs ++ y ∷ ys) k ≡ option_or (slice_get xs k) (Some y)
  get_upto [] y ys zero within = refl
  get_upto [] y ys (suc k) within = absurd (omega (arith, within))
  get_upto (x ∷ xs) y ys zero within = refl
  get_upto (x ∷ xs) y ys (suc k) within = get_upto xs y ys k (omega (arith, within))

  -- and behind it
  pub get_behind : (xs : List X) (y : X) (ys : List X) (k n : ℕ) → n ≡ length xs + 1 + k → slice_get (xs ++ y ∷ ys) n ≡ slice_get ys k
  get_behind [] y ys k n is =
      let next : n ≡ suc k = omega (arith, is) in
      ap (slice_get (y ∷ ys)) next
  get_behind (x ∷ xs) y ys k zero is = absurd (omega (arith, is))
  get_behind (x ∷ xs) y ys k (suc n) is = get_behind xs y ys k n (omega (arith, is))

  -- where one is given in its place, no other is
  pub given_once : (o : Option X) (y : X) (other : Option X) → option_or (option_or o (Some y)) other ≡ option_or o (Some y)
  given_once None y other = refl
  given_once (Some x) y other = refl

  pub or_none : (o : Option X) → option_or o None ≡ o
  or_none None = refl
  or_none (Some x) = refl
