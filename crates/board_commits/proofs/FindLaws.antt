-- The first element that passes a test, found one after another.
use Rattle.std.proofs.Common.{◌≡◌, ℕ, zero, suc, ◌+◌, ◌<◌, ◌≤◌, Bool, true, false, List, [], ◌∷◌, take, length, get_or, Option, Some, None, find, refl, ap, sym, ◌∙◌, subst, arith}
use Rattle.std.specs.Prelude.{if◌then◌else◌, Contains}
use Rattle.std.proofs.lemmas.List.{take_all}

module _ {X : Type 0} (p : X → Bool) where
  -- behind elements that fail
  behind : (y : X) (rest : Option X) → (if p y then Some y else rest) ≡ None → (p y ≡ false) × (rest ≡ None)
  behind y rest is = by (p y) refl is
    where
      by : (b : Bool) → p y ≡ b → (if b then Some y else rest) ≡ None → (p y ≡ false) × (rest ≡ None)
      by true passes is = absurd (cc)
      by false fails is = (fails, is)

  passed : (y : X) (rest : Option X) → p y ≡ true → (if p y then Some y else rest) ≡ Some y
  passed y rest passes = ap (λ (b : Bool). if b then Some y else rest) passes

  failed : (y : X) (rest : Option X) → p y ≡ false → (if p y then Some y else rest) ≡ rest
  failed y rest fails = ap (λ (b : Bool). if b then Some y else rest) fails

  pub found_here : (xs : List X) (i : ℕ) (x : X) → i < length xs → x ≡ get_or xs i x → find p (take i xs) ≡ None → p x ≡ true → find p xs ≡ Some x
  found_here [] i x within is none passes = absurd (omega arith)
  found_here (y ∷ ys) zero x within is none passes =
      passed y (find p ys) (ap p (sym is) ∙ passes) ∙ ap (λ (z : X). Some z) (sym is)
  found_here (y ∷ ys) (suc i) x within is none passes =
      let parts = behind y (find p (take i ys)) none in
      failed y (find p ys) parts.0 ∙ found_here ys i x (omega arith) is parts.1 passes

  none_behind : (xs : List X) (i : ℕ) (x : X) → i < length xs → x ≡ get_or xs i x → find p (take i xs) ≡ None → p x ≡ false → find p (take (suc i) xs) ≡ None
  none_behind [] i x within is none fails = absurd (omega arith)
  none_behind (y ∷ ys) zero x within is none fails = failed y None (ap p (sym is) ∙ fails)
  none_behind (y ∷ ys) (suc i) x within is none fails =
      let parts = behind y (find p (take i ys)) none in
      failed y (find p (take (suc i) ys)) parts.0 ∙ none_behind ys i x (omega arith) is parts.1 fails

  pub none_more : (xs : List X) (i : ℕ) (x : X) → i < length xs → x ≡ get_or xs i x → find p (take i xs) ≡ None → p x ≡ false → find p (take (i + 1) xs) ≡ None
  none_more xs i x within is none fails =
      let next : suc i ≡ i + 1 = omega arith in
      subst (λ (n : ℕ). find p (take n xs) ≡ None) next (none_behind xs i x within is none fails)

  pub none_at_all : (xs : List X) (i : ℕ) → length xs ≤ i → find p (take i xs) ≡ None → find p xs ≡ None
  none_at_all xs i past none = subst (λ (l : List X). find p l ≡ None) (take_all i xs past) none

  pub each_fails : (xs : List X) (x : X) → find p xs ≡ None → Contains xs x → p x ≡ false
  each_fails xs x none (i, within, is) = at xs i none within is
    where
      at : (xs : List X) (i : ℕ) → find p xs ≡ None → i < length xs → get_or xs i x ≡ x → p x ≡ false
      at [] i none within is = absurd (omega arith)
      at (y ∷ ys) zero none within is = ap p (sym is) ∙ (behind y (find p ys) none).0
      at (y ∷ ys) (suc i) none within is = at ys i (behind y (find p ys) none).1 (omega arith) is
