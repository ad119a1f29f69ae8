-- What a list is after an edit on one side of an item.
use Rattle.std.proofs.Common.{◌≡◌, ℕ, zero, suc, ◌+◌, ◌-◌, ◌<◌, ◌≤◌, List, [], ◌∷◌, ◌++◌, length, refl, sym, ◌∙◌, ap, arith}
use Rattle.std.specs.Prelude.{slice_get, Some, None}
use Rattle.std.specs.List.{insert, remove}
use Rattle.std.proofs.lemmas.List.Edits.{insert-append_left, insert-append_right, remove-append_left, remove-append_right}

module _ {X : Type 0} where
  pub get_before : (xs ys : List X) (i : ℕ) → i < length xs → slice_get (xs ++ ys) i ≡ slice_get xs i
  get_before [] ys i within = absurd (omega (arith, within))
  get_before (x ∷ xs) ys zero within = refl
  get_before (x ∷ xs) ys (suc i) within = get_before xs ys i (omega (arith, within))

  pub get_behind : (xs ys : List X) (x : X) (i k : ℕ) → i ≡ length xs + suc k → slice_get (xs ++ x ∷ ys) i ≡ slice_get ys k
  get_behind [] ys x i k past = let e : i ≡ suc k = omega (arith, past) in rw e refl
  get_behind (y ∷ xs) ys x zero k past = absurd (omega (arith, past))
  get_behind (y ∷ xs) ys x (suc i) k past = get_behind xs ys x i k (omega (arith, past))

  pub get_here : (xs ys : List X) (x : X) (i : ℕ) → i ≡ length xs → slice_get (xs ++ x ∷ ys) i ≡ Some x
  get_here [] ys x i here = rw here refl
  get_here (y ∷ xs) ys x zero here = absurd (omega (arith, here))
  get_here (y ∷ xs) ys x (suc i) here = get_here xs ys x i (omega (arith, here))

  pub insert_before : (xs ys : List X) (x y : X) (i : ℕ) → i ≤ length xs → insert xs i y ++ x ∷ ys ≡ insert (xs ++ x ∷ ys) i y
  insert_before xs ys x y i within = sym (insert-append_left xs (x ∷ ys) i y within)

  pub insert_behind : (xs ys : List X) (x y : X) (i k : ℕ) → i ≡ length xs + suc k → xs ++ x ∷ insert ys k y ≡ insert (xs ++ x ∷ ys) i y
  insert_behind xs ys x y i k past =
      let e : i - length xs ≡ suc k = omega (arith, past) in
      sym (insert-append_right xs (x ∷ ys) (length xs) i y refl (omega (arith, past)) ∙ ap (λ n. xs ++ insert (x ∷ ys) n y) e)

  pub remove_before : (xs ys : List X) (x : X) (i : ℕ) → i < length xs → remove xs i ++ x ∷ ys ≡ remove (xs ++ x ∷ ys) i
  remove_before xs ys x i within = sym (remove-append_left xs (x ∷ ys) i within)

  pub remove_behind : (xs ys : List X) (x : X) (i k : ℕ) → i ≡ length xs + suc k → xs ++ x ∷ remove ys k ≡ remove (xs ++ x ∷ ys) i
  remove_behind xs ys x i k past =
      let e : i - length xs ≡ suc k = omega (arith, past) in
      sym (remove-append_right xs (x ∷ ys) (length xs) i refl (omega (arith, past)) ∙ ap (λ n. xs ++ remove (x ∷ ys) n) e)

  pub remove_here : (xs ys : List X) (x : X) (i : ℕ) → i ≡ length xs → xs ++ ys ≡ remove (xs ++ x ∷ ys) i
  remove_here xs ys x i here =
      let e : i - length xs ≡ zero = omega (arith, here) in
      sym (remove-append_right xs (x ∷ ys) (length xs) i refl (omega (arith, here)) ∙ ap (λ n. xs ++ remove (x ∷ ys) n) e)

  pub first_and_others : (xs : List X) (x : X) → slice_get xs 0 ≡ Some x → x ∷ remove xs 0 ≡ xs
  first_and_others [] x first = absurd (none_some first)
    where
      none_some : None ≡ Some x → ⊥
      none_some e = cc
  first_and_others (y ∷ xs) x first = ap (λ z. z ∷ xs) (sym (same first))
    where
      same : Some y ≡ Some x → y ≡ x
      same e = cc
