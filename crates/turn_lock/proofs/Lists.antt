-- Beginnings of lists, what holds of each entry, and where an element of a list lies.
use Rattle.std.proofs.Common.{◌≡◌, ◌⊎◌, ℕ, zero, suc, ◌<◌, ◌≤◌, ltb, Bool, true, false, List, [], ◌∷◌, ◌++◌, length, set, refl, ap, sym, subst, inl, inr, arith}
use Rattle.std.proofs.lemmas.Bool.Decides.{nat_tests}
use Rattle.std.specs.List.{AllByRecursion}
use Rattle.std.specs.Prelude.{if◌then◌else◌}
use mathlib.Core.List.{IsPrefix}
use mathlib.Core.Option.{some, some-injective, some-ne-none}
use lib.ListN.{get_elem?}
use Rattle.turn_lock.specs.Lists.{longer, shorter}

module _ {A : Type 0} where
  pub append_nothing : (xs : List A) → xs ++ [] ≡ xs
  append_nothing [] = refl
  append_nothing (x ∷ xs) = ap (λ ys. x ∷ ys) (append_nothing xs)

  -- of two beginnings of one list, the shorter begins the longer
  pub shorter_begins : (xs ys zs : List A) → IsPrefix xs zs → IsPrefix ys zs → length xs ≤ length ys → IsPrefix xs ys
  shorter_begins [] ys zs p q le = (ys, refl)
  shorter_begins (x ∷ xs) [] zs p q le = absurd (omega arith)
  shorter_begins (x ∷ xs) (y ∷ ys) [] p q le = absurd (cc (p.1))
  shorter_begins (x ∷ xs) (y ∷ ys) (z ∷ zs) p q le = let heads : x ≡ y = cc (p.1, q.1) in
      let rest = shorter_begins xs ys zs (p.0, cc (p.1)) (q.0, cc (q.1)) (omega arith) in (rest.0, cc (heads, rest.1))

  -- a beginning that is as long as the whole is the whole
  pub whole_beginning : (xs ys : List A) → IsPrefix xs ys → length ys ≤ length xs → xs ≡ ys
  whole_beginning [] [] p le = refl
  whole_beginning [] (y ∷ ys) p le = absurd (omega arith)
  whole_beginning (x ∷ xs) [] p le = absurd (cc (p.1))
  whole_beginning (x ∷ xs) (y ∷ ys) p le = let heads : x ≡ y = cc (p.1) in let rest = whole_beginning xs ys (p.0, cc (p.1)) (omega arith) in cc (heads, rest)

  pub all_append : (P : A → Type 0) (xs ys : List A) → AllByRecursion P xs → AllByRecursion P ys → AllByRecursion P (xs ++ ys)
  all_append P [] ys a b = b
  all_append P (x ∷ xs) ys a b = (a.0, all_append P xs ys a.1 b)

  pub all_behind : (P : A → Type 0) (xs ys : List A) → AllByRecursion P (xs ++ ys) → AllByRecursion P ys
  all_behind P [] ys a = a
  all_behind P (x ∷ xs) ys a = all_behind P xs ys a.1

  pub all_weaker : (P Q : A → Type 0) → ((x : A) → P x → Q x) → (xs : List A) → AllByRecursion P xs → AllByRecursion Q xs
  all_weaker P Q f [] a = tt
  all_weaker P Q f (x ∷ xs) a = (f x a.0, all_weaker P Q f xs a.1)

  pub all_both : (P Q : A → Type 0) (xs : List A) → AllByRecursion P xs → AllByRecursion Q xs → AllByRecursion (λ x. P x × Q x) xs
  all_both P Q [] a b = tt
  all_both P Q (x ∷ xs) a b = ((a.0, b.0), all_both P Q xs a.1 b.1)

  -- what holds of the rest behind a beginning holds of the rest behind a longer one
  pub all_further : (P : A → Type 0) (xs ys rest more : List A) → xs ++ rest ≡ ys ++ more → length xs ≤ length ys → AllByRecursion P rest → AllByRecursion P more
  all_further P [] ys rest more e le a = all_behind P ys more (subst (AllByRecursion P) e a)
  all_further P (x ∷ xs) [] rest more e le a = absurd (omega arith)
  all_further P (x ∷ xs) (y ∷ ys) rest more e le a = all_further P xs ys rest more (cc (e)) (omega arith) a

  pub none_left : (P : A → Type 0) (xs : List A) → ((x : A) → P x → ⊥) → AllByRecursion P xs → xs ≡ []
  none_left P [] never a = refl
  none_left P (x ∷ xs) never a = absurd (never x a.0)

  -- the two lists in the one order or in the other
  by_length : (P : List A → List A → Type 0) (xs ys : List A) (b : Bool) → ltb (length xs) (length ys) ≡ b → (length xs < length ys → P ys xs) → (length ys ≤ length xs → P xs ys)
      → P (if b then ys else xs) (if b then xs else ys)
  by_length P xs ys true e less more = less (grind (arith, nat_tests))
  by_length P xs ys false e less more = more (grind (arith, nat_tests))

  pub longer_shorter : (P : List A → List A → Type 0) (xs ys : List A) → (length xs < length ys → P ys xs) → (length ys ≤ length xs → P xs ys) → P (longer xs ys) (shorter xs ys)
  longer_shorter P xs ys less more = by_length P xs ys (ltb (length xs) (length ys)) refl less more

  pub here : (l : List A) (i : ℕ) (a b : A) → get_elem? l i ≡ some a → get_elem? (set l i b) i ≡ some b
  here [] i a b e = absurd (some-ne-none a (sym e))
  here (x ∷ xs) zero a b e = refl
  here (x ∷ xs) (suc i) a b e = here xs i a b e

  -- an element of the longer list is one of the list, or the last
  pub in_longer : (l : List A) (a b : A) (j : ℕ) → get_elem? (l ++ a ∷ []) j ≡ some b → (get_elem? l j ≡ some b) ⊎ ((j ≡ length l) × (a ≡ b))
  in_longer [] a b zero e = inr (refl, some-injective a b e)
  in_longer [] a b (suc j) e = absurd (some-ne-none b (sym e))
  in_longer (x ∷ xs) a b zero e = inl e
  in_longer (x ∷ xs) a b (suc j) e = elim (in_longer xs a b j e) [ inl t ↦ inl t | inr t ↦ inr (ap suc t.0, t.1) ]
