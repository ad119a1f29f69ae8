-- What is read, or the number of the rule that is broken.
use Rattle.std.specs.Prelude.{◌≡◌, ℕ, Result, Ok, Err, MatchResult}

infixl 10 ◌>>=◌
abbrev pub ◌>>=◌ : {A B : Type 0} → Result A ℕ → (A → Result B ℕ) → Result B ℕ
(Ok x) >>= f = f x
(Err rule) >>= f = Err rule

-- What a function returned, seen by view, is what is meant.
abbrev pub Exactly : {A B : Type 0} → (A → B) → Result A ℕ → Result B ℕ → Type 0
Exactly view result meant = MatchResult result (λ x. meant ≡ Ok (view x)) (λ rule. meant ≡ Err rule)
