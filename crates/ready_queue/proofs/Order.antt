-- The order of candidates is strict, and a walk over a list keeps the best one.
use Rattle.std.proofs.Common.{◌≡◌, ℕ, ◌+◌, ◌<◌, true, false, List, length, get_or, subst, arith, below_more}
use Rattle.std.proofs.lemmas.Bool.Decides.{nat_tests}
use Rattle.std.proofs.lemmas.List.{get_or_default}
use Rattle.std.specs.Prelude.{Contains}
use Rattle.ready_queue.specs.declared.Candidate.{Candidate}
use Rattle.ready_queue.specs.Choice.{is_before}

-- none is before itself
before_itself : (c : Candidate) → is_before c c ≡ false
before_itself c = grind (arith, nat_tests)

-- what isn't before one isn't before one that is before that one
before_earlier : (a b c : Candidate) → is_before b c ≡ true → is_before a c ≡ false → is_before a b ≡ false
before_earlier a b c earlier later = grind (arith, nat_tests)

-- none of the first n candidates is before that one
abbrev pub IsFirstOf : List Candidate → ℕ → Candidate → Type 0
IsFirstOf waiting n best = (k : ℕ) (d : Candidate) → k < n → is_before (get_or waiting k d) best ≡ false

module _ (waiting : List Candidate) (i : ℕ) (e best : Candidate) (within : i < length waiting) (first : IsFirstOf waiting i best) where
  -- the next one is not before the best
  pub keeps_best : is_before (get_or waiting i e) best ≡ false → IsFirstOf waiting (i + 1) best
  keeps_best later k d = below_more (λ k. is_before (get_or waiting k d) best ≡ false) i (λ k below. first k d below) (subst (λ c. is_before c best ≡ false) (get_or_default waiting i e d within) later) k

  -- the next one is before the best
  pub takes_next : is_before (get_or waiting i e) best ≡ true → IsFirstOf waiting (i + 1) (get_or waiting i e)
  takes_next earlier k d = below_more (λ k. is_before (get_or waiting k d) (get_or waiting i e) ≡ false) i (λ k below. before_earlier (get_or waiting k d) (get_or waiting i e) best earlier (first k d below)) (subst (λ c. is_before c (get_or waiting i e) ≡ false) (get_or_default waiting i e d within) (before_itself (get_or waiting i e))) k

-- the element at a place of a list is in it
pub contains_at : (waiting : List Candidate) (i : ℕ) (e : Candidate) → i < length waiting → Contains waiting (get_or waiting i e)
contains_at waiting i e within = (i, within, get_or_default waiting i (get_or waiting i e) e within)
