-- The first piece of bytes ends before the first byte that divides.
use Rattle.std.proofs.Common.{◌≡◌, ℕ, suc, ◌+◌, ◌<◌, ◌≤◌, Bool, true, false, ltb, List, [], ◌∷◌, length, take, drop, Some, None, refl, sym, subst, ◌∙◌, arith, inl, inr}
use Rattle.std.specs.List.{position, position_or_len}
use Rattle.std.proofs.lemmas.Bool.{cases_Bool, ltb-false}
use Rattle.std.proofs.lemmas.Option.{cond_some, none-some}
use Rattle.text_fields.specs.Lines.{pieces}

-- what a place cuts
abbrev pub Cut : (ℕ → Bool) → List ℕ → ℕ → Type 0
Cut p bytes n = pieces p bytes ≡ take n bytes ∷ pieces p (drop (n + 1) bytes)

at_suc : (p : ℕ → Bool) (b n m : ℕ) (bytes : List ℕ) → m ≡ suc n → p b ≡ false → Cut p bytes n → Cut p (b ∷ bytes) m
unfolding pieces
at_suc p b n m bytes e other h =
    let k : m + 1 ≡ suc (n + 1) = omega (arith, e) in
    rw (k, e, other, h) refl

abbrev Places : (ℕ → Bool) → List ℕ → ℕ → Type 0
Places p bytes n = (n < length bytes → Cut p bytes n) × (length bytes ≤ n → pieces p bytes ≡ bytes ∷ [])

here : (p : ℕ → Bool) (b : ℕ) (bytes : List ℕ) → p b ≡ true → Places p (b ∷ bytes) 0
unfolding pieces
here p b bytes e = (λ h. rw e refl, λ h. absurd (omega (arith, h)))

further : (p : ℕ → Bool) (b n : ℕ) (bytes : List ℕ) → p b ≡ false → Places p bytes n → Places p (b ∷ bytes) (1 + n)
unfolding pieces
further p b n bytes e ih =
    (λ h. at_suc p b n (1 + n) bytes (omega arith) e (ih.0 (omega (arith, h))), λ h. let last : pieces p bytes ≡ bytes ∷ [] = ih.1 (omega (arith, h)) in rw (e, last) refl)

places : (p : ℕ → Bool) (bytes : List ℕ) → Places p bytes (position_or_len p bytes)
unfolding pieces
places p [] = (λ h. absurd (omega (arith, h)), λ h. refl)
places p (b ∷ bytes) =
    let n = position_or_len p bytes in
    elim (cases_Bool (p b)) [
      | inl e ↦ let at : 0 ≡ position_or_len p (b ∷ bytes) = rw e refl in subst (Places p (b ∷ bytes)) at (here p b bytes e)
      | inr e ↦ let at : 1 + n ≡ position_or_len p (b ∷ bytes) = rw e refl in subst (Places p (b ∷ bytes)) at (further p b n bytes e (places p bytes))
    ]

pub cut_some : (p : ℕ → Bool) (bytes : List ℕ) (n : ℕ) → Some n ≡ position p bytes → n < length bytes → Cut p bytes n
cut_some p bytes n e h =
    let m = position_or_len p bytes in
    let g = cond_some (ltb m (length bytes)) m n (sym e) in
    subst (Cut p bytes) g.1 ((places p bytes).0 (omega (arith, g.1, h)))

pub no_place : (p : ℕ → Bool) (bytes : List ℕ) → None ≡ position p bytes → length bytes ≤ position_or_len p bytes
no_place p bytes e =
    let m = position_or_len p bytes in
    elim (cases_Bool (ltb m (length bytes))) [
      | inl h ↦ absurd (none-some m (e ∙ rw h refl))
      | inr h ↦ ltb-false m (length bytes) h
    ]

pub cut_none : (p : ℕ → Bool) (bytes : List ℕ) → None ≡ position p bytes → pieces p bytes ≡ bytes ∷ []
cut_none p bytes e = (places p bytes).1 (no_place p bytes e)

pub place_of : (p : ℕ → Bool) (bytes : List ℕ) (n : ℕ) → Some n ≡ position p bytes → position_or_len p bytes ≡ n
place_of p bytes n e = (cond_some (ltb (position_or_len p bytes) (length bytes)) (position_or_len p bytes) n (sym e)).1

-- there is a first piece
pub some_piece : (p : ℕ → Bool) (bytes : List ℕ) → (first : List ℕ) × (more : List (List ℕ)) × (pieces p bytes ≡ first ∷ more)
unfolding pieces
some_piece p [] = ([], [], refl)
some_piece p (b ∷ bytes) =
    let rest = some_piece p bytes in
    elim (cases_Bool (p b)) [
      | inl e ↦ ([], pieces p bytes, rw e refl)
      | inr e ↦ (b ∷ rest.0, rest.1, rw (e, rest.2) refl)
    ]
