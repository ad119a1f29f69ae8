-- The first line of bytes ends before the first line feed.
use Rattle.std.proofs.Common.{◌≡◌, ℕ, suc, ◌+◌, ◌<◌, true, false, cond, not, eqb, ltb, List, [], ◌∷◌, length, take, drop, Option, Some, None, refl, sym, subst, ◌∙◌, arith, inl, inr}
use Rattle.std.specs.List.{prefix_len}
use Rattle.std.proofs.lemmas.Bool.{cases_Bool, lt-ltb, ltb-true, ltb-false, le-ltb}
use Rattle.rv32_asm.specs.Fields.{cut}
use Rattle.rv32_asm.specs.Block.{lines}

-- what is cut where one more byte stands before
abbrev pub cut_longer : ℕ → Option (List ℕ × List ℕ) → Option (List ℕ × List ℕ)
cut_longer b None = None
cut_longer b (Some p) = Some (b ∷ p.0, p.1)

abbrev parted : List ℕ → List ℕ → Option (List ℕ × List ℕ)
parted front rest = Some (front, rest)

at_suc : (b n m : ℕ) (bytes : List ℕ) → m ≡ suc n → parted (take m (b ∷ bytes)) (drop (m + 1) (b ∷ bytes)) ≡ parted (b ∷ take n bytes) (drop (n + 1) bytes)
at_suc b n m bytes e =
    let k : m + 1 ≡ suc (n + 1) = omega (arith, e) in
    rw (k, e) refl

pub cut_cons : (at b : ℕ) (bytes : List ℕ) → cut at (b ∷ bytes) ≡ cond (eqb b at) (Some ([], bytes)) (cut_longer b (cut at bytes))
unfolding cut
cut_cons at b bytes =
    let n = prefix_len (λ x. not (eqb x at)) bytes in
    elim (cases_Bool (eqb b at)) [
      | inl e ↦
          let lt : ltb 0 (suc (length bytes)) ≡ true = lt-ltb _ _ (omega arith) in
          rw (e, lt) refl
      | inr e ↦ elim (cases_Bool (ltb n (length bytes))) [
        | inl h ↦
            let lt : ltb (1 + n) (suc (length bytes)) ≡ true = lt-ltb _ _ (omega (arith, ltb-true n (length bytes) h)) in
            let left : cut at (b ∷ bytes) ≡ parted (take (1 + n) (b ∷ bytes)) (drop (1 + n + 1) (b ∷ bytes)) = rw (e, lt) refl in
            left ∙ at_suc b n (1 + n) bytes (omega arith) ∙ sym (rw (e, h) refl)
        | inr h ↦
            let ge : ltb (1 + n) (suc (length bytes)) ≡ false = le-ltb _ _ (omega (arith, ltb-false n (length bytes) h)) in
            rw (e, ge, h) refl
      ]
    ]

abbrev FirstLine : List ℕ → Option (List ℕ × List ℕ) → Type 0
FirstLine bytes (Some p) = (lines bytes ≡ p.0 ∷ lines p.1) × (length p.1 < length bytes)
FirstLine bytes None = lines bytes ≡ bytes ∷ []

grows : (b : ℕ) (bytes : List ℕ) (o : Option (List ℕ × List ℕ)) → eqb b 10 ≡ false → FirstLine bytes o → FirstLine (b ∷ bytes) (cut_longer b o)
unfolding lines
grows b bytes (Some p) other h = (rw (other, h.0) refl, omega (arith, h.1))
grows b bytes None other h = rw (other, h) refl

lines_at : (b : ℕ) (bytes : List ℕ) → FirstLine (b ∷ bytes) (cut 10 (b ∷ bytes))
unfolding lines cut
lines_at b [] =
    subst (FirstLine (b ∷ [])) (sym (cut_cons 10 b [])) (elim (cases_Bool (eqb b 10)) [
      | inl e ↦ rw e (rw e refl, omega arith)
      | inr e ↦ rw e (rw e refl)
    ])
lines_at b (c ∷ bytes) =
    subst (FirstLine (b ∷ c ∷ bytes)) (sym (cut_cons 10 b (c ∷ bytes))) (elim (cases_Bool (eqb b 10)) [
      | inl e ↦ rw e (rw e refl, omega arith)
      | inr e ↦ rw e (grows b (c ∷ bytes) (cut 10 (c ∷ bytes)) e (lines_at c bytes))
    ])

first_line : (bytes : List ℕ) → 0 < length bytes → FirstLine bytes (cut 10 bytes)
first_line [] h = absurd (omega (arith, h))
first_line (b ∷ bytes) h = lines_at b bytes

pub first_some : (bytes line rest : List ℕ) → 0 < length bytes → cut 10 bytes ≡ Some (line, rest) → (lines bytes ≡ line ∷ lines rest) × (length rest < length bytes)
first_some bytes line rest h e = subst (FirstLine bytes) e (first_line bytes h)

pub first_none : (bytes : List ℕ) → 0 < length bytes → cut 10 bytes ≡ None → lines bytes ≡ bytes ∷ lines []
unfolding lines
first_none bytes h e = subst (FirstLine bytes) e (first_line bytes h)
