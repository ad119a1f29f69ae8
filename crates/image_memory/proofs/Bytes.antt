-- A byte of memory after declarations, of which each word that reaches it has the same byte there.
use Rattle.std.proofs.Common.{◌≡◌, ℕ, zero, suc, ◌+◌, ◌-◌, ◌*◌, ◌<◌, ◌≤◌, List, [], ◌∷◌, length, set, get_or, None, refl, ap, ◌∙◌, subst, inl, inr, arith}
use Rattle.std.proofs.lemmas.Bool.{cases_lt}
use Rattle.std.proofs.lemmas.List.{get_or-set_same, get_or-set_other, length-set}
use Rattle.cache_ident.specs.declared.names.Frame.{Frame}
use Rattle.phys_groups.specs.Memory.{word_bytes, written}
use Rattle.image_decls.specs.flat_state.specs.declared.events.Decl.{Decl}
use Rattle.image_decls.specs.flat_state.specs.declared.events.Decl.TheVariants as decls
use Rattle.image_decls.specs.flat_state.specs.State.{FlatState}
use Rattle.image_decls.specs.flat_state.specs.Declaration.{broken_rule, declared}
use Rattle.image_decls.specs.flat_state.specs.WellFormed.{IsWellFormed}
use Rattle.image_decls.specs.flat_state.specs.Events.{AllFit, after_declarations}
use Rattle.image_decls.specs.flat_state.proofs.FormedParts.{declared_formed}
use Rattle.image_memory.proofs.Listed.{IsIn}
use Rattle.image_memory.proofs.Fitting.{word_lies}

-- ---- bytes that are written one after another

written_before : (bs m : List ℕ) (at place : ℕ) → place < at → get_or (written m at bs) place 0 ≡ get_or m place 0
written_before [] m at place before = refl
written_before (b ∷ bs) m at place before = written_before bs (set m at b) (at + 1) place (omega (arith, before)) ∙ get_or-set_other m at place b 0 (λ e. omega (arith, before, e))

written_behind : (bs m : List ℕ) (at place : ℕ) → at + length bs ≤ place → get_or (written m at bs) place 0 ≡ get_or m place 0
written_behind [] m at place behind = refl
written_behind (b ∷ bs) m at place behind = written_behind bs (set m at b) (at + 1) place (omega (arith, behind)) ∙ get_or-set_other m at place b 0 (λ e. omega (arith, behind, e))

written_here : (bs m : List ℕ) (at j place : ℕ) → j < length bs → at + length bs ≤ length m → at + j ≡ place → get_or (written m at bs) place 0 ≡ get_or bs j 0
written_here [] m at j place low within e = absurd (omega (arith, low))
written_here (b ∷ bs) m at zero place low within e =
    written_before bs (set m at b) (at + 1) place (omega (arith, e)) ∙ ap (λ (k : ℕ). get_or (set m at b) k 0) {x = place} {y = at} (omega (arith, e)) ∙ get_or-set_same m at b 0 (omega (arith, within))
written_here (b ∷ bs) m at (suc j) place low within e =
    written_here bs (set m at b) (at + 1) j place (omega (arith, low)) (omega (arith, within, length-set m at b)) (omega (arith, e))

-- ---- declarations

-- Each byte that the declaration puts at that place is b.
abbrev pub Agrees : ℕ → ℕ → Decl → Type 0
Agrees place b (decls.Machine machine) = ⊥
Agrees place b (decls.Kernel n limits) = Unit {0}
Agrees place b (decls.Right kernel group read write) = Unit {0}
Agrees place b (decls.Space n kernel) = Unit {0}
Agrees place b (decls.Thread n space pc priority a0 a1) = Unit {0}
Agrees place b (decls.Map space vpn frame flags receiver) = Unit {0}
Agrees place b (decls.Word frame offset value) = (j : ℕ) → j < 4 → 4096 * frame.0 + offset + j ≡ place → get_or (word_bytes value) j 0 ≡ b

module _ (place b : ℕ) where
  byte_put : (s : FlatState) (frame : Frame) (offset value j : ℕ) → IsWellFormed s → broken_rule s (decls.Word frame offset value) ≡ None → Agrees place b (decls.Word frame offset value) → j < 4 → 4096 * frame.0 + offset + j ≡ place → get_or (declared s (decls.Word frame offset value)).memory place 0 ≡ b
  unfolding declared
  byte_put s frame offset value j formed fits agrees low e =
      let lies = word_lies s frame offset value fits in
      let size = formed.memory.size in
      written_here (word_bytes value) s.memory (4096 * frame.0 + offset) j place low (omega (arith, lies.0, lies.1, size)) e ∙ agrees j low e

  byte_stays : (s : FlatState) (d : Decl) → IsWellFormed s → broken_rule s d ≡ None → Agrees place b d → get_or s.memory place 0 ≡ b → get_or (declared s d).memory place 0 ≡ b
  unfolding declared
  byte_stays s (decls.Machine machine) formed fits agrees there = absurd agrees
  byte_stays s (decls.Kernel n limits) formed fits agrees there = there
  byte_stays s (decls.Right kernel group read write) formed fits agrees there = there
  byte_stays s (decls.Space n kernel) formed fits agrees there = there
  byte_stays s (decls.Thread n space pc priority a0 a1) formed fits agrees there = there
  byte_stays s (decls.Map space vpn frame flags receiver) formed fits agrees there = there
  byte_stays s (decls.Word frame offset value) formed fits agrees there =
      let at = 4096 * frame.0 + offset in
      elim (cases_lt place at) [
        | inl before ↦ written_before (word_bytes value) s.memory at place before ∙ there
        | inr from ↦ elim (cases_lt place (at + 4)) [
          | inl within ↦ byte_put s frame offset value (place - at) formed fits agrees (omega (arith, from, within)) (omega (arith, from))
          | inr behind ↦ written_behind (word_bytes value) s.memory at place behind ∙ there
        ]
      ]

  bytes_stay : (ds : List Decl) (s : FlatState) → IsWellFormed s → AllFit s ds → ((d : Decl) → IsIn d ds → Agrees place b d) → get_or s.memory place 0 ≡ b → get_or (after_declarations s ds).memory place 0 ≡ b
  bytes_stay [] s formed fit agree there = there
  bytes_stay (d ∷ ds) s formed fit agree there =
      bytes_stay ds (declared s d) (declared_formed s d formed fit.0) fit.1 (λ x later. agree x (inr later)) (byte_stays s d formed fit.0 (agree d (inl refl)) there)

  -- where some word reaches the place, and all that do agree, that is the byte in the end
  pub byte_among : (ds : List Decl) (s : FlatState) (frame : Frame) (offset value j : ℕ) → IsWellFormed s → AllFit s ds → ((d : Decl) → IsIn d ds → Agrees place b d) → IsIn (decls.Word frame offset value) ds → j < 4 → 4096 * frame.0 + offset + j ≡ place → get_or (after_declarations s ds).memory place 0 ≡ b
  byte_among [] s frame offset value j formed fit agree there low e = absurd there
  byte_among (d ∷ ds) s frame offset value j formed fit agree (inl here) low e =
      let fits : broken_rule s (decls.Word frame offset value) ≡ None = subst (λ (x : Decl). broken_rule s x ≡ None) here fit.0 in
      let agrees : Agrees place b (decls.Word frame offset value) = subst (λ (x : Decl). Agrees place b x) here (agree d (inl refl)) in
      let put : get_or (declared s d).memory place 0 ≡ b = ap (λ (x : Decl). get_or (declared s x).memory place 0) here ∙ byte_put s frame offset value j formed fits agrees low e in
      bytes_stay ds (declared s d) (declared_formed s d formed fit.0) fit.1 (λ x later. agree x (inr later)) put
  byte_among (d ∷ ds) s frame offset value j formed fit agree (inr later) low e =
      byte_among ds (declared s d) frame offset value j (declared_formed s d formed fit.0) fit.1 (λ x there. agree x (inr there)) later low e
