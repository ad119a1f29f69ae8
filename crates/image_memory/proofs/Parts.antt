-- What stands among the declarations of an executable's parts, and in which frames.
use Rattle.std.proofs.Common.{◌≡◌, ℕ, zero, suc, ◌+◌, ◌*◌, ◌/◌, ◌<◌, ◌≤◌, List, [], ◌∷◌, Some, refl, ap, sym, subst, inl, inr, arith}
use Rattle.std.specs.List.{slice_get}
use Rattle.std.proofs.lemmas.Bool.{cases_lt}
use Rattle.std.proofs.lemmas.Option.{same_Some}
use Rattle.cache_ident.specs.declared.names.SpaceNo.{SpaceNo}
use Rattle.image_decls.specs.flat_state.specs.declared.events.Decl.{Decl}
use Rattle.image_decls.specs.elf_image.specs.declared.images.Part.{Part}
use Rattle.image_decls.specs.Declarations.{page_count, each, row_at, first_rows, word_decl, first_words}
use Rattle.image_memory.proofs.Listed.{IsIn, in_front, in_back, in_either}

-- ---- one part

pub row_in : (space : SpaceNo) (frame : ℕ) (part : Part) (n page : ℕ) → page < n → IsIn (row_at space frame part page) (first_rows space frame part n)
unfolding first_rows
row_in space frame part zero page low = absurd (omega (arith, low))
row_in space frame part (suc n) page low = elim (cases_lt page n) [
  | inl before ↦ in_front (row_at space frame part page) (first_rows space frame part n) (row_at space frame part n ∷ []) (row_in space frame part n page before)
  | inr last ↦ in_back (row_at space frame part page) (first_rows space frame part n) (row_at space frame part n ∷ []) (inl (ap (λ (k : ℕ). row_at space frame part k) {x = n} {y = page} (omega (arith, low, last))))
]

pub rows_only : (space : SpaceNo) (frame : ℕ) (part : Part) (n : ℕ) (d : Decl) → IsIn d (first_rows space frame part n) → (page : ℕ) × (row_at space frame part page ≡ d)
unfolding first_rows
rows_only space frame part zero d there = absurd there
rows_only space frame part (suc n) d there = elim (in_either d (first_rows space frame part n) (row_at space frame part n ∷ []) there) [
  | inl before ↦ rows_only space frame part n d before
  | inr (inl here) ↦ (n, here)
  | inr (inr none) ↦ absurd none
]

pub word_in : (bytes : List ℕ) (frame : ℕ) (part : Part) (n m : ℕ) → m < n → IsIn (word_decl bytes frame part (4 * (part.vaddr / 4 + m))) (first_words bytes frame part n)
unfolding first_words
word_in bytes frame part zero m low = absurd (omega (arith, low))
word_in bytes frame part (suc n) m low = elim (cases_lt m n) [
  | inl before ↦ in_front (word_decl bytes frame part (4 * (part.vaddr / 4 + m))) (first_words bytes frame part n) (word_decl bytes frame part (4 * (part.vaddr / 4 + n)) ∷ []) (word_in bytes frame part n m before)
  | inr last ↦ in_back (word_decl bytes frame part (4 * (part.vaddr / 4 + m))) (first_words bytes frame part n) (word_decl bytes frame part (4 * (part.vaddr / 4 + n)) ∷ [])
      (inl (ap (λ (k : ℕ). word_decl bytes frame part (4 * (part.vaddr / 4 + k))) {x = n} {y = m} (omega (arith, low, last))))
]

pub words_only : (bytes : List ℕ) (frame : ℕ) (part : Part) (n : ℕ) (d : Decl) → IsIn d (first_words bytes frame part n) → (m : ℕ) × (m < n) × (word_decl bytes frame part (4 * (part.vaddr / 4 + m)) ≡ d)
unfolding first_words
words_only bytes frame part zero d there = absurd there
words_only bytes frame part (suc n) d there = elim (in_either d (first_words bytes frame part n) (word_decl bytes frame part (4 * (part.vaddr / 4 + n)) ∷ []) there) [
  | inl before ↦ let found = words_only bytes frame part n d before in let low = found.1 in (found.0, omega (arith, low), found.2)
  | inr (inl here) ↦ (n, omega arith, here)
  | inr (inr none) ↦ absurd none
]

-- ---- all parts

-- the first frame of a part
abbrev pub frame_at : ℕ → List Part → ℕ → ℕ
frame_at frame parts zero = frame
frame_at frame [] (suc i) = frame
frame_at frame (p ∷ ps) (suc i) = frame_at (frame + page_count p) ps i

pub each_in : (declares : ℕ → Part → List Decl) (parts : List Part) (frame i : ℕ) (part : Part) (d : Decl) → slice_get parts i ≡ Some part → IsIn d (declares (frame_at frame parts i) part) → IsIn d (each declares frame parts)
unfolding each
each_in declares [] frame i part d e there = absurd cc
each_in declares (p ∷ ps) frame zero part d e there =
    in_front d (declares frame p) (each declares (frame + page_count p) ps) (subst (λ (x : Part). IsIn d (declares frame x)) (sym (same_Some p part e)) there)
each_in declares (p ∷ ps) frame (suc i) part d e there =
    in_back d (declares frame p) (each declares (frame + page_count p) ps) (each_in declares ps (frame + page_count p) i part d e there)

pub record IsOf (declares : ℕ → Part → List Decl) (parts : List Part) (frame : ℕ) (d : Decl) : Type 0 where
  pub i : ℕ
  pub part : Part
  pub is : slice_get parts i ≡ Some part
  pub there : IsIn d (declares (frame_at frame parts i) part)

pub each_only : (declares : ℕ → Part → List Decl) (parts : List Part) (frame : ℕ) (d : Decl) → IsIn d (each declares frame parts) → IsOf declares parts frame d
unfolding each
each_only declares [] frame d there = absurd there
each_only declares (p ∷ ps) frame d there = elim (in_either d (declares frame p) (each declares (frame + page_count p) ps) there) [
  | inl here ↦ record { i = zero; part = p; is = refl; there = here }
  | inr later ↦ let found = each_only declares ps (frame + page_count p) d later in record { i = suc found.i; part = found.part; is = found.is; there = found.there }
]

frames_grow : (parts : List Part) (frame i : ℕ) → frame ≤ frame_at frame parts i
frames_grow parts frame zero = omega arith
frames_grow [] frame (suc i) = omega arith
frames_grow (p ∷ ps) frame (suc i) = let rest = frames_grow ps (frame + page_count p) i in omega (arith, rest)

-- the frames of a part are before those of each later one
pub apart : (parts : List Part) (frame i j : ℕ) (part : Part) → slice_get parts i ≡ Some part → i < j → frame_at frame parts i + page_count part ≤ frame_at frame parts j
apart [] frame i j part e before = absurd cc
apart (p ∷ ps) frame i zero part e before = absurd (omega (arith, before))
apart (p ∷ ps) frame zero (suc j) part e before = subst (λ (x : Part). frame + page_count x ≤ frame_at (frame + page_count p) ps j) (same_Some p part e) (frames_grow ps (frame + page_count p) j)
apart (p ∷ ps) frame (suc i) (suc j) part e before = apart ps (frame + page_count p) i j part e (omega (arith, before))
