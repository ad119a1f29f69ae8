-- A word that is written in hexadecimal digits is read as it.
use Rattle.std.proofs.Common.{◌≡◌, ℕ, zero, suc, ◌+◌, ◌*◌, ◌/◌, ◌%◌, ◌^◌, ◌<◌, ◌≤◌, ◌⊎◌, true, ltb, List, [], ◌∷◌, length, Some, refl, ap, ◌∙◌, arith, inl, inr}
use Rattle.std.specs.Prelude.{slice_index}
use Rattle.std.specs.Int.{byte_at}
use Rattle.std.proofs.lemmas.Bool.{lt-ltb}
use Rattle.hex.specs.Hex.{lower_digits, encode_with}
use Rattle.text_fields.specs.Numbers.{digit, digits_from, digits, word, word_text}
use Rattle.text_fields.proofs.Decimals.{digits_end}

abbrev glyph : ℕ → ℕ
glyph d = slice_index lower_digits d

-- a digit, or a letter from a to f
abbrev pub IsGlyph : ℕ → Type 0
IsGlyph b = ((48 ≤ b) × (b ≤ 57)) ⊎ ((97 ≤ b) × (b ≤ 102))

unfoldable pub AreGlyphs : List ℕ → Type 0
AreGlyphs [] = Unit {0}
AreGlyphs (b ∷ bytes) = IsGlyph b × AreGlyphs bytes

-- one of the sixteen digits
abbrev IsGlyphOf : ℕ → Type 0
IsGlyphOf d = (digit 16 (glyph d) ≡ Some d) × IsGlyph (glyph d)

glyph_is : (d : ℕ) → d < 16 → IsGlyphOf d
unfolding digit
glyph_is zero lt = (refl, inl (omega arith, omega arith))
glyph_is (suc zero) lt = (refl, inl (omega arith, omega arith))
glyph_is (suc (suc zero)) lt = (refl, inl (omega arith, omega arith))
glyph_is (suc (suc (suc zero))) lt = (refl, inl (omega arith, omega arith))
glyph_is (suc (suc (suc (suc zero)))) lt = (refl, inl (omega arith, omega arith))
glyph_is (suc (suc (suc (suc (suc zero))))) lt = (refl, inl (omega arith, omega arith))
glyph_is (suc (suc (suc (suc (suc (suc zero)))))) lt = (refl, inl (omega arith, omega arith))
glyph_is (suc (suc (suc (suc (suc (suc (suc zero))))))) lt = (refl, inl (omega arith, omega arith))
glyph_is (suc (suc (suc (suc (suc (suc (suc (suc zero)))))))) lt = (refl, inl (omega arith, omega arith))
glyph_is (suc (suc (suc (suc (suc (suc (suc (suc (suc zero))))))))) lt = (refl, inl (omega arith, omega arith))
glyph_is (suc (suc (suc (suc (suc (suc (suc (suc (suc (suc zero)))))))))) lt = (refl, inr (omega arith, omega arith))
glyph_is (suc (suc (suc (suc (suc (suc (suc (suc (suc (suc (suc zero))))))))))) lt = (refl, inr (omega arith, omega arith))
glyph_is (suc (suc (suc (suc (suc (suc (suc (suc (suc (suc (suc (suc zero)))))))))))) lt = (refl, inr (omega arith, omega arith))
glyph_is (suc (suc (suc (suc (suc (suc (suc (suc (suc (suc (suc (suc (suc zero))))))))))))) lt = (refl, inr (omega arith, omega arith))
glyph_is (suc (suc (suc (suc (suc (suc (suc (suc (suc (suc (suc (suc (suc (suc zero)))))))))))))) lt = (refl, inr (omega arith, omega arith))
glyph_is (suc (suc (suc (suc (suc (suc (suc (suc (suc (suc (suc (suc (suc (suc (suc zero))))))))))))))) lt = (refl, inr (omega arith, omega arith))
glyph_is (suc (suc (suc (suc (suc (suc (suc (suc (suc (suc (suc (suc (suc (suc (suc (suc d)))))))))))))))) lt = absurd (omega arith)

glyph_step : (k d : ℕ) (rest : List ℕ) → d < 16 → 16 * k + d < 2 ^ 32 → digits_from 16 k (glyph d ∷ rest) ≡ digits_from 16 (16 * k + d) rest
unfolding digits_from
glyph_step k d rest lt small =
    let fits : ltb (16 * k + d) (2 ^ 32) ≡ true = lt-ltb _ _ small in
    let read = (glyph_is d lt).0 in
    rw (read, fits) refl

byte_step : (k b m : ℕ) (rest : List ℕ) → b < 256 → 256 * k + b ≡ m → m < 2 ^ 32 → digits_from 16 k (glyph (b / 16) ∷ glyph (b % 16) ∷ rest) ≡ digits_from 16 m rest
byte_step k b m rest lt same small =
    let whole : 16 * (16 * k + b / 16) + b % 16 ≡ m = omega (arith, same) in
    glyph_step k (b / 16) (glyph (b % 16) ∷ rest) (omega arith) (omega (arith, same, small))
    ∙ glyph_step (16 * k + b / 16) (b % 16) rest (omega arith) (omega (arith, whole, small))
    ∙ ap (λ (n : ℕ). digits_from 16 n rest) whole

pub word_digits : (v : ℕ) → v < 2 ^ 32 → digits_from 16 0 (word_text v) ≡ Some v
unfolding word_text encode_with
word_digits v small =
    byte_step 0 (byte_at 3 v) (v / 2 ^ 24) _ (omega arith) (omega arith) (omega arith)
    ∙ byte_step (v / 2 ^ 24) (byte_at 2 v) (v / 2 ^ 16) _ (omega arith) (omega arith) (omega arith)
    ∙ byte_step (v / 2 ^ 16) (byte_at 1 v) (v / 2 ^ 8) _ (omega arith) (omega arith) (omega arith)
    ∙ byte_step (v / 2 ^ 8) (byte_at 0 v) v [] (omega arith) (omega arith) small
    ∙ digits_end 16 v

pub word_eight : (v : ℕ) → length (word_text v) ≡ 8
unfolding word_text encode_with
word_eight v = refl

pub word_reads : (v : ℕ) → v < 2 ^ 32 → word (word_text v) ≡ Some v
unfolding word digits
word_reads v small = rw (word_eight v) (word_digits v small)

no_glyphs : AreGlyphs []
unfolding AreGlyphs
no_glyphs = tt

byte_glyphs : (b : ℕ) (rest : List ℕ) → b < 256 → AreGlyphs rest → AreGlyphs (glyph (b / 16) ∷ glyph (b % 16) ∷ rest)
unfolding AreGlyphs
byte_glyphs b rest lt h = ((glyph_is (b / 16) (omega arith)).1, ((glyph_is (b % 16) (omega arith)).1, h))

pub word_glyphs : (v : ℕ) → AreGlyphs (word_text v)
unfolding word_text encode_with
word_glyphs v = byte_glyphs (byte_at 3 v) _ (omega arith) (byte_glyphs (byte_at 2 v) _ (omega arith) (byte_glyphs (byte_at 1 v) _ (omega arith) (byte_glyphs (byte_at 0 v) [] (omega arith) no_glyphs)))
