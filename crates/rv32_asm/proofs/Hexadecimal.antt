-- A word of eight hexadecimal digits is read as it.
use Rattle.std.proofs.Common.{◌≡◌, ℕ, ◌^◌, ◌<◌, true, false, eqb, List, [], ◌∷◌, ◌++◌, Some, None, refl, ◌∙◌, arith, inl, inr}
use Rattle.std.specs.Prelude.{codes}
use Rattle.std.proofs.lemmas.Bool.{ne_eqb}
use Rattle.text_fields.specs.Numbers.{digits, number, word_text}
use Rattle.text_fields.specs.Reading.{after}
use Rattle.text_fields.proofs.Words.{IsGlyph, AreGlyphs, word_digits, word_eight, word_glyphs}
use Rattle.rv32_asm.specs.Fields.{cut}
use Rattle.rv32_asm.specs.Line.{Word, of_one, operation}
use Rattle.rv32_asm.proofs.Tokens.{lacks, lacks_append, cut_found, cut_none, IsTight, tight_join, token_tight, trim_tight, label_none, code_named, name_token, IsToken, Reads}

after_0x : (xs : List ℕ) → after (codes "0x") (codes "0x" ++ xs) ≡ Some xs
unfolding after
after_0x xs = refl

number_reads : (w : ℕ) → w < 2 ^ 32 → number (codes "0x" ++ word_text w) ≡ Some w
unfolding number digits
number_reads w small = rw (after_0x (word_text w), word_eight w) (word_digits w small)

-- no digit is that byte
abbrev IsApart : ℕ → Type 0
IsApart at = (b : ℕ) → IsGlyph b → eqb b at ≡ false

apart_low : (at : ℕ) → at < 48 → IsApart at
apart_low at h b (inl number) = ne_eqb b at (λ e. omega (arith, e, number.0))
apart_low at h b (inr letter) = ne_eqb b at (λ e. omega (arith, e, letter.0))

apart_colon : IsApart 58
apart_colon b (inl number) = ne_eqb b 58 (λ e. omega (arith, e, number.1))
apart_colon b (inr letter) = ne_eqb b 58 (λ e. omega (arith, e, letter.0))

glyphs_lack : (at : ℕ) → IsApart at → (bytes : List ℕ) → AreGlyphs bytes → lacks at bytes ≡ true
unfolding AreGlyphs
glyphs_lack at apart [] h = refl
glyphs_lack at apart (b ∷ bytes) h = rw (apart b h.0, glyphs_lack at apart bytes h.1) refl

word_lacks : (at : ℕ) → IsApart at → (w : ℕ) → lacks at (word_text w) ≡ true
word_lacks at apart w = glyphs_lack at apart (word_text w) (word_glyphs w)

digits_token : (w : ℕ) → IsToken (codes "0x" ++ word_text w)
digits_token w = record { first = 48; rest = 120 ∷ word_text w; begins = refl; spaces = word_lacks 32 (apart_low 32 (omega arith)) w; commas = word_lacks 44 (apart_low 44 (omega arith)) w; colons = word_lacks 58 apart_colon w; feeds = word_lacks 10 (apart_low 10 (omega arith)) w }

operation_word : (rest : List ℕ) (w : ℕ) → cut 44 rest ≡ None → number rest ≡ Some w → operation (codes ".word") rest ≡ Some (Word w)
unfolding operation of_one
operation_word rest w c e = rw (c, e) refl

pub word_reads : (w : ℕ) → w < 2 ^ 32 → Reads (codes ".word 0x" ++ word_text w) (Some (Word w))
word_reads w small =
    let name = codes ".word" in
    let rest = codes "0x" ++ word_text w in
    let text = name ++ (codes " " ++ rest) in
    let n : IsToken name = name_token _ _ refl refl refl refl in
    let r = digits_token w in
    let tight_rest : IsTight rest = token_tight rest r in
    let tight_text : IsTight text = tight_join name (codes " ") rest (token_tight name n) tight_rest in
    let colons : lacks 58 text ≡ true = lacks_append 58 name (codes " " ++ rest) n.colons (lacks_append 58 (codes " ") rest refl r.colons) in
    let feeds : lacks 10 text ≡ true = lacks_append 10 name (codes " " ++ rest) n.feeds (lacks_append 10 (codes " ") rest refl r.feeds) in
    let named = code_named text name rest (trim_tight text tight_text) (cut_found 32 name rest n.spaces) (trim_tight rest tight_rest) in
    (label_none text (trim_tight text tight_text) (cut_none 58 text colons), named ∙ operation_word rest w (cut_none 44 rest r.commas) (number_reads w small), feeds)
