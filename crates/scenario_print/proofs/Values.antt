-- What a field writes is read from it.
use Rattle.std.proofs.Common.{◌≡◌, ℕ, ◌<◌, Bool, true, false, eqb, List, [], ◌∷◌, length, Ok, refl, inl, inr, arith}
use Rattle.std.specs.Prelude.{codes, not, ◌||◌}
use Rattle.std.specs.Fmt.{decimal}
use Rattle.std.proofs.lemmas.Bool.{ne_eqb}
use Rattle.std.proofs.lemmas.Fmt.{decimal_nonempty}
use Rattle.phys_groups.specs.declared.rows.Flags.{Flags}
use Rattle.flat_state.specs.Declaration.{has_no_flag}
use Rattle.text_fields.specs.Numbers.{word_text}
use Rattle.text_fields.proofs.Words.{AreGlyphs, word_glyphs}
use Rattle.text_fields.proofs.Decimals.{IsDigits, decimal_digits, number_reads}
use Rattle.journal_text.specs.Lines.{flag_text, rights_text, flags_text}
use Rattle.journal_text.specs.Ranges.{IsSmall}
use Rattle.scenario_reader.specs.scenario_lines.specs.Values.{value, value_or, rights, flags}
use Rattle.scenario_print.proofs.Lines.{IsInk, no_ink, ink_append, ink_from}

-- ---- numbers

digits_ink : (ds : List ℕ) → IsDigits ds → IsInk ds
unfolding IsInk
digits_ink [] h = tt
digits_ink (b ∷ ds) h = (omega (arith, h.0), omega (arith, h.1), (λ e. let low = h.0 in omega arith), digits_ink ds h.2)

pub decimal_ink : (n : ℕ) → IsSmall n → IsInk (decimal n)
decimal_ink n small = digits_ink (decimal n) (decimal_digits n (omega arith))

pub decimal_some : (n : ℕ) → IsSmall n → 0 < length (decimal n)
decimal_some n small = decimal_nonempty n (omega arith)

pub value_again : (n : ℕ) → IsSmall n → value (decimal n) ≡ Ok n
unfolding value
value_again n small = rw (number_reads n small) refl

pub option_again : (default n : ℕ) → IsSmall n → value_or default (decimal n) ≡ Ok n
unfolding value_or
option_again default n small =
    let some : eqb (length (decimal n)) 0 ≡ false = ne_eqb (length (decimal n)) 0 (λ e. let long = decimal_some n small in omega arith) in
    rw some (value_again n small)

-- ---- words

glyphs_ink : (bytes : List ℕ) → AreGlyphs bytes → IsInk bytes
unfolding AreGlyphs IsInk
glyphs_ink [] h = tt
glyphs_ink (b ∷ bytes) h = elim h.0 [
  | inl number ↦ (let low = number.0 in let high = number.1 in (omega arith, omega arith, (λ e. omega (arith, e, low)), glyphs_ink bytes h.1))
  | inr letter ↦ (let low = letter.0 in let high = letter.1 in (omega arith, omega arith, (λ e. omega (arith, e, low)), glyphs_ink bytes h.1))
]

pub word_ink : (v : ℕ) → IsInk (word_text v)
word_ink v = glyphs_ink (word_text v) (word_glyphs v)

-- ---- letters

pub rights_again : (read write : Bool) → rights (rights_text read write) ≡ Ok (read, write)
unfolding rights
rights_again true true = refl
rights_again true false = refl
rights_again false true = refl
rights_again false false = refl

abbrev AreWritten : Flags → Type 0
AreWritten f = flags (flags_text f) ≡ Ok f

flags_written : (r w x m : Bool) → has_no_flag (record { r = r; w = w; x = x; m = m }) ≡ false → AreWritten (record { r = r; w = w; x = x; m = m })
unfolding flags
flags_written true true true true some = refl
flags_written true true true false some = refl
flags_written true true false true some = refl
flags_written true true false false some = refl
flags_written true false true true some = refl
flags_written true false true false some = refl
flags_written true false false true some = refl
flags_written true false false false some = refl
flags_written false true true true some = refl
flags_written false true true false some = refl
flags_written false true false true some = refl
flags_written false true false false some = refl
flags_written false false true true some = refl
flags_written false false true false some = refl
flags_written false false false true some = refl
flags_written false false false false some = absurd cc

pub flags_again : (f : Flags) → has_no_flag f ≡ false → flags (flags_text f) ≡ Ok f
flags_again f some = flags_written f.r f.w f.x f.m some

flag_ink : (is_set : Bool) (letter : List ℕ) → IsInk letter → IsInk (flag_text is_set letter)
flag_ink true letter h = h
flag_ink false letter h = no_ink

pub rights_ink : (read write : Bool) → IsInk (rights_text read write)
rights_ink read write =
    let r = flag_ink read (codes "r") (ink_from (codes "r") refl) in
    let w = flag_ink write (codes "w") (ink_from (codes "w") refl) in
    let none = flag_ink (not (read || write)) (codes "-") (ink_from (codes "-") refl) in
    ink_append _ _ (ink_append _ _ r w) none

pub rights_some : (read write : Bool) → 0 < length (rights_text read write)
rights_some true write = omega arith
rights_some false true = omega arith
rights_some false false = omega arith

pub flags_ink : (f : Flags) → IsInk (flags_text f)
flags_ink f =
    let r = flag_ink f.r (codes "r") (ink_from (codes "r") refl) in
    let w = flag_ink f.w (codes "w") (ink_from (codes "w") refl) in
    let x = flag_ink f.x (codes "x") (ink_from (codes "x") refl) in
    let m = flag_ink f.m (codes "m") (ink_from (codes "m") refl) in
    let none = flag_ink (not (f.r || (f.w || (f.x || f.m)))) (codes "-") (ink_from (codes "-") refl) in
    ink_append _ _ (ink_append _ _ (ink_append _ _ (ink_append _ _ r w) x) m) none

some_letter : (r w x m : Bool) → 0 < length (flags_text (record { r = r; w = w; x = x; m = m }))
some_letter true w x m = omega arith
some_letter false true x m = omega arith
some_letter false false true m = omega arith
some_letter false false false true = omega arith
some_letter false false false false = omega arith

pub flags_some : (f : Flags) → 0 < length (flags_text f)
flags_some f = some_letter f.r f.w f.x f.m
