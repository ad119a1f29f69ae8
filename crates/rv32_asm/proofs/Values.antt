-- The text of a register or of a number is read as it.
use Rattle.std.proofs.Common.{◌≡◌, ℕ, suc, ◌+◌, ◌*◌, ◌/◌, ◌%◌, ◌^◌, ◌<◌, ◌≤◌, Bool, true, false, eqb, ltb, leb, List, [], ◌∷◌, ◌++◌, length, Option, Some, None, refl, ap, subst, ◌∙◌, arith, eq-eqb, inl, inr}
use Rattle.std.specs.Prelude.{ℤ, pos, negsuc, int_le, unsigned_abs, codes, T}
use Rattle.std.specs.Fmt.{decimal, signed_decimal}
use Rattle.std.proofs.lemmas.Bool.{cases_Bool, cases_lt, lt-ltb, ne_eqb, leb-true}
use Rattle.std.proofs.lemmas.Fmt.{decimal_digit, decimal_step, decimal_nonempty}
use Rattle.rv32_isa.specs.Table.{LiesFrom}
use Rattle.text_fields.specs.Numbers.{digit}
use Rattle.text_fields.proofs.Decimals.{IsDigits, decimal_digits, digit_reads, number_reads}
use Rattle.text_fields.specs.Reading.{◌>>=◌, after}
use Rattle.rv32_asm.specs.Fields.{immediate, immediate_in, short_number, lettered, numbered, register, bracketed, is_name}
use Rattle.rv32_asm.specs.Line.{Distance, target_at, IsEven}
use Rattle.rv32_asm.specs.Listing.{register_text, based_text}
use Rattle.rv32_asm.proofs.Tokens.{lacks, lacks_parts, lacks_append, cut_found, cut_none, IsToken}

-- ---- digits

digits_lack : (at : ℕ) → ((b : ℕ) → 48 ≤ b → b ≤ 57 → eqb b at ≡ false) → (ds : List ℕ) → IsDigits ds → lacks at ds ≡ true
digits_lack at apart [] h = refl
digits_lack at apart (b ∷ ds) h = rw (apart b h.0 h.1, digits_lack at apart ds h.2) refl

apart_low : (at : ℕ) → at < 48 → (b : ℕ) → 48 ≤ b → b ≤ 57 → eqb b at ≡ false
apart_low at h b low high = ne_eqb b at (λ e. omega (arith, e))

apart_high : (at : ℕ) → 57 < at → (b : ℕ) → 48 ≤ b → b ≤ 57 → eqb b at ≡ false
apart_high at h b low high = ne_eqb b at (λ e. omega (arith, e))

nonempty : (xs : List ℕ) → 0 < length xs → (b : ℕ) × (bytes : List ℕ) × (xs ≡ b ∷ bytes)
nonempty [] h = absurd (omega (arith, h))
nonempty (b ∷ bytes) h = (b, bytes, refl)

-- ---- registers

short_two : (a b s t : ℕ) → eqb a 48 ≡ false → digit 10 a ≡ Some s → digit 10 b ≡ Some t → short_number (a ∷ b ∷ []) ≡ Some (10 * s + t)
unfolding short_number
short_two a b s t ne e f = rw (ne, e, f) refl

short_one : (a : ℕ) → short_number (a ∷ []) ≡ digit 10 a
unfolding short_number
short_one a = refl

short_reads : (n : ℕ) → n < 32 → short_number (decimal n) ≡ Some n
short_reads n lt =
    elim (cases_lt n 10) [
      | inl small ↦ ap short_number (decimal_digit n small) ∙ short_one (48 + n) ∙ digit_reads n small
      | inr big ↦
          let tens : decimal (n / 10) ≡ (48 + n / 10) ∷ [] = decimal_digit (n / 10) (omega arith) in
          let written : decimal n ≡ (48 + n / 10) ∷ (48 + n % 10) ∷ [] = decimal_step n big (omega arith) ∙ ap (λ (ds : List ℕ). ds ++ ((48 + n % 10) ∷ [])) tens in
          let ne : eqb (48 + n / 10) 48 ≡ false = ne_eqb _ _ (λ e. omega (arith, e)) in
          let whole : 10 * (n / 10) + n % 10 ≡ n = omega arith in
          ap short_number written ∙ short_two (48 + n / 10) (48 + n % 10) (n / 10) (n % 10) ne (digit_reads (n / 10) (omega arith)) (digit_reads (n % 10) (omega arith)) ∙ ap (λ (m : ℕ). Some m) whole
    ]

pub register_reads : (n : ℕ) → n < 32 → register (register_text n) ≡ Some n
unfolding register numbered lettered
register_reads n lt =
    let below : ltb n 32 ≡ true = lt-ltb _ _ lt in
    rw (short_reads n lt, below) refl

pub bind_none : {A B : Type 0} (o : Option A) (f : A → Option B) → ((x : A) → f x ≡ None) → (o >>= f) ≡ None
bind_none None f h = refl
bind_none (Some x) f h = h x

bracket_no_register : (bytes : List ℕ) → register (40 ∷ bytes) ≡ None
unfolding register numbered lettered
bracket_no_register bytes = bind_none (short_number bytes) (lettered 40) (λ n. refl)

low_no_letter : (b n : ℕ) → b ≤ 57 → lettered b n ≡ None
unfolding lettered
low_no_letter b n low =
    let x : eqb b 120 ≡ false = ne_eqb _ _ (λ e. omega (arith, e)) in
    let t : eqb b 116 ≡ false = ne_eqb _ _ (λ e. omega (arith, e)) in
    let s : eqb b 115 ≡ false = ne_eqb _ _ (λ e. omega (arith, e)) in
    let a : eqb b 97 ≡ false = ne_eqb _ _ (λ e. omega (arith, e)) in
    rw (x, t, s, a) refl

low_no_register : (b : ℕ) (bytes : List ℕ) → b ≤ 57 → register (b ∷ bytes) ≡ None
unfolding register numbered
low_no_register b bytes low =
    let z : eqb b 122 ≡ false = ne_eqb _ _ (λ e. omega (arith, e)) in
    let r : eqb b 114 ≡ false = ne_eqb _ _ (λ e. omega (arith, e)) in
    let s : eqb b 115 ≡ false = ne_eqb _ _ (λ e. omega (arith, e)) in
    let g : eqb b 103 ≡ false = ne_eqb _ _ (λ e. omega (arith, e)) in
    let t : eqb b 116 ≡ false = ne_eqb _ _ (λ e. omega (arith, e)) in
    let f : eqb b 102 ≡ false = ne_eqb _ _ (λ e. omega (arith, e)) in
    rw (z, r, s, g, t, f) (bind_none (short_number bytes) (lettered b) (λ n. low_no_letter b n low))

le_false : (a b : ℕ) → b < a → leb a b ≡ false
le_false a b h = elim (cases_Bool (leb a b)) [ inl e ↦ absurd (omega (arith, leb-true a b e)) | inr e ↦ e ]

low_no_name : (b : ℕ) (bytes : List ℕ) → b ≤ 57 → is_name (b ∷ bytes) ≡ false
unfolding is_name
low_no_name b bytes low =
    let small : leb 97 b ≡ false = le_false 97 b (omega arith) in
    let large : leb 65 b ≡ false = le_false 65 b (omega arith) in
    let under : eqb b 95 ≡ false = ne_eqb _ _ (λ e. omega (arith, e)) in
    rw (small, large, under) refl

-- ---- numbers

no_minus : (xs : List ℕ) → lacks 45 xs ≡ true → after (codes "-") xs ≡ None
unfolding after
no_minus [] h = refl
no_minus (a ∷ more) h = let p = lacks_parts 45 a more h in rw p.0 refl

minus : (xs : List ℕ) → after (codes "-") (45 ∷ xs) ≡ Some xs
unfolding after
minus xs = refl

abbrev pub IsSmall : ℤ → Type 0
IsSmall z = unsigned_abs z < 2 ^ 32

pub immediate_reads : (z : ℤ) → IsSmall z → immediate (signed_decimal z) ≡ Some z
unfolding immediate
immediate_reads (pos n) small =
    let plain : after (codes "-") (decimal n) ≡ None = no_minus (decimal n) (digits_lack 45 (apart_low 45 (omega arith)) (decimal n) (decimal_digits n (omega arith))) in
    rw (plain, number_reads n small) refl
immediate_reads (negsuc n) small = rw (minus (decimal (suc n)), number_reads (suc n) small) refl

pub t_true : (b : Bool) → T b → b ≡ true
t_true true h = refl
t_true false h = absurd h

pub immediate_in_reads : (least greatest z : ℤ) → LiesFrom least greatest z → IsSmall z → immediate_in least greatest (signed_decimal z) ≡ Some z
unfolding immediate_in
immediate_in_reads least greatest z h small = rw (immediate_reads z small, t_true (int_le least z) h.0.le, t_true (int_le z greatest) h.1.le) refl

-- ---- operands

-- the first byte of a number
number_begins : (z : ℤ) → IsSmall z → (b : ℕ) × (bytes : List ℕ) × (signed_decimal z ≡ b ∷ bytes) × (b ≤ 57)
number_begins (pos n) small =
    let p = nonempty (decimal n) (decimal_nonempty n (omega arith)) in
    let digits : IsDigits (p.0 ∷ p.1) = subst IsDigits p.2 (decimal_digits n (omega arith)) in
    (p.0, p.1, p.2, digits.1)
number_begins (negsuc n) small = (45, decimal (suc n), refl, omega arith)

number_lacks : (at : ℕ) → eqb 45 at ≡ false → ((b : ℕ) → 48 ≤ b → b ≤ 57 → eqb b at ≡ false) → (z : ℤ) → IsSmall z → lacks at (signed_decimal z) ≡ true
number_lacks at other apart (pos n) small = digits_lack at apart (decimal n) (decimal_digits n (omega arith))
number_lacks at other apart (negsuc n) small = rw (other, digits_lack at apart (decimal (suc n)) (decimal_digits (suc n) (omega arith))) refl

pub number_token : (z : ℤ) → IsSmall z → IsToken (signed_decimal z)
number_token z small =
    let p = number_begins z small in
    record { first = p.0; rest = p.1; begins = p.2; spaces = number_lacks 32 refl (apart_low 32 (omega arith)) z small; commas = number_lacks 44 refl (apart_low 44 (omega arith)) z small; colons = number_lacks 58 refl (apart_high 58 (omega arith)) z small; feeds = number_lacks 10 refl (apart_low 10 (omega arith)) z small }

register_lacks : (at : ℕ) → eqb 120 at ≡ false → ((b : ℕ) → 48 ≤ b → b ≤ 57 → eqb b at ≡ false) → (n : ℕ) → n < 32 → lacks at (register_text n) ≡ true
register_lacks at other apart n lt = rw (other, digits_lack at apart (decimal n) (decimal_digits n (omega arith))) refl

pub register_token : (n : ℕ) → n < 32 → IsToken (register_text n)
register_token n lt = record { first = 120; rest = decimal n; begins = refl; spaces = register_lacks 32 refl (apart_low 32 (omega arith)) n lt; commas = register_lacks 44 refl (apart_low 44 (omega arith)) n lt; colons = register_lacks 58 refl (apart_high 58 (omega arith)) n lt; feeds = register_lacks 10 refl (apart_low 10 (omega arith)) n lt }

pub number_no_register : (z : ℤ) → IsSmall z → register (signed_decimal z) ≡ None
number_no_register z small = let p = number_begins z small in ap register p.2 ∙ low_no_register p.0 p.1 p.3

pub number_no_bracket : (z : ℤ) → IsSmall z → bracketed (signed_decimal z) ≡ None
unfolding bracketed
number_no_bracket z small = rw (cut_none 40 (signed_decimal z) (number_lacks 40 refl (apart_low 40 (omega arith)) z small)) refl

pub target_reads : (z : ℤ) → IsSmall z → IsEven z → target_at (signed_decimal z) ≡ Some (Distance z)
unfolding target_at
target_reads z small even =
    let p = number_begins z small in
    let no_name : is_name (signed_decimal z) ≡ false = ap is_name p.2 ∙ low_no_name p.0 p.1 p.3 in
    rw (no_name, immediate_reads z small, eq-eqb (unsigned_abs z % 2) 0 even) refl

abbrev pub ended_by_bracket : ℕ → List ℕ
ended_by_bracket r = codes "(" ++ (register_text r ++ codes ")")

brackets_read : (front : List ℕ) (r : ℕ) → lacks 40 front ≡ true → r < 32 → bracketed (front ++ ended_by_bracket r) ≡ Some (front, r)
unfolding bracketed
brackets_read front r h lt =
    rw (cut_found 40 front (register_text r ++ codes ")") h, cut_found 41 (register_text r) [] (register_lacks 41 refl (apart_low 41 (omega arith)) r lt), register_reads r lt) refl

pub based_reads : (z : ℤ) (r : ℕ) → IsSmall z → r < 32 → bracketed (based_text z r) ≡ Some (signed_decimal z, r)
based_reads z r small lt = brackets_read (signed_decimal z) r (number_lacks 40 refl (apart_low 40 (omega arith)) z small) lt

pub base_reads : (r : ℕ) → r < 32 → bracketed (ended_by_bracket r) ≡ Some ([], r)
base_reads r lt = brackets_read [] r refl lt

bracket_lacks : (at r : ℕ) → eqb 40 at ≡ false → eqb 41 at ≡ false → eqb 120 at ≡ false → ((b : ℕ) → 48 ≤ b → b ≤ 57 → eqb b at ≡ false) → r < 32 → lacks at (ended_by_bracket r) ≡ true
bracket_lacks at r opening closing x apart lt = rw opening (lacks_append at (register_text r) (codes ")") (register_lacks at x apart r lt) (rw closing refl))

pub bracket_token : (r : ℕ) → r < 32 → IsToken (ended_by_bracket r)
bracket_token r lt = record { first = 40; rest = register_text r ++ codes ")"; begins = refl; spaces = bracket_lacks 32 r refl refl refl (apart_low 32 (omega arith)) lt; commas = bracket_lacks 44 r refl refl refl (apart_low 44 (omega arith)) lt; colons = bracket_lacks 58 r refl refl refl (apart_high 58 (omega arith)) lt; feeds = bracket_lacks 10 r refl refl refl (apart_low 10 (omega arith)) lt }

pub based_token : (z : ℤ) (r : ℕ) → IsSmall z → r < 32 → IsToken (based_text z r)
based_token z r small lt =
    let n = number_token z small in
    let b = bracket_token r lt in
    record {
      first = n.first;
      rest = n.rest ++ ended_by_bracket r;
      begins = ap (λ (t : List ℕ). t ++ ended_by_bracket r) n.begins;
      spaces = lacks_append 32 (signed_decimal z) (ended_by_bracket r) n.spaces b.spaces;
      commas = lacks_append 44 (signed_decimal z) (ended_by_bracket r) n.commas b.commas;
      colons = lacks_append 58 (signed_decimal z) (ended_by_bracket r) n.colons b.colons;
      feeds = lacks_append 10 (signed_decimal z) (ended_by_bracket r) n.feeds b.feeds;
    }

pub bracket_is_no_register : (r : ℕ) → register (ended_by_bracket r) ≡ None
bracket_is_no_register r = bracket_no_register (register_text r ++ codes ")")
