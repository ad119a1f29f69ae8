-- A number that is written in decimal digits is read as it.
use Rattle.std.proofs.Common.{◌≡◌, ℕ, ◌+◌, ◌-◌, ◌*◌, ◌/◌, ◌%◌, ◌^◌, ◌<◌, ◌≤◌, true, false, eqb, ltb, leb, List, [], ◌∷◌, ◌++◌, length, Some, None, refl, sym, ap, ◌∙◌, append_assoc, arith, inl, inr}
use Rattle.std.specs.Prelude.{codes}
use Rattle.std.specs.Fmt.{decimal}
use Rattle.std.proofs.lemmas.Bool.{cases_Bool, lt-ltb, le-leb, ne_eqb}
use Rattle.std.proofs.lemmas.List.{append-nil}
use Rattle.std.proofs.lemmas.Fmt.{decimal_by_steps, decimal_nonempty, length-decimal-le}
use Rattle.text_fields.specs.Reading.{after}
use Rattle.text_fields.specs.Numbers.{digit, digits_from, digits, number}

-- ---- its digits

abbrev pub IsDigits : List ℕ → Type 0
IsDigits [] = Unit {0}
IsDigits (b ∷ bytes) = (48 ≤ b) × (b ≤ 57) × IsDigits bytes

digits_append : (xs ys : List ℕ) → IsDigits xs → IsDigits ys → IsDigits (xs ++ ys)
digits_append [] ys h k = k
digits_append (x ∷ xs) ys h k = (h.0, h.1, digits_append xs ys h.2 k)

one_digit : (n : ℕ) → n < 10 → IsDigits ((48 + n) ∷ [])
one_digit n lt = (omega arith, omega arith, tt)

more_digits : (n : ℕ) (ds : List ℕ) → 10 ≤ n → IsDigits ds → IsDigits (ds ++ ((48 + n % 10) ∷ []))
more_digits n ds ge h = digits_append ds ((48 + n % 10) ∷ []) h (omega arith, omega arith, tt)

abbrev AreDigits : ℕ → List ℕ → Type 0
AreDigits n ds = IsDigits ds

pub decimal_digits : (n : ℕ) → n < 2 ^ 64 → IsDigits (decimal n)
decimal_digits n small = decimal_by_steps AreDigits one_digit more_digits n small

-- ---- its value

pub digit_reads : (d : ℕ) → d < 10 → digit 10 (48 + d) ≡ Some d
unfolding digit
digit_reads d lt =
    let low : leb 48 (48 + d) ≡ true = le-leb _ _ (omega arith) in
    let high : leb (48 + d) 57 ≡ true = le-leb _ _ (omega arith) in
    let value : 48 + d - 48 ≡ d = omega arith in
    let below : ltb d 10 ≡ true = lt-ltb _ _ lt in
    rw (low, high, value, below) refl

from_step : (k d : ℕ) (rest : List ℕ) → d < 10 → 10 * k + d < 2 ^ 32 → digits_from 10 k ((48 + d) ∷ rest) ≡ digits_from 10 (10 * k + d) rest
unfolding digits_from
from_step k d rest lt small =
    let fits : ltb (10 * k + d) (2 ^ 32) ≡ true = lt-ltb _ _ small in
    rw (digit_reads d lt, fits) refl

abbrev IsRead : ℕ → List ℕ → Type 0
IsRead n ds = (rest : List ℕ) → n < 2 ^ 32 → digits_from 10 0 (ds ++ rest) ≡ digits_from 10 n rest

read_one : (n : ℕ) → n < 10 → IsRead n ((48 + n) ∷ [])
read_one n lt rest small =
    let same : 10 * 0 + n ≡ n = omega arith in
    from_step 0 n rest lt (omega arith) ∙ ap (λ (k : ℕ). digits_from 10 k rest) same

read_more : (n : ℕ) (ds : List ℕ) → 10 ≤ n → IsRead (n / 10) ds → IsRead n (ds ++ ((48 + n % 10) ∷ []))
read_more n ds ge front rest small =
    let whole : 10 * (n / 10) + n % 10 ≡ n = omega arith in
    ap (digits_from 10 0) (append_assoc ds ((48 + n % 10) ∷ []) rest) ∙ front ((48 + n % 10) ∷ rest) (omega arith) ∙ from_step (n / 10) (n % 10) rest (omega arith) (omega arith) ∙ ap (λ (m : ℕ). digits_from 10 m rest) whole

pub digits_end : (base n : ℕ) → digits_from base n [] ≡ Some n
unfolding digits_from
digits_end base n = refl

from_reads : (n : ℕ) → n < 2 ^ 32 → digits_from 10 0 (decimal n) ≡ Some n
from_reads n small = ap (digits_from 10 0) (sym (append-nil (decimal n))) ∙ decimal_by_steps IsRead read_one read_more n (omega arith) [] small ∙ digits_end 10 n

digits_reads : (n : ℕ) → n < 2 ^ 32 → digits 10 1 10 (decimal n) ≡ Some n
unfolding digits
digits_reads n small =
    let some : leb 1 (length (decimal n)) ≡ true = le-leb _ _ (omega (arith, decimal_nonempty n (omega arith))) in
    let few : leb (length (decimal n)) 10 ≡ true = le-leb _ _ (length-decimal-le 10 n (omega arith) (omega arith) (omega arith)) in
    rw (some, few) (from_reads n small)

no_hexadecimal : (ds : List ℕ) → IsDigits ds → after (codes "0x") ds ≡ None
unfolding after
no_hexadecimal [] h = refl
no_hexadecimal (a ∷ []) h = elim (cases_Bool (eqb a 48)) [ inl e ↦ rw e refl | inr e ↦ rw e refl ]
no_hexadecimal (a ∷ b ∷ more) (low, high, (b_low, b_high, rest)) =
    let other : eqb b 120 ≡ false = ne_eqb b 120 (λ e. omega (arith, e)) in
    elim (cases_Bool (eqb a 48)) [ inl e ↦ rw (e, other) refl | inr e ↦ rw e refl ]

pub number_reads : (n : ℕ) → n < 2 ^ 32 → number (decimal n) ≡ Some n
unfolding number
number_reads n small =
    let plain : after (codes "0x") (decimal n) ≡ None = no_hexadecimal (decimal n) (decimal_digits n (omega arith)) in
    rw plain (digits_reads n small)
