-- The bits of one word.
use Rattle.std.proofs.Common.{◌≡◌, ◌≢◌, ℕ, ◌-◌, ◌*◌, ◌%◌, ◌^◌, ◌<◌, ◌≤◌, false, refl, sym, ◌∙◌, ap, inl, inr, min, arith, bit_and, nat_eq, w64}
use Rattle.std.specs.Int.{bit_at, bit_not, trailing_zeros}
use Rattle.std.proofs.lemmas.Bool.{cases_lt, eqb-false}
use Rattle.std.proofs.lemmas.Nat.{and_le_l}
use Rattle.std.proofs.lemmas.Nat.Bits.{bit_at_above, bit_at_and, bit_at-lt, bit_at-trailing_zeros, bit_at-zero, bit_at_clear_other, bit_at_mask_below, bit_at_mask_inside, ones_shl, same_from_bits}
use Rattle.number_set.specs.Bits.{has_bit}
use Rattle.number_set.specs.First.{IsFirst}

-- the test of a one
pub is_one : (word place bit : ℕ) → bit_at word place ≡ bit → has_bit word place ≡ nat_eq bit 1
unfolding has_bit
is_one word place bit at = ap (λ b. nat_eq b 1) at

-- a word has no bit from 64 on
pub bit_past : (word place : ℕ) → word < 2 ^ 64 → 64 ≤ place → has_bit word place ≡ false
bit_past word place small past = is_one word place 0 (bit_at_above word 64 place small past)

-- a bit cleared leaves the others
pub others_cleared : (word place other : ℕ) → word < 2 ^ 64 → place < 64 → other ≢ place → has_bit (bit_and word (bit_not w64 (1 * 2 ^ place % 2 ^ 64))) other ≡ has_bit word other
others_cleared word place other small within apart = elim (cases_lt other 64) [
  | inl below ↦ is_one _ other _ (bit_at_clear_other w64 word place within other below apart) ∙ sym (is_one word other _ refl)
  | inr past ↦ bit_past _ other (omega (arith, small, and_le_l word (bit_not w64 (1 * 2 ^ place % 2 ^ 64)))) past ∙ sym (bit_past word other small past)
]

-- the ones from a place on
abbrev pub rest_of : ℕ → ℕ → ℕ
rest_of word from = bit_and word ((2 ^ 64 - 1) * 2 ^ from % 2 ^ 64)

rest_bit : (word from place : ℕ) → from < 64 → bit_at (rest_of word from) place ≡ min (bit_at word place) (bit_at (2 ^ 64 - 2 ^ from) place)
rest_bit word from place within = ap (λ mask. bit_at (bit_and word mask) place) (ones_shl 64 from (omega arith)) ∙ bit_at_and word (2 ^ 64 - 2 ^ from) place

rest_inside : (word from place : ℕ) → from < 64 → from ≤ place → place < 64 → bit_at (rest_of word from) place ≡ bit_at word place
rest_inside word from place within reached below =
    rest_bit word from place within ∙ ap (min (bit_at word place)) (bit_at_mask_inside from 64 place reached below) ∙ smaller (bit_at word place) (bit_at-lt word place)
  where
    smaller : (bit : ℕ) → bit < 2 → min bit 1 ≡ bit
    smaller bit small = omega arith

rest_before : (word from place : ℕ) → from < 64 → place < from → bit_at (rest_of word from) place ≡ 0
rest_before word from place within before =
    rest_bit word from place within ∙ ap (min (bit_at word place)) (bit_at_mask_below from 64 place before) ∙ none (bit_at word place)
  where
    none : (bit : ℕ) → min bit 0 ≡ 0
    none bit = omega arith

-- where there is none, the word has none from the place on
pub no_rest : (word from : ℕ) → word < 2 ^ 64 → from < 64 → rest_of word from ≡ 0 → (place : ℕ) → from ≤ place → has_bit word place ≡ false
no_rest word from small within zero place reached = elim (cases_lt place 64) [
  | inl below ↦ is_one word place 0 (sym (rest_inside word from place within reached below) ∙ ap (λ n. bit_at n place) zero ∙ bit_at-zero place)
  | inr past ↦ bit_past word place small past
]

-- and else the lowest is the first
pub rest_first : (word from : ℕ) → word < 2 ^ 64 → from < 64 → 0 < rest_of word from → (trailing_zeros w64 (rest_of word from) < 64) × IsFirst (has_bit word) from (trailing_zeros w64 (rest_of word from))
rest_first word from small within some =
    let rest = rest_of word from in
    let lowest = bit_at-trailing_zeros w64 rest some (omega (arith, small, and_le_l word ((2 ^ 64 - 1) * 2 ^ from % 2 ^ 64))) in
    let first = trailing_zeros w64 rest in
    let reached : from ≤ first = elim (cases_lt first from) [
      | inl before ↦ absurd (omega (arith, lowest.1, rest_before word from first within before))
      | inr reached ↦ reached
    ] in (
      lowest.0,
      record {
        from_there = reached;
        in_it = is_one word first 1 (sym (rest_inside word from first within reached lowest.0) ∙ lowest.1);
        none_before = λ place after before. is_one word place 0 (sym (rest_inside word from place within after (omega (arith, before, lowest.0))) ∙ lowest.2 place before);
      },
    )

zero_bit : (word place : ℕ) → has_bit word place ≡ false → bit_at word place ≡ 0
unfolding has_bit
zero_bit word place off =
    let apart = eqb-false (bit_at word place) 1 off in
    omega (arith, apart, bit_at-lt word place)

-- a number without a one is zero
pub zero_without : (word : ℕ) → ((place : ℕ) → 0 ≤ place → has_bit word place ≡ false) → word ≡ 0
zero_without word none = same_from_bits word 0 (λ place. zero_bit word place (none place (omega arith)) ∙ sym (bit_at-zero place))
