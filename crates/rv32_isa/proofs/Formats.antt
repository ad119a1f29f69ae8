-- The fields of a format's word are the fields that were put in.
use Rattle.std.proofs.Common.{◌≡◌, ℕ, suc, ◌+◌, ◌-◌, ◌*◌, ◌/◌, ◌%◌, ◌^◌, ◌<◌, ◌≤◌, true, false, refl, ap, sym, subst, ◌∙◌, inl, inr, arith}
use Rattle.std.specs.Prelude.{ℤ, pos, negsuc, ◌≤ℤ◌, if◌then◌else◌, nat_lt, unsigned_abs}
use Rattle.std.proofs.lemmas.Bool.Decides.{nat_tests}
use Rattle.std.proofs.lemmas.Int.{ints}
use Rattle.std.proofs.lemmas.Bool.{cases_lt}
use Rattle.rv32_isa.specs.Word.{twos_complement, signed_of, opcode_of, rd_of, funct3_of, rs1_of, rs2_of, funct7_of, high12_of, high20_of, r_word, i_word, s_word, b_word, u_word, j_word}

pub pick-below : {A : Type 0} (n half : ℕ) (x y : A) → n < half → (if nat_lt n half then x else y) ≡ x
pick-below n half x y h = grind (arith, nat_tests)

pub pick-above : {A : Type 0} (n half : ℕ) (x y : A) → half ≤ n → (if nat_lt n half then x else y) ≡ y
pick-above n half x y h = grind (arith, nat_tests)

-- a signed number that fits its field is read back
pub signed_of-twos_complement : (half : ℕ) (z : ℤ) → 0 < half → negsuc (half - 1) ≤ℤ z → z ≤ℤ pos (half - 1) → signed_of half (twos_complement (2 * half) z) ≡ z
signed_of-twos_complement half (pos n) some low high = pick-below n half _ _ (omega (arith, ints))
signed_of-twos_complement half (negsuc n) some low high =
    let inside : n < half = omega (arith, ints) in
    pick-above (2 * half - suc n) half _ _ (omega arith) ∙ ap negsuc (omega arith)

-- it takes no more than its bits, and keeps its parity
pub twos_complement-below : (half : ℕ) (z : ℤ) → 0 < half → negsuc (half - 1) ≤ℤ z → z ≤ℤ pos (half - 1) → twos_complement (2 * half) z < 2 * half
twos_complement-below half (pos n) some low high = omega (arith, ints)
twos_complement-below half (negsuc n) some low high = omega (arith, ints)

pub twos_complement-even : (half : ℕ) (z : ℤ) → 0 < half → negsuc (half - 1) ≤ℤ z → unsigned_abs z % 2 ≡ 0 → twos_complement (2 * half) z % 2 ≡ 0
twos_complement-even half (pos n) some low even = even
twos_complement-even half (negsuc n) some low even =
    let inside : n < half = omega (arith, ints) in
    omega arith

-- what a field holds is the two's complement of what it is read as
pub twos_complement-signed_of : (half n : ℕ) → n < 2 * half → twos_complement (2 * half) (signed_of half n) ≡ n
twos_complement-signed_of half n h =
    elim (nat_lt n half) as (λ b. twos_complement (2 * half) (if b then pos n else negsuc (2 * half - suc n)) ≡ n) [
      | true ↦ refl
      | false ↦ omega arith
    ]

-- what a field is read as lies in the signed range
pub signed_of_in_range : (half n : ℕ) → n < 2 * half → (negsuc (half - 1) ≤ℤ signed_of half n) × (signed_of half n ≤ℤ pos (half - 1))
signed_of_in_range half n h =
    elim (cases_lt n half) [
      | inl below ↦ subst (λ (z : ℤ). (negsuc (half - 1) ≤ℤ z) × (z ≤ℤ pos (half - 1))) (sym (pick-below n half (pos n) (negsuc (2 * half - suc n)) below)) (omega (arith, ints), omega (arith, ints))
      | inr above ↦ subst (λ (z : ℤ). (negsuc (half - 1) ≤ℤ z) × (z ≤ℤ pos (half - 1))) (sym (pick-above n half (pos n) (negsuc (2 * half - suc n)) above)) (omega (arith, ints), omega (arith, ints))
    ]

pub signed_of-even : (half n : ℕ) → n < 2 * half → n % 2 ≡ 0 → unsigned_abs (signed_of half n) % 2 ≡ 0
signed_of-even half n h even =
    elim (cases_lt n half) [
      | inl below ↦ subst (λ (z : ℤ). unsigned_abs z % 2 ≡ 0) (sym (pick-below n half (pos n) (negsuc (2 * half - suc n)) below)) even
      | inr above ↦ subst (λ (z : ℤ). unsigned_abs z % 2 ≡ 0) (sym (pick-above n half (pos n) (negsuc (2 * half - suc n)) above)) (omega arith)
    ]

-- the bits of the immediates that stand in several places
abbrev pub offset_bits : ℕ → ℕ
offset_bits w = w / 2 ^ 25 * 2 ^ 5 + w / 2 ^ 7 % 2 ^ 5

abbrev pub branch_bits : ℕ → ℕ
branch_bits w = w / 2 ^ 31 * 2 ^ 12 + w / 2 ^ 7 % 2 * 2 ^ 11 + w / 2 ^ 25 % 2 ^ 6 * 2 ^ 5 + w / 2 ^ 8 % 2 ^ 4 * 2

abbrev pub jump_bits : ℕ → ℕ
jump_bits w = w / 2 ^ 31 * 2 ^ 20 + w / 2 ^ 12 % 2 ^ 8 * 2 ^ 12 + w / 2 ^ 20 % 2 * 2 ^ 11 + w / 2 ^ 21 % 2 ^ 10 * 2

-- A word of a format: what its fields are
pub record IsRWord (w opcode funct3 funct7 rd rs1 rs2 : ℕ) : Type 0 where
  pub opcode_is : opcode_of w ≡ opcode
  pub funct3_is : funct3_of w ≡ funct3
  pub funct7_is : funct7_of w ≡ funct7
  pub rd_is : rd_of w ≡ rd
  pub rs1_is : rs1_of w ≡ rs1
  pub rs2_is : rs2_of w ≡ rs2

pub record IsIWord (w opcode funct3 rd rs1 high : ℕ) : Type 0 where
  pub opcode_is : opcode_of w ≡ opcode
  pub funct3_is : funct3_of w ≡ funct3
  pub rd_is : rd_of w ≡ rd
  pub rs1_is : rs1_of w ≡ rs1
  pub high12_is : high12_of w ≡ high

pub record IsSWord (w opcode funct3 rs1 rs2 low12 : ℕ) : Type 0 where
  pub opcode_is : opcode_of w ≡ opcode
  pub funct3_is : funct3_of w ≡ funct3
  pub rs1_is : rs1_of w ≡ rs1
  pub rs2_is : rs2_of w ≡ rs2
  pub offset_is : offset_bits w ≡ low12

pub record IsBWord (w opcode funct3 rs1 rs2 low13 : ℕ) : Type 0 where
  pub opcode_is : opcode_of w ≡ opcode
  pub funct3_is : funct3_of w ≡ funct3
  pub rs1_is : rs1_of w ≡ rs1
  pub rs2_is : rs2_of w ≡ rs2
  pub branch_is : branch_bits w ≡ low13

pub record IsUWord (w opcode rd high20 : ℕ) : Type 0 where
  pub opcode_is : opcode_of w ≡ opcode
  pub rd_is : rd_of w ≡ rd
  pub high20_is : high20_of w ≡ high20

pub record IsJWord (w opcode rd low21 : ℕ) : Type 0 where
  pub opcode_is : opcode_of w ≡ opcode
  pub rd_is : rd_of w ≡ rd
  pub jump_is : jump_bits w ≡ low21

pub r_word_fields : (opcode funct3 funct7 rd rs1 rs2 : ℕ) → opcode < 128 → funct3 < 8 → funct7 < 128 → rd < 32 → rs1 < 32 → rs2 < 32 → IsRWord (r_word opcode funct3 funct7 rd rs1 rs2) opcode funct3 funct7 rd rs1 rs2
r_word_fields opcode funct3 funct7 rd rs1 rs2 h0 h1 h2 h3 h4 h5 = record {
  opcode_is = omega arith;
  funct3_is = omega arith;
  funct7_is = omega arith;
  rd_is = omega arith;
  rs1_is = omega arith;
  rs2_is = omega arith;
}

pub i_word_fields : (opcode funct3 rd rs1 high : ℕ) → opcode < 128 → funct3 < 8 → rd < 32 → rs1 < 32 → high < 4096 → IsIWord (i_word opcode funct3 rd rs1 high) opcode funct3 rd rs1 high
i_word_fields opcode funct3 rd rs1 high h0 h1 h2 h3 h4 = record {
  opcode_is = omega arith;
  funct3_is = omega arith;
  rd_is = omega arith;
  rs1_is = omega arith;
  high12_is = omega arith;
}

pub s_word_fields : (opcode funct3 rs1 rs2 low12 : ℕ) → opcode < 128 → funct3 < 8 → rs1 < 32 → rs2 < 32 → low12 < 4096 → IsSWord (s_word opcode funct3 rs1 rs2 low12) opcode funct3 rs1 rs2 low12
s_word_fields opcode funct3 rs1 rs2 low12 h0 h1 h2 h3 h4 = record {
  opcode_is = omega arith;
  funct3_is = omega arith;
  rs1_is = omega arith;
  rs2_is = omega arith;
  offset_is = omega arith;
}

pub b_word_fields : (opcode funct3 rs1 rs2 low13 : ℕ) → opcode < 128 → funct3 < 8 → rs1 < 32 → rs2 < 32 → low13 < 8192 → low13 % 2 ≡ 0 → IsBWord (b_word opcode funct3 rs1 rs2 low13) opcode funct3 rs1 rs2 low13
b_word_fields opcode funct3 rs1 rs2 low13 h0 h1 h2 h3 h4 even = record {
  opcode_is = omega arith;
  funct3_is = omega arith;
  rs1_is = omega arith;
  rs2_is = omega arith;
  branch_is = omega arith;
}

pub u_word_fields : (opcode rd high20 : ℕ) → opcode < 128 → rd < 32 → high20 < 1048576 → IsUWord (u_word opcode rd high20) opcode rd high20
u_word_fields opcode rd high20 h0 h1 h2 = record {
  opcode_is = omega arith;
  rd_is = omega arith;
  high20_is = omega arith;
}

pub j_word_fields : (opcode rd low21 : ℕ) → opcode < 128 → rd < 32 → low21 < 2097152 → low21 % 2 ≡ 0 → IsJWord (j_word opcode rd low21) opcode rd low21
j_word_fields opcode rd low21 h0 h1 h2 even = record {
  opcode_is = omega arith;
  rd_is = omega arith;
  jump_is = omega arith;
}

-- A word is that of its fields

pub r_word_of_fields : (w opcode funct3 funct7 : ℕ) → opcode_of w ≡ opcode → funct3_of w ≡ funct3 → funct7_of w ≡ funct7 → r_word opcode funct3 funct7 (rd_of w) (rs1_of w) (rs2_of w) ≡ w
r_word_of_fields w opcode funct3 funct7 e0 e1 e2 = omega arith

pub i_word_of_fields : (w opcode funct3 : ℕ) → opcode_of w ≡ opcode → funct3_of w ≡ funct3 → i_word opcode funct3 (rd_of w) (rs1_of w) (high12_of w) ≡ w
i_word_of_fields w opcode funct3 e0 e1 = omega arith

pub s_word_of_fields : (w opcode funct3 : ℕ) → opcode_of w ≡ opcode → funct3_of w ≡ funct3 → s_word opcode funct3 (rs1_of w) (rs2_of w) (offset_bits w) ≡ w
s_word_of_fields w opcode funct3 e0 e1 = omega arith

pub b_word_of_fields : (w opcode funct3 : ℕ) → opcode_of w ≡ opcode → funct3_of w ≡ funct3 → b_word opcode funct3 (rs1_of w) (rs2_of w) (branch_bits w) ≡ w
b_word_of_fields w opcode funct3 e0 e1 = omega arith

pub u_word_of_fields : (w opcode : ℕ) → opcode_of w ≡ opcode → u_word opcode (rd_of w) (high20_of w) ≡ w
u_word_of_fields w opcode e0 = omega arith

pub j_word_of_fields : (w opcode : ℕ) → opcode_of w ≡ opcode → j_word opcode (rd_of w) (jump_bits w) ≡ w
j_word_of_fields w opcode e0 = omega arith
