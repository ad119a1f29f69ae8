-- What is read from a word is valid, and its word is that word.
use Rattle.std.proofs.Common.{◌≡◌, ℕ, ◌+◌, ◌*◌, ◌/◌, ◌%◌, ◌^◌, ◌<◌, ◌≤◌, true, false, refl, ap, sym, ◌∙◌, subst, arith, inl, inr, Option, Some, None}
use Rattle.std.specs.Prelude.{ℤ, pos, negsuc, ◌≤ℤ◌, nat_eq, if◌then◌else◌, ◌==◌, unsigned_abs}
use Rattle.std.proofs.lemmas.Int.{ints}
use Rattle.rv32_isa.specs.Word.{twos_complement, bit_of, opcode_of, rd_of, funct3_of, rs1_of, rs2_of, funct7_of, funct5_of, high12_of, aq_of, rl_of, immediate_i_of, immediate_s_of, immediate_b_of, immediate_j_of, r_word, i_word, s_word, b_word, j_word}
use Rattle.rv32_isa.specs.Table.{word_of, IsRegister, IsSigned12, IsBranchDistance, IsJumpDistance, IsValid, branch_at, load_at, store_at, shift_right_at, immediate_at, plain_at, minus_at, multiply_at, register_at, atomic_at, system_at, form_at, instruction_of}
use Rattle.rv32_isa.specs.declared.forms.Instr.{Instr}
use Rattle.rv32_isa.proofs.Formats.{twos_complement-signed_of, signed_of_in_range, signed_of-even, offset_bits, branch_bits, jump_bits, r_word_of_fields, i_word_of_fields, s_word_of_fields, b_word_of_fields, u_word_of_fields, j_word_of_fields}
use Rattle.std.specs.Prelude.{IfSome, IfNone, ◌≢◌}
use Rattle.std.proofs.lemmas.Bool.Decides.{nat_tests}
use Rattle.std.proofs.lemmas.Bool.{cases_lt}
use Rattle.rv32_isa.proofs.TableReads.{instruction_of-word_of}

-- an instruction that is valid and has this word, where there is one
abbrev pub IsSound : ℕ → Option Instr → Type 0
IsSound w None = Unit {0}
IsSound w (Some i) = IsValid i × (word_of i ≡ w)

-- a choice by a number is sound where both sides are
choice : (w a b : ℕ) (x y : Option Instr) → (a ≡ b → IsSound w x) → IsSound w y → IsSound w (if a == b then x else y)
choice w a b x y same other =
    let when : a == b ≡ true → a ≡ b = λ e. grind (arith, nat_tests) in
    elim (a == b) as (λ t. (t ≡ true → a ≡ b) → IsSound w (if t then x else y)) [ true ↦ λ h. same (h refl) | false ↦ λ h. other ] when

nothing : (w : ℕ) → IsSound w None
nothing w = tt

-- The registers of any word, and one format after the other

rd_in_range : (w : ℕ) → IsRegister (rd_of w)
rd_in_range w = omega arith

rs1_in_range : (w : ℕ) → IsRegister (rs1_of w)
rs1_in_range w = omega arith

rs2_in_range : (w : ℕ) → IsRegister (rs2_of w)
rs2_in_range w = omega arith

registers : (w : ℕ) → IsRegister (rd_of w) × IsRegister (rs1_of w) × IsRegister (rs2_of w)
registers w = (rd_in_range w, rs1_in_range w, rs2_in_range w)

signed12 : (w : ℕ) → w < 2 ^ 32 → IsSigned12 (immediate_i_of w)
signed12 w h = signed_of_in_range 2048 (high12_of w) (omega arith)

offset12 : (w : ℕ) → w < 2 ^ 32 → IsSigned12 (immediate_s_of w)
offset12 w h = signed_of_in_range 2048 (offset_bits w) (omega arith)

-- an even number that is at most an odd one is less
below_odd : (k : ℕ) (z : ℤ) → z ≤ℤ pos (2 * k + 1) → unsigned_abs z % 2 ≡ 0 → z ≤ℤ pos (2 * k)
below_odd k (pos n) high even = let h : n ≤ 2 * k + 1 = omega (arith, ints) in let g : n ≤ 2 * k = omega arith in omega (arith, ints)
below_odd k (negsuc n) high even = omega (arith, ints)

branch_distance : (w : ℕ) → w < 2 ^ 32 → IsBranchDistance (immediate_b_of w)
branch_distance w h =
    let below : branch_bits w < 8192 = omega arith in
    let even : unsigned_abs (immediate_b_of w) % 2 ≡ 0 = signed_of-even 4096 (branch_bits w) below (omega arith) in
    let range : (negsuc 4095 ≤ℤ immediate_b_of w) × (immediate_b_of w ≤ℤ pos 4095) = signed_of_in_range 4096 (branch_bits w) below in
    ((range.0, below_odd 2047 (immediate_b_of w) range.1 even), even)

jump_distance : (w : ℕ) → w < 2 ^ 32 → IsJumpDistance (immediate_j_of w)
jump_distance w h =
    let below : jump_bits w < 2097152 = omega arith in
    let even : unsigned_abs (immediate_j_of w) % 2 ≡ 0 = signed_of-even 1048576 (jump_bits w) below (omega arith) in
    let range : (negsuc 1048575 ≤ℤ immediate_j_of w) × (immediate_j_of w ≤ℤ pos 1048575) = signed_of_in_range 1048576 (jump_bits w) below in
    ((range.0, below_odd 524287 (immediate_j_of w) range.1 even), even)

i_is : (w opcode funct3 : ℕ) → w < 2 ^ 32 → opcode_of w ≡ opcode → funct3_of w ≡ funct3 → i_word opcode funct3 (rd_of w) (rs1_of w) (twos_complement 4096 (immediate_i_of w)) ≡ w
i_is w opcode funct3 h e1 e2 =
    ap (i_word opcode funct3 (rd_of w) (rs1_of w)) (twos_complement-signed_of 2048 (high12_of w) (omega arith)) ∙ i_word_of_fields w opcode funct3 e1 e2

s_is : (w opcode funct3 : ℕ) → w < 2 ^ 32 → opcode_of w ≡ opcode → funct3_of w ≡ funct3 → s_word opcode funct3 (rs1_of w) (rs2_of w) (twos_complement 4096 (immediate_s_of w)) ≡ w
s_is w opcode funct3 h e1 e2 =
    ap (s_word opcode funct3 (rs1_of w) (rs2_of w)) (twos_complement-signed_of 2048 (offset_bits w) (omega arith)) ∙ s_word_of_fields w opcode funct3 e1 e2

b_is : (w opcode funct3 : ℕ) → w < 2 ^ 32 → opcode_of w ≡ opcode → funct3_of w ≡ funct3 → b_word opcode funct3 (rs1_of w) (rs2_of w) (twos_complement 8192 (immediate_b_of w)) ≡ w
b_is w opcode funct3 h e1 e2 =
    ap (b_word opcode funct3 (rs1_of w) (rs2_of w)) (twos_complement-signed_of 4096 (branch_bits w) (omega arith)) ∙ b_word_of_fields w opcode funct3 e1 e2

j_is : (w opcode : ℕ) → w < 2 ^ 32 → opcode_of w ≡ opcode → j_word opcode (rd_of w) (twos_complement 2097152 (immediate_j_of w)) ≡ w
j_is w opcode h e1 =
    ap (j_word opcode (rd_of w)) (twos_complement-signed_of 1048576 (jump_bits w) (omega arith)) ∙ j_word_of_fields w opcode e1

a_is : (w funct5 : ℕ) → opcode_of w ≡ 47 → funct3_of w ≡ 2 → funct5_of w ≡ funct5 → r_word 47 2 (funct5 * 4 + bit_of (aq_of w) * 2 + bit_of (rl_of w)) (rd_of w) (rs1_of w) (rs2_of w) ≡ w
a_is w funct5 e1 e2 e3 =
    let a : bit_of (aq_of w) ≡ w / 2 ^ 26 % 2 = bit_of-nat_eq (w / 2 ^ 26 % 2) (omega arith) in
    let l : bit_of (rl_of w) ≡ w / 2 ^ 25 % 2 = bit_of-nat_eq (w / 2 ^ 25 % 2) (omega arith) in
    ap (λ k. r_word 47 2 (funct5 * 4 + k * 2 + bit_of (rl_of w)) (rd_of w) (rs1_of w) (rs2_of w)) a
    ∙ ap (λ k. r_word 47 2 (funct5 * 4 + w / 2 ^ 26 % 2 * 2 + k) (rd_of w) (rs1_of w) (rs2_of w)) l
    ∙ r_word_of_fields w 47 2 (funct5 * 4 + w / 2 ^ 26 % 2 * 2 + w / 2 ^ 25 % 2) e1 e2 (omega arith)
  where
    bit_of-nat_eq : (n : ℕ) → n < 2 → bit_of (nat_eq n 1) ≡ n
    bit_of-nat_eq n h = elim (cases_lt n 1) [
      | inl none ↦ (let e : n ≡ 0 = omega arith in rw e refl)
      | inr one ↦ (let e : n ≡ 1 = omega arith in rw e refl)
    ]

-- Group after group of forms, with the fields by which the group was found

sound_branch : (w funct3 : ℕ) → w < 2 ^ 32 → opcode_of w ≡ 99 → funct3_of w ≡ funct3 → IsSound w (branch_at funct3 w)
unfolding word_of IsValid
sound_branch w funct3 h e1 e3 =
    choice w funct3 0 _ _ (λ e. ((rs1_in_range w, rs2_in_range w, branch_distance w h), b_is w 99 0 h e1 (e3 ∙ e))) (
    choice w funct3 1 _ _ (λ e. ((rs1_in_range w, rs2_in_range w, branch_distance w h), b_is w 99 1 h e1 (e3 ∙ e))) (
    choice w funct3 4 _ _ (λ e. ((rs1_in_range w, rs2_in_range w, branch_distance w h), b_is w 99 4 h e1 (e3 ∙ e))) (
    choice w funct3 5 _ _ (λ e. ((rs1_in_range w, rs2_in_range w, branch_distance w h), b_is w 99 5 h e1 (e3 ∙ e))) (
    choice w funct3 6 _ _ (λ e. ((rs1_in_range w, rs2_in_range w, branch_distance w h), b_is w 99 6 h e1 (e3 ∙ e))) (
    choice w funct3 7 _ _ (λ e. ((rs1_in_range w, rs2_in_range w, branch_distance w h), b_is w 99 7 h e1 (e3 ∙ e))) (
    nothing w))))))

sound_load : (w funct3 : ℕ) → w < 2 ^ 32 → opcode_of w ≡ 3 → funct3_of w ≡ funct3 → IsSound w (load_at funct3 w)
unfolding word_of IsValid
sound_load w funct3 h e1 e3 =
    choice w funct3 0 _ _ (λ e. ((rd_in_range w, rs1_in_range w, signed12 w h), i_is w 3 0 h e1 (e3 ∙ e))) (
    choice w funct3 1 _ _ (λ e. ((rd_in_range w, rs1_in_range w, signed12 w h), i_is w 3 1 h e1 (e3 ∙ e))) (
    choice w funct3 2 _ _ (λ e. ((rd_in_range w, rs1_in_range w, signed12 w h), i_is w 3 2 h e1 (e3 ∙ e))) (
    choice w funct3 4 _ _ (λ e. ((rd_in_range w, rs1_in_range w, signed12 w h), i_is w 3 4 h e1 (e3 ∙ e))) (
    choice w funct3 5 _ _ (λ e. ((rd_in_range w, rs1_in_range w, signed12 w h), i_is w 3 5 h e1 (e3 ∙ e))) (
    nothing w)))))

sound_store : (w funct3 : ℕ) → w < 2 ^ 32 → opcode_of w ≡ 35 → funct3_of w ≡ funct3 → IsSound w (store_at funct3 w)
unfolding word_of IsValid
sound_store w funct3 h e1 e3 =
    choice w funct3 0 _ _ (λ e. ((rs1_in_range w, rs2_in_range w, offset12 w h), s_is w 35 0 h e1 (e3 ∙ e))) (
    choice w funct3 1 _ _ (λ e. ((rs1_in_range w, rs2_in_range w, offset12 w h), s_is w 35 1 h e1 (e3 ∙ e))) (
    choice w funct3 2 _ _ (λ e. ((rs1_in_range w, rs2_in_range w, offset12 w h), s_is w 35 2 h e1 (e3 ∙ e))) (
    nothing w)))

sound_shift_right : (w funct7 : ℕ) → w < 2 ^ 32 → opcode_of w ≡ 19 → funct3_of w ≡ 5 → funct7_of w ≡ funct7 → IsSound w (shift_right_at funct7 w)
unfolding word_of IsValid
sound_shift_right w funct7 h e1 e3 e7 =
    choice w funct7 0 _ _ (λ e. ((rd_in_range w, rs1_in_range w, (omega (arith, ints), omega (arith, ints))), r_word_of_fields w 19 5 0 e1 e3 (e7 ∙ e))) (
    choice w funct7 32 _ _ (λ e. ((rd_in_range w, rs1_in_range w, (omega (arith, ints), omega (arith, ints))), r_word_of_fields w 19 5 32 e1 e3 (e7 ∙ e))) (
    nothing w))

sound_immediate : (w funct3 funct7 : ℕ) → w < 2 ^ 32 → opcode_of w ≡ 19 → funct3_of w ≡ funct3 → funct7_of w ≡ funct7 → IsSound w (immediate_at funct3 funct7 w)
unfolding word_of IsValid
sound_immediate w funct3 funct7 h e1 e3 e7 =
    choice w funct3 0 _ _ (λ e. ((rd_in_range w, rs1_in_range w, signed12 w h), i_is w 19 0 h e1 (e3 ∙ e))) (
    choice w funct3 1 _ _ (λ e. choice w funct7 0 _ _ (λ f. ((rd_in_range w, rs1_in_range w, (omega (arith, ints), omega (arith, ints))), r_word_of_fields w 19 1 0 e1 (e3 ∙ e) (e7 ∙ f))) (nothing w)) (
    choice w funct3 2 _ _ (λ e. ((rd_in_range w, rs1_in_range w, signed12 w h), i_is w 19 2 h e1 (e3 ∙ e))) (
    choice w funct3 3 _ _ (λ e. ((rd_in_range w, rs1_in_range w, signed12 w h), i_is w 19 3 h e1 (e3 ∙ e))) (
    choice w funct3 4 _ _ (λ e. ((rd_in_range w, rs1_in_range w, signed12 w h), i_is w 19 4 h e1 (e3 ∙ e))) (
    choice w funct3 5 _ _ (λ e. sound_shift_right w funct7 h e1 (e3 ∙ e) e7) (
    choice w funct3 6 _ _ (λ e. ((rd_in_range w, rs1_in_range w, signed12 w h), i_is w 19 6 h e1 (e3 ∙ e))) (
    choice w funct3 7 _ _ (λ e. ((rd_in_range w, rs1_in_range w, signed12 w h), i_is w 19 7 h e1 (e3 ∙ e))) (
    nothing w))))))))

sound_plain : (w funct3 : ℕ) → w < 2 ^ 32 → opcode_of w ≡ 51 → funct3_of w ≡ funct3 → funct7_of w ≡ 0 → IsSound w (plain_at funct3 w)
unfolding word_of IsValid
sound_plain w funct3 h e1 e3 e7 =
    choice w funct3 0 _ _ (λ e. (registers w, r_word_of_fields w 51 0 0 e1 (e3 ∙ e) e7)) (
    choice w funct3 1 _ _ (λ e. (registers w, r_word_of_fields w 51 1 0 e1 (e3 ∙ e) e7)) (
    choice w funct3 2 _ _ (λ e. (registers w, r_word_of_fields w 51 2 0 e1 (e3 ∙ e) e7)) (
    choice w funct3 3 _ _ (λ e. (registers w, r_word_of_fields w 51 3 0 e1 (e3 ∙ e) e7)) (
    choice w funct3 4 _ _ (λ e. (registers w, r_word_of_fields w 51 4 0 e1 (e3 ∙ e) e7)) (
    choice w funct3 5 _ _ (λ e. (registers w, r_word_of_fields w 51 5 0 e1 (e3 ∙ e) e7)) (
    choice w funct3 6 _ _ (λ e. (registers w, r_word_of_fields w 51 6 0 e1 (e3 ∙ e) e7)) (
    choice w funct3 7 _ _ (λ e. (registers w, r_word_of_fields w 51 7 0 e1 (e3 ∙ e) e7)) (
    nothing w))))))))

sound_minus : (w funct3 : ℕ) → w < 2 ^ 32 → opcode_of w ≡ 51 → funct3_of w ≡ funct3 → funct7_of w ≡ 32 → IsSound w (minus_at funct3 w)
unfolding word_of IsValid
sound_minus w funct3 h e1 e3 e7 =
    choice w funct3 0 _ _ (λ e. (registers w, r_word_of_fields w 51 0 32 e1 (e3 ∙ e) e7)) (
    choice w funct3 5 _ _ (λ e. (registers w, r_word_of_fields w 51 5 32 e1 (e3 ∙ e) e7)) (
    nothing w))

sound_multiply : (w funct3 : ℕ) → w < 2 ^ 32 → opcode_of w ≡ 51 → funct3_of w ≡ funct3 → funct7_of w ≡ 1 → IsSound w (multiply_at funct3 w)
unfolding word_of IsValid
sound_multiply w funct3 h e1 e3 e7 =
    choice w funct3 0 _ _ (λ e. (registers w, r_word_of_fields w 51 0 1 e1 (e3 ∙ e) e7)) (
    choice w funct3 1 _ _ (λ e. (registers w, r_word_of_fields w 51 1 1 e1 (e3 ∙ e) e7)) (
    choice w funct3 2 _ _ (λ e. (registers w, r_word_of_fields w 51 2 1 e1 (e3 ∙ e) e7)) (
    choice w funct3 3 _ _ (λ e. (registers w, r_word_of_fields w 51 3 1 e1 (e3 ∙ e) e7)) (
    choice w funct3 4 _ _ (λ e. (registers w, r_word_of_fields w 51 4 1 e1 (e3 ∙ e) e7)) (
    choice w funct3 5 _ _ (λ e. (registers w, r_word_of_fields w 51 5 1 e1 (e3 ∙ e) e7)) (
    choice w funct3 6 _ _ (λ e. (registers w, r_word_of_fields w 51 6 1 e1 (e3 ∙ e) e7)) (
    choice w funct3 7 _ _ (λ e. (registers w, r_word_of_fields w 51 7 1 e1 (e3 ∙ e) e7)) (
    nothing w))))))))

sound_register : (w funct3 funct7 : ℕ) → w < 2 ^ 32 → opcode_of w ≡ 51 → funct3_of w ≡ funct3 → funct7_of w ≡ funct7 → IsSound w (register_at funct3 funct7 w)
unfolding word_of IsValid
sound_register w funct3 funct7 h e1 e3 e7 =
    choice w funct7 0 _ _ (λ e. sound_plain w funct3 h e1 e3 (e7 ∙ e)) (
    choice w funct7 32 _ _ (λ e. sound_minus w funct3 h e1 e3 (e7 ∙ e)) (
    choice w funct7 1 _ _ (λ e. sound_multiply w funct3 h e1 e3 (e7 ∙ e)) (
    nothing w)))

sound_atomic : (w funct5 : ℕ) → w < 2 ^ 32 → opcode_of w ≡ 47 → funct3_of w ≡ 2 → funct5_of w ≡ funct5 → IsSound w (atomic_at funct5 w)
unfolding word_of IsValid
sound_atomic w funct5 h e1 e3 e5 =
    choice w funct5 0 _ _ (λ e. (registers w, a_is w 0 e1 e3 (e5 ∙ e))) (
    choice w funct5 1 _ _ (λ e. (registers w, a_is w 1 e1 e3 (e5 ∙ e))) (
    choice w funct5 4 _ _ (λ e. (registers w, a_is w 4 e1 e3 (e5 ∙ e))) (
    choice w funct5 8 _ _ (λ e. (registers w, a_is w 8 e1 e3 (e5 ∙ e))) (
    choice w funct5 12 _ _ (λ e. (registers w, a_is w 12 e1 e3 (e5 ∙ e))) (
    choice w funct5 16 _ _ (λ e. (registers w, a_is w 16 e1 e3 (e5 ∙ e))) (
    choice w funct5 20 _ _ (λ e. (registers w, a_is w 20 e1 e3 (e5 ∙ e))) (
    choice w funct5 24 _ _ (λ e. (registers w, a_is w 24 e1 e3 (e5 ∙ e))) (
    choice w funct5 28 _ _ (λ e. (registers w, a_is w 28 e1 e3 (e5 ∙ e))) (
    nothing w)))))))))

sound_system : (w : ℕ) → IsSound w (system_at w)
unfolding word_of IsValid
sound_system w = choice w w 0x00000073 _ _ (λ e. (tt, sym e)) (choice w w 0x00100073 _ _ (λ e. (tt, sym e)) (nothing w))

sound_form : (w opcode funct3 funct7 : ℕ) → w < 2 ^ 32 → opcode_of w ≡ opcode → funct3_of w ≡ funct3 → funct7_of w ≡ funct7 → IsSound w (form_at opcode funct3 funct7 w)
unfolding word_of IsValid
sound_form w opcode funct3 funct7 h e1 e3 e7 =
    choice w opcode 55 _ _ (λ e. ((rd_in_range w, (omega (arith, ints), omega (arith, ints))), u_word_of_fields w 55 (e1 ∙ e))) (
    choice w opcode 23 _ _ (λ e. ((rd_in_range w, (omega (arith, ints), omega (arith, ints))), u_word_of_fields w 23 (e1 ∙ e))) (
    choice w opcode 111 _ _ (λ e. ((rd_in_range w, jump_distance w h), j_is w 111 h (e1 ∙ e))) (
    choice w opcode 103 _ _ (λ e. choice w funct3 0 _ _ (λ f. ((rd_in_range w, rs1_in_range w, signed12 w h), i_is w 103 0 h (e1 ∙ e) (e3 ∙ f))) (nothing w)) (
    choice w opcode 99 _ _ (λ e. sound_branch w funct3 h (e1 ∙ e) e3) (
    choice w opcode 3 _ _ (λ e. sound_load w funct3 h (e1 ∙ e) e3) (
    choice w opcode 35 _ _ (λ e. sound_store w funct3 h (e1 ∙ e) e3) (
    choice w opcode 19 _ _ (λ e. sound_immediate w funct3 funct7 h (e1 ∙ e) e3 e7) (
    choice w opcode 51 _ _ (λ e. sound_register w funct3 funct7 h (e1 ∙ e) e3 e7) (
    choice w opcode 15 _ _ (λ e. choice w funct3 0 _ _ (λ f. ((rd_in_range w, rs1_in_range w, (omega (arith, ints), omega (arith, ints))), i_word_of_fields w 15 0 (e1 ∙ e) (e3 ∙ f))) (nothing w)) (
    choice w opcode 115 _ _ (λ e. sound_system w) (
    choice w opcode 47 _ _ (λ e. choice w funct3 2 _ _ (λ f. sound_atomic w (funct5_of w) h (e1 ∙ e) (e3 ∙ f) refl) (nothing w)) (
    nothing w))))))))))))

pub instruction_of-sound : (w : ℕ) → w < 2 ^ 32 → IsSound w (instruction_of w)
unfolding instruction_of
instruction_of-sound w h = sound_form w (opcode_of w) (funct3_of w) (funct7_of w) h refl refl refl

-- The three facts that decoding promises of what it reads

sound_where_read : (w : ℕ) (r : Option Instr) → w < 2 ^ 32 → r ≡ instruction_of w → IsSound w r
sound_where_read w r fits e = subst (λ (o : Option Instr). IsSound w o) (sym e) (instruction_of-sound w fits)

-- what a word reads as is valid, and has that word
pub valid_where_read : (w : ℕ) (r : Option Instr) → w < 2 ^ 32 → r ≡ instruction_of w → IfSome r IsValid
valid_where_read w None fits e = tt
valid_where_read w (Some i) fits e = (sound_where_read w (Some i) fits e).0

pub same_word_where_read : (w : ℕ) (r : Option Instr) → w < 2 ^ 32 → r ≡ instruction_of w → IfSome r (λ i. word_of i ≡ w)
same_word_where_read w None fits e = tt
same_word_where_read w (Some i) fits e = (sound_where_read w (Some i) fits e).1

-- a word that reads as none is no instruction's word
pub no_word_where_none : (w : ℕ) (r : Option Instr) → r ≡ instruction_of w → IfNone r ((i : Instr) → IsValid i → word_of i ≢ w)
no_word_where_none w None e = λ i v same. none_is_not_some i (e ∙ (ap instruction_of (sym same) ∙ instruction_of-word_of i v))
  where
    none_is_not_some : (i : Instr) → None ≡ Some i → ⊥
    none_is_not_some i e = cc
no_word_where_none w (Some i) e = tt
