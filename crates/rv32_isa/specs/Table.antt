-- The instruction table: the word of each instruction, which instructions have one, and the one that a word is.
use Rattle.std.specs.Prelude.{◌≡◌, ℕ, ◌+◌, ◌*◌, ◌%◌, ◌<◌, ℤ, pos, negsuc, ◌≤ℤ◌, unsigned_abs, Option, Some, None, if◌then◌else◌, ◌==◌}
use Rattle.rv32_isa.specs.declared.forms.Instr.{Instr}
use Rattle.rv32_isa.specs.declared.forms.Instr.TheVariants.{Lui, Auipc, Jal, Jalr, Beq, Bne, Blt, Bge, Bltu, Bgeu, Lb, Lh, Lw, Lbu, Lhu, Sb, Sh, Sw, Addi, Slti, Sltiu, Xori, Ori, Andi, Slli, Srli, Srai, Add, Sub, Sll, Slt, Sltu, Xor, Srl, Sra, Or, And, Fence, Ecall, Ebreak, Mul, Mulh, Mulhsu, Mulhu, Div, Divu, Rem, Remu, Amoadd, Amoswap, Amoxor, Amoor, Amoand, Amomin, Amomax, Amominu, Amomaxu}
use Rattle.rv32_isa.specs.Word.{twos_complement, bit_of, opcode_of, rd_of, funct3_of, rs1_of, rs2_of, funct7_of, funct5_of, high12_of, high20_of, aq_of, rl_of, immediate_i_of, immediate_s_of, immediate_b_of, immediate_j_of, r_word, i_word, s_word, b_word, u_word, j_word}

-- The 32-bit word of a valid instruction: the constant fields of its form and its own fields, at their places.
unfoldable pub word_of : Instr → ℕ
word_of (Lui rd imm) = u_word 55 rd (twos_complement 1048576 imm)
word_of (Auipc rd imm) = u_word 23 rd (twos_complement 1048576 imm)
word_of (Jal rd imm) = j_word 111 rd (twos_complement 2097152 imm)
word_of (Jalr rd rs1 imm) = i_word 103 0 rd rs1 (twos_complement 4096 imm)
word_of (Beq rs1 rs2 imm) = b_word 99 0 rs1 rs2 (twos_complement 8192 imm)
word_of (Bne rs1 rs2 imm) = b_word 99 1 rs1 rs2 (twos_complement 8192 imm)
word_of (Blt rs1 rs2 imm) = b_word 99 4 rs1 rs2 (twos_complement 8192 imm)
word_of (Bge rs1 rs2 imm) = b_word 99 5 rs1 rs2 (twos_complement 8192 imm)
word_of (Bltu rs1 rs2 imm) = b_word 99 6 rs1 rs2 (twos_complement 8192 imm)
word_of (Bgeu rs1 rs2 imm) = b_word 99 7 rs1 rs2 (twos_complement 8192 imm)
word_of (Lb rd rs1 imm) = i_word 3 0 rd rs1 (twos_complement 4096 imm)
word_of (Lh rd rs1 imm) = i_word 3 1 rd rs1 (twos_complement 4096 imm)
word_of (Lw rd rs1 imm) = i_word 3 2 rd rs1 (twos_complement 4096 imm)
word_of (Lbu rd rs1 imm) = i_word 3 4 rd rs1 (twos_complement 4096 imm)
word_of (Lhu rd rs1 imm) = i_word 3 5 rd rs1 (twos_complement 4096 imm)
word_of (Sb rs1 rs2 imm) = s_word 35 0 rs1 rs2 (twos_complement 4096 imm)
word_of (Sh rs1 rs2 imm) = s_word 35 1 rs1 rs2 (twos_complement 4096 imm)
word_of (Sw rs1 rs2 imm) = s_word 35 2 rs1 rs2 (twos_complement 4096 imm)
word_of (Addi rd rs1 imm) = i_word 19 0 rd rs1 (twos_complement 4096 imm)
word_of (Slti rd rs1 imm) = i_word 19 2 rd rs1 (twos_complement 4096 imm)
word_of (Sltiu rd rs1 imm) = i_word 19 3 rd rs1 (twos_complement 4096 imm)
word_of (Xori rd rs1 imm) = i_word 19 4 rd rs1 (twos_complement 4096 imm)
word_of (Ori rd rs1 imm) = i_word 19 6 rd rs1 (twos_complement 4096 imm)
word_of (Andi rd rs1 imm) = i_word 19 7 rd rs1 (twos_complement 4096 imm)
word_of (Slli rd rs1 imm) = r_word 19 1 0 rd rs1 (twos_complement 32 imm)
word_of (Srli rd rs1 imm) = r_word 19 5 0 rd rs1 (twos_complement 32 imm)
word_of (Srai rd rs1 imm) = r_word 19 5 32 rd rs1 (twos_complement 32 imm)
word_of (Add rd rs1 rs2) = r_word 51 0 0 rd rs1 rs2
word_of (Sub rd rs1 rs2) = r_word 51 0 32 rd rs1 rs2
word_of (Sll rd rs1 rs2) = r_word 51 1 0 rd rs1 rs2
word_of (Slt rd rs1 rs2) = r_word 51 2 0 rd rs1 rs2
word_of (Sltu rd rs1 rs2) = r_word 51 3 0 rd rs1 rs2
word_of (Xor rd rs1 rs2) = r_word 51 4 0 rd rs1 rs2
word_of (Srl rd rs1 rs2) = r_word 51 5 0 rd rs1 rs2
word_of (Sra rd rs1 rs2) = r_word 51 5 32 rd rs1 rs2
word_of (Or rd rs1 rs2) = r_word 51 6 0 rd rs1 rs2
word_of (And rd rs1 rs2) = r_word 51 7 0 rd rs1 rs2
word_of (Fence rd rs1 imm) = i_word 15 0 rd rs1 (twos_complement 4096 imm)
word_of Ecall = 0x00000073
word_of Ebreak = 0x00100073
word_of (Mul rd rs1 rs2) = r_word 51 0 1 rd rs1 rs2
word_of (Mulh rd rs1 rs2) = r_word 51 1 1 rd rs1 rs2
word_of (Mulhsu rd rs1 rs2) = r_word 51 2 1 rd rs1 rs2
word_of (Mulhu rd rs1 rs2) = r_word 51 3 1 rd rs1 rs2
word_of (Div rd rs1 rs2) = r_word 51 4 1 rd rs1 rs2
word_of (Divu rd rs1 rs2) = r_word 51 5 1 rd rs1 rs2
word_of (Rem rd rs1 rs2) = r_word 51 6 1 rd rs1 rs2
word_of (Remu rd rs1 rs2) = r_word 51 7 1 rd rs1 rs2
word_of (Amoadd rd rs1 rs2 aq rl) = r_word 47 2 (0 * 4 + bit_of aq * 2 + bit_of rl) rd rs1 rs2
word_of (Amoswap rd rs1 rs2 aq rl) = r_word 47 2 (1 * 4 + bit_of aq * 2 + bit_of rl) rd rs1 rs2
word_of (Amoxor rd rs1 rs2 aq rl) = r_word 47 2 (4 * 4 + bit_of aq * 2 + bit_of rl) rd rs1 rs2
word_of (Amoor rd rs1 rs2 aq rl) = r_word 47 2 (8 * 4 + bit_of aq * 2 + bit_of rl) rd rs1 rs2
word_of (Amoand rd rs1 rs2 aq rl) = r_word 47 2 (12 * 4 + bit_of aq * 2 + bit_of rl) rd rs1 rs2
word_of (Amomin rd rs1 rs2 aq rl) = r_word 47 2 (16 * 4 + bit_of aq * 2 + bit_of rl) rd rs1 rs2
word_of (Amomax rd rs1 rs2 aq rl) = r_word 47 2 (20 * 4 + bit_of aq * 2 + bit_of rl) rd rs1 rs2
word_of (Amominu rd rs1 rs2 aq rl) = r_word 47 2 (24 * 4 + bit_of aq * 2 + bit_of rl) rd rs1 rs2
word_of (Amomaxu rd rs1 rs2 aq rl) = r_word 47 2 (28 * 4 + bit_of aq * 2 + bit_of rl) rd rs1 rs2

-- a register's number
abbrev pub IsRegister : ℕ → Type 0
IsRegister r = r < 32

-- z lies from `least` to `greatest`
abbrev pub LiesFrom : ℤ → ℤ → ℤ → Type 0
LiesFrom least greatest z = (least ≤ℤ z) × (z ≤ℤ greatest)

-- an immediate of twelve bits, signed
abbrev pub IsSigned12 : ℤ → Type 0
IsSigned12 = LiesFrom (negsuc 2047) (pos 2047)

-- the distance of a branch, and that of a jump: even, since bit 0 has no place in the word
abbrev pub IsBranchDistance : ℤ → Type 0
IsBranchDistance z = LiesFrom (negsuc 4095) (pos 4094) z × (unsigned_abs z % 2 ≡ 0)

abbrev pub IsJumpDistance : ℤ → Type 0
IsJumpDistance z = LiesFrom (negsuc 1048575) (pos 1048574) z × (unsigned_abs z % 2 ≡ 0)

-- The fields of a valid instruction lie in the ranges of its form.
unfoldable pub IsValid : Instr → Type 0
IsValid (Lui rd imm) = IsRegister rd × LiesFrom (pos 0) (pos 1048575) imm
IsValid (Auipc rd imm) = IsRegister rd × LiesFrom (pos 0) (pos 1048575) imm
IsValid (Jal rd imm) = IsRegister rd × IsJumpDistance imm
IsValid (Jalr rd rs1 imm) = IsRegister rd × IsRegister rs1 × IsSigned12 imm
IsValid (Beq rs1 rs2 imm) = IsRegister rs1 × IsRegister rs2 × IsBranchDistance imm
IsValid (Bne rs1 rs2 imm) = IsRegister rs1 × IsRegister rs2 × IsBranchDistance imm
IsValid (Blt rs1 rs2 imm) = IsRegister rs1 × IsRegister rs2 × IsBranchDistance imm
IsValid (Bge rs1 rs2 imm) = IsRegister rs1 × IsRegister rs2 × IsBranchDistance imm
IsValid (Bltu rs1 rs2 imm) = IsRegister rs1 × IsRegister rs2 × IsBranchDistance imm
IsValid (Bgeu rs1 rs2 imm) = IsRegister rs1 × IsRegister rs2 × IsBranchDistance imm
IsValid (Lb rd rs1 imm) = IsRegister rd × IsRegister rs1 × IsSigned12 imm
IsValid (Lh rd rs1 imm) = IsRegister rd × IsRegister rs1 × IsSigned12 imm
IsValid (Lw rd rs1 imm) = IsRegister rd × IsRegister rs1 × IsSigned12 imm
IsValid (Lbu rd rs1 imm) = IsRegister rd × IsRegister rs1 × IsSigned12 imm
IsValid (Lhu rd rs1 imm) = IsRegister rd × IsRegister rs1 × IsSigned12 imm
IsValid (Sb rs1 rs2 imm) = IsRegister rs1 × IsRegister rs2 × IsSigned12 imm
IsValid (Sh rs1 rs2 imm) = IsRegister rs1 × IsRegister rs2 × IsSigned12 imm
IsValid (Sw rs1 rs2 imm) = IsRegister rs1 × IsRegister rs2 × IsSigned12 imm
IsValid (Addi rd rs1 imm) = IsRegister rd × IsRegister rs1 × IsSigned12 imm
IsValid (Slti rd rs1 imm) = IsRegister rd × IsRegister rs1 × IsSigned12 imm
IsValid (Sltiu rd rs1 imm) = IsRegister rd × IsRegister rs1 × IsSigned12 imm
IsValid (Xori rd rs1 imm) = IsRegister rd × IsRegister rs1 × IsSigned12 imm
IsValid (Ori rd rs1 imm) = IsRegister rd × IsRegister rs1 × IsSigned12 imm
IsValid (Andi rd rs1 imm) = IsRegister rd × IsRegister rs1 × IsSigned12 imm
IsValid (Slli rd rs1 imm) = IsRegister rd × IsRegister rs1 × LiesFrom (pos 0) (pos 31) imm
IsValid (Srli rd rs1 imm) = IsRegister rd × IsRegister rs1 × LiesFrom (pos 0) (pos 31) imm
IsValid (Srai rd rs1 imm) = IsRegister rd × IsRegister rs1 × LiesFrom (pos 0) (pos 31) imm
IsValid (Add rd rs1 rs2) = IsRegister rd × IsRegister rs1 × IsRegister rs2
IsValid (Sub rd rs1 rs2) = IsRegister rd × IsRegister rs1 × IsRegister rs2
IsValid (Sll rd rs1 rs2) = IsRegister rd × IsRegister rs1 × IsRegister rs2
IsValid (Slt rd rs1 rs2) = IsRegister rd × IsRegister rs1 × IsRegister rs2
IsValid (Sltu rd rs1 rs2) = IsRegister rd × IsRegister rs1 × IsRegister rs2
IsValid (Xor rd rs1 rs2) = IsRegister rd × IsRegister rs1 × IsRegister rs2
IsValid (Srl rd rs1 rs2) = IsRegister rd × IsRegister rs1 × IsRegister rs2
IsValid (Sra rd rs1 rs2) = IsRegister rd × IsRegister rs1 × IsRegister rs2
IsValid (Or rd rs1 rs2) = IsRegister rd × IsRegister rs1 × IsRegister rs2
IsValid (And rd rs1 rs2) = IsRegister rd × IsRegister rs1 × IsRegister rs2
IsValid (Fence rd rs1 imm) = IsRegister rd × IsRegister rs1 × LiesFrom (pos 0) (pos 4095) imm
IsValid Ecall = Unit {0}
IsValid Ebreak = Unit {0}
IsValid (Mul rd rs1 rs2) = IsRegister rd × IsRegister rs1 × IsRegister rs2
IsValid (Mulh rd rs1 rs2) = IsRegister rd × IsRegister rs1 × IsRegister rs2
IsValid (Mulhsu rd rs1 rs2) = IsRegister rd × IsRegister rs1 × IsRegister rs2
IsValid (Mulhu rd rs1 rs2) = IsRegister rd × IsRegister rs1 × IsRegister rs2
IsValid (Div rd rs1 rs2) = IsRegister rd × IsRegister rs1 × IsRegister rs2
IsValid (Divu rd rs1 rs2) = IsRegister rd × IsRegister rs1 × IsRegister rs2
IsValid (Rem rd rs1 rs2) = IsRegister rd × IsRegister rs1 × IsRegister rs2
IsValid (Remu rd rs1 rs2) = IsRegister rd × IsRegister rs1 × IsRegister rs2
IsValid (Amoadd rd rs1 rs2 aq rl) = IsRegister rd × IsRegister rs1 × IsRegister rs2
IsValid (Amoswap rd rs1 rs2 aq rl) = IsRegister rd × IsRegister rs1 × IsRegister rs2
IsValid (Amoxor rd rs1 rs2 aq rl) = IsRegister rd × IsRegister rs1 × IsRegister rs2
IsValid (Amoor rd rs1 rs2 aq rl) = IsRegister rd × IsRegister rs1 × IsRegister rs2
IsValid (Amoand rd rs1 rs2 aq rl) = IsRegister rd × IsRegister rs1 × IsRegister rs2
IsValid (Amomin rd rs1 rs2 aq rl) = IsRegister rd × IsRegister rs1 × IsRegister rs2
IsValid (Amomax rd rs1 rs2 aq rl) = IsRegister rd × IsRegister rs1 × IsRegister rs2
IsValid (Amominu rd rs1 rs2 aq rl) = IsRegister rd × IsRegister rs1 × IsRegister rs2
IsValid (Amomaxu rd rs1 rs2 aq rl) = IsRegister rd × IsRegister rs1 × IsRegister rs2

-- The instruction that a word is, by its opcode, and within an opcode by funct3 and funct7.

-- branches
abbrev pub branch_at : ℕ → ℕ → Option Instr
branch_at funct3 w =
    if funct3 == 0 then Some (Beq (rs1_of w) (rs2_of w) (immediate_b_of w)) else
    if funct3 == 1 then Some (Bne (rs1_of w) (rs2_of w) (immediate_b_of w)) else
    if funct3 == 4 then Some (Blt (rs1_of w) (rs2_of w) (immediate_b_of w)) else
    if funct3 == 5 then Some (Bge (rs1_of w) (rs2_of w) (immediate_b_of w)) else
    if funct3 == 6 then Some (Bltu (rs1_of w) (rs2_of w) (immediate_b_of w)) else
    if funct3 == 7 then Some (Bgeu (rs1_of w) (rs2_of w) (immediate_b_of w)) else
    None

-- loads
abbrev pub load_at : ℕ → ℕ → Option Instr
load_at funct3 w =
    if funct3 == 0 then Some (Lb (rd_of w) (rs1_of w) (immediate_i_of w)) else
    if funct3 == 1 then Some (Lh (rd_of w) (rs1_of w) (immediate_i_of w)) else
    if funct3 == 2 then Some (Lw (rd_of w) (rs1_of w) (immediate_i_of w)) else
    if funct3 == 4 then Some (Lbu (rd_of w) (rs1_of w) (immediate_i_of w)) else
    if funct3 == 5 then Some (Lhu (rd_of w) (rs1_of w) (immediate_i_of w)) else
    None

-- stores
abbrev pub store_at : ℕ → ℕ → Option Instr
store_at funct3 w =
    if funct3 == 0 then Some (Sb (rs1_of w) (rs2_of w) (immediate_s_of w)) else
    if funct3 == 1 then Some (Sh (rs1_of w) (rs2_of w) (immediate_s_of w)) else
    if funct3 == 2 then Some (Sw (rs1_of w) (rs2_of w) (immediate_s_of w)) else
    None

-- an instruction where funct7 is the one it asks for
abbrev pub where_funct7 : ℕ → ℕ → Instr → Option Instr
where_funct7 wanted funct7 i = if funct7 == wanted then Some i else None

-- shifts to the right by an immediate
abbrev pub shift_right_at : ℕ → ℕ → Option Instr
shift_right_at funct7 w =
    if funct7 == 0 then Some (Srli (rd_of w) (rs1_of w) (pos (rs2_of w))) else
    if funct7 == 32 then Some (Srai (rd_of w) (rs1_of w) (pos (rs2_of w))) else
    None

-- sums, tests, bitwise operations and shifts with an immediate
abbrev pub immediate_at : ℕ → ℕ → ℕ → Option Instr
immediate_at funct3 funct7 w =
    if funct3 == 0 then Some (Addi (rd_of w) (rs1_of w) (immediate_i_of w)) else
    if funct3 == 1 then where_funct7 0 funct7 (Slli (rd_of w) (rs1_of w) (pos (rs2_of w))) else
    if funct3 == 2 then Some (Slti (rd_of w) (rs1_of w) (immediate_i_of w)) else
    if funct3 == 3 then Some (Sltiu (rd_of w) (rs1_of w) (immediate_i_of w)) else
    if funct3 == 4 then Some (Xori (rd_of w) (rs1_of w) (immediate_i_of w)) else
    if funct3 == 5 then shift_right_at funct7 w else
    if funct3 == 6 then Some (Ori (rd_of w) (rs1_of w) (immediate_i_of w)) else
    if funct3 == 7 then Some (Andi (rd_of w) (rs1_of w) (immediate_i_of w)) else
    None

-- operations of two registers with funct7 0
abbrev pub plain_at : ℕ → ℕ → Option Instr
plain_at funct3 w =
    if funct3 == 0 then Some (Add (rd_of w) (rs1_of w) (rs2_of w)) else
    if funct3 == 1 then Some (Sll (rd_of w) (rs1_of w) (rs2_of w)) else
    if funct3 == 2 then Some (Slt (rd_of w) (rs1_of w) (rs2_of w)) else
    if funct3 == 3 then Some (Sltu (rd_of w) (rs1_of w) (rs2_of w)) else
    if funct3 == 4 then Some (Xor (rd_of w) (rs1_of w) (rs2_of w)) else
    if funct3 == 5 then Some (Srl (rd_of w) (rs1_of w) (rs2_of w)) else
    if funct3 == 6 then Some (Or (rd_of w) (rs1_of w) (rs2_of w)) else
    if funct3 == 7 then Some (And (rd_of w) (rs1_of w) (rs2_of w)) else
    None

-- those with funct7 0100000
abbrev pub minus_at : ℕ → ℕ → Option Instr
minus_at funct3 w =
    if funct3 == 0 then Some (Sub (rd_of w) (rs1_of w) (rs2_of w)) else
    if funct3 == 5 then Some (Sra (rd_of w) (rs1_of w) (rs2_of w)) else
    None

-- products, quotients and remainders
abbrev pub multiply_at : ℕ → ℕ → Option Instr
multiply_at funct3 w =
    if funct3 == 0 then Some (Mul (rd_of w) (rs1_of w) (rs2_of w)) else
    if funct3 == 1 then Some (Mulh (rd_of w) (rs1_of w) (rs2_of w)) else
    if funct3 == 2 then Some (Mulhsu (rd_of w) (rs1_of w) (rs2_of w)) else
    if funct3 == 3 then Some (Mulhu (rd_of w) (rs1_of w) (rs2_of w)) else
    if funct3 == 4 then Some (Div (rd_of w) (rs1_of w) (rs2_of w)) else
    if funct3 == 5 then Some (Divu (rd_of w) (rs1_of w) (rs2_of w)) else
    if funct3 == 6 then Some (Rem (rd_of w) (rs1_of w) (rs2_of w)) else
    if funct3 == 7 then Some (Remu (rd_of w) (rs1_of w) (rs2_of w)) else
    None

-- operations of two registers
abbrev pub register_at : ℕ → ℕ → ℕ → Option Instr
register_at funct3 funct7 w =
    if funct7 == 0 then plain_at funct3 w else
    if funct7 == 32 then minus_at funct3 w else
    if funct7 == 1 then multiply_at funct3 w else
    None

-- atomic operations on a word
abbrev pub atomic_at : ℕ → ℕ → Option Instr
atomic_at funct5 w =
    if funct5 == 0 then Some (Amoadd (rd_of w) (rs1_of w) (rs2_of w) (aq_of w) (rl_of w)) else
    if funct5 == 1 then Some (Amoswap (rd_of w) (rs1_of w) (rs2_of w) (aq_of w) (rl_of w)) else
    if funct5 == 4 then Some (Amoxor (rd_of w) (rs1_of w) (rs2_of w) (aq_of w) (rl_of w)) else
    if funct5 == 8 then Some (Amoor (rd_of w) (rs1_of w) (rs2_of w) (aq_of w) (rl_of w)) else
    if funct5 == 12 then Some (Amoand (rd_of w) (rs1_of w) (rs2_of w) (aq_of w) (rl_of w)) else
    if funct5 == 16 then Some (Amomin (rd_of w) (rs1_of w) (rs2_of w) (aq_of w) (rl_of w)) else
    if funct5 == 20 then Some (Amomax (rd_of w) (rs1_of w) (rs2_of w) (aq_of w) (rl_of w)) else
    if funct5 == 24 then Some (Amominu (rd_of w) (rs1_of w) (rs2_of w) (aq_of w) (rl_of w)) else
    if funct5 == 28 then Some (Amomaxu (rd_of w) (rs1_of w) (rs2_of w) (aq_of w) (rl_of w)) else
    None

-- the two words of the system opcode
abbrev pub system_at : ℕ → Option Instr
system_at w =
    if w == 0x00000073 then Some Ecall else
    if w == 0x00100073 then Some Ebreak else
    None

-- all forms
abbrev pub form_at : ℕ → ℕ → ℕ → ℕ → Option Instr
form_at opcode funct3 funct7 w =
    if opcode == 55 then Some (Lui (rd_of w) (pos (high20_of w))) else
    if opcode == 23 then Some (Auipc (rd_of w) (pos (high20_of w))) else
    if opcode == 111 then Some (Jal (rd_of w) (immediate_j_of w)) else
    if opcode == 103 then (if funct3 == 0 then Some (Jalr (rd_of w) (rs1_of w) (immediate_i_of w)) else None) else
    if opcode == 99 then branch_at funct3 w else
    if opcode == 3 then load_at funct3 w else
    if opcode == 35 then store_at funct3 w else
    if opcode == 19 then immediate_at funct3 funct7 w else
    if opcode == 51 then register_at funct3 funct7 w else
    if opcode == 15 then (if funct3 == 0 then Some (Fence (rd_of w) (rs1_of w) (pos (high12_of w))) else None) else
    if opcode == 115 then system_at w else
    if opcode == 47 then (if funct3 == 2 then atomic_at (funct5_of w) w else None) else
    None

-- The instruction whose word w is, if there is one.
unfoldable pub instruction_of : ℕ → Option Instr
instruction_of w = form_at (opcode_of w) (funct3_of w) (funct7_of w) w
