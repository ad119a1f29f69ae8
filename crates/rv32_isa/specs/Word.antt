-- The fields of a 32-bit instruction word, and the formats that place them.
use Rattle.std.specs.Prelude.{ℕ, suc, ◌+◌, ◌-◌, ◌*◌, ◌/◌, ◌%◌, ◌^◌, ℤ, pos, negsuc, Bool, true, false, if◌then◌else◌, nat_lt, nat_eq}

-- `size` is 2 to the number of bits of a field, and `half` is half of it

-- the field of `size` values that holds the integer z in two's complement
abbrev pub twos_complement : ℕ → ℤ → ℕ
twos_complement size (pos n) = n
twos_complement size (negsuc n) = size - suc n

-- the integer that a field of 2 * half values holds in two's complement
abbrev pub signed_of : ℕ → ℕ → ℤ
signed_of half n = if nat_lt n half then pos n else negsuc (2 * half - suc n)

-- what a single bit holds
abbrev pub bit_of : Bool → ℕ
bit_of true = 1
bit_of false = 0

-- The fields that most formats share

-- bits 6 to 0
abbrev pub opcode_of : ℕ → ℕ
opcode_of w = w % 128

-- bits 11 to 7
abbrev pub rd_of : ℕ → ℕ
rd_of w = w / 2 ^ 7 % 32

-- bits 14 to 12
abbrev pub funct3_of : ℕ → ℕ
funct3_of w = w / 2 ^ 12 % 8

-- bits 19 to 15
abbrev pub rs1_of : ℕ → ℕ
rs1_of w = w / 2 ^ 15 % 32

-- bits 24 to 20
abbrev pub rs2_of : ℕ → ℕ
rs2_of w = w / 2 ^ 20 % 32

-- bits 31 to 25
abbrev pub funct7_of : ℕ → ℕ
funct7_of w = w / 2 ^ 25

-- bits 31 to 27
abbrev pub funct5_of : ℕ → ℕ
funct5_of w = w / 2 ^ 27

-- bits 31 to 20
abbrev pub high12_of : ℕ → ℕ
high12_of w = w / 2 ^ 20

-- bits 31 to 12
abbrev pub high20_of : ℕ → ℕ
high20_of w = w / 2 ^ 12

-- bits 26 and 25
abbrev pub aq_of : ℕ → Bool
aq_of w = nat_eq (w / 2 ^ 26 % 2) 1

abbrev pub rl_of : ℕ → Bool
rl_of w = nat_eq (w / 2 ^ 25 % 2) 1

-- The signed immediates

abbrev pub immediate_i_of : ℕ → ℤ
immediate_i_of w = signed_of 2048 (high12_of w)

-- bits 31 to 25, then 11 to 7
abbrev pub immediate_s_of : ℕ → ℤ
immediate_s_of w = signed_of 2048 (w / 2 ^ 25 * 2 ^ 5 + w / 2 ^ 7 % 2 ^ 5)

-- bit 31, bit 7, bits 30 to 25, bits 11 to 8, then a zero bit
abbrev pub immediate_b_of : ℕ → ℤ
immediate_b_of w =
    signed_of 4096 (w / 2 ^ 31 * 2 ^ 12 + w / 2 ^ 7 % 2 * 2 ^ 11 + w / 2 ^ 25 % 2 ^ 6 * 2 ^ 5 + w / 2 ^ 8 % 2 ^ 4 * 2)

-- bit 31, bits 19 to 12, bit 20, bits 30 to 21, then a zero bit
abbrev pub immediate_j_of : ℕ → ℤ
immediate_j_of w =
    signed_of 1048576
    (w / 2 ^ 31 * 2 ^ 20 + w / 2 ^ 12 % 2 ^ 8 * 2 ^ 12 + w / 2 ^ 20 % 2 * 2 ^ 11 + w / 2 ^ 21 % 2 ^ 10 * 2)

-- The formats: the word that has these fields at their places

abbrev pub r_word : ℕ → ℕ → ℕ → ℕ → ℕ → ℕ → ℕ
r_word opcode funct3 funct7 rd rs1 rs2 =
    opcode + rd * 2 ^ 7 + funct3 * 2 ^ 12 + rs1 * 2 ^ 15 + rs2 * 2 ^ 20 + funct7 * 2 ^ 25

-- the upper twelve bits as they are
abbrev pub i_word : ℕ → ℕ → ℕ → ℕ → ℕ → ℕ
i_word opcode funct3 rd rs1 high = opcode + rd * 2 ^ 7 + funct3 * 2 ^ 12 + rs1 * 2 ^ 15 + high * 2 ^ 20

-- the twelve bits of the immediate in two parts
abbrev pub s_word : ℕ → ℕ → ℕ → ℕ → ℕ → ℕ
s_word opcode funct3 rs1 rs2 low12 =
    opcode + low12 % 2 ^ 5 * 2 ^ 7 + funct3 * 2 ^ 12 + rs1 * 2 ^ 15 + rs2 * 2 ^ 20 + low12 / 2 ^ 5 * 2 ^ 25

-- bit 11, bits 4 to 1, bits 10 to 5 and bit 12 of the immediate, whose bit 0 has no place
abbrev pub b_word : ℕ → ℕ → ℕ → ℕ → ℕ → ℕ
b_word opcode funct3 rs1 rs2 low13 =
    opcode + low13 / 2 ^ 11 % 2 * 2 ^ 7 + low13 / 2 % 2 ^ 4 * 2 ^ 8 + funct3 * 2 ^ 12 + rs1 * 2 ^ 15 + rs2 * 2 ^ 20 + low13 / 2 ^ 5 % 2 ^ 6 * 2 ^ 25 + low13 / 2 ^ 12 * 2 ^ 31

abbrev pub u_word : ℕ → ℕ → ℕ → ℕ
u_word opcode rd high20 = opcode + rd * 2 ^ 7 + high20 * 2 ^ 12

-- bits 19 to 12, bit 11, bits 10 to 1 and bit 20 of the immediate, whose bit 0 has no place
abbrev pub j_word : ℕ → ℕ → ℕ → ℕ
j_word opcode rd low21 =
    opcode + rd * 2 ^ 7 + low21 / 2 ^ 12 % 2 ^ 8 * 2 ^ 12 + low21 / 2 ^ 11 % 2 * 2 ^ 20 + low21 / 2 % 2 ^ 10 * 2 ^ 21 + low21 / 2 ^ 20 * 2 ^ 31
