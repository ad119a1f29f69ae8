-- What an instruction asks for in a context, as the instruction set's manual has it: one line a form. It knows
-- no memory; a load or an atomic operation is told the number read only afterwards.
use Rattle.std.specs.Prelude.{ℕ, ◌+◌, ◌-◌, ◌*◌, ◌/◌, ◌%◌, ◌^◌, ◌<◌, ℤ, Bool, true, false, not, if◌then◌else◌, ◌==◌, nat_lt, nat_le, int_lt, int_le, bit_and, bit_or, bit_xor}
use Rattle.std.specs.Int.{w32, cast_signed, cast_unsigned, int_shr}
use Rattle.rv32_isa.specs.declared.forms.Instr.{Instr}
use Rattle.rv32_isa.specs.declared.forms.Instr.TheVariants as forms
use Rattle.rv32_ma.specs.Products.{mul_div_of}
use Rattle.rv32_ma.specs.declared.products.MulOp.TheVariants as products
use Rattle.rv32_ma.specs.declared.atomics.AmoOp.TheVariants as atomics
use Rattle.rv32_exec.specs.declared.contexts.Context.{Context}
use Rattle.rv32_exec.specs.declared.actions.Action.{Action}
use Rattle.rv32_exec.specs.declared.actions.Action.TheVariants.{Set, Pass, Jump, Load, Store, Atomic, Call, Break}
use Rattle.rv32_exec.specs.declared.spaces.Width.TheVariants.{Byte, Half, Word}
use Rattle.rv32_exec.specs.Registers.{register_of, sum_of}

-- what a register holds
abbrev pub x : Context → ℕ → ℕ
x = register_of

-- the integer that a word holds in two's complement, and the word that holds an integer
abbrev pub signed : ℕ → ℤ
signed = cast_signed w32

abbrev pub word : ℤ → ℕ
word = cast_unsigned w32

-- an upper immediate: twenty bits above twelve zero bits
abbrev pub upper : ℤ → ℕ
upper imm = word imm * 2 ^ 12 % 2 ^ 32

-- a register and an immediate
abbrev pub offset : Context → ℕ → ℤ → ℕ
offset c r imm = sum_of (x c r) (word imm)

abbrev pub difference : ℕ → ℕ → ℕ
difference a b = (a + (2 ^ 32 - b)) % 2 ^ 32

abbrev pub flag : Bool → ℕ
flag true = 1
flag false = 0

-- with bit 0 cleared
abbrev pub even : ℕ → ℕ
even n = n - n % 2

-- shifts; the last is filled with the sign
abbrev pub left : ℕ → ℕ → ℕ
left n by = n * 2 ^ by % 2 ^ 32

abbrev pub right : ℕ → ℕ → ℕ
right n by = n / 2 ^ by

abbrev pub right_signed : ℕ → ℕ → ℕ
right_signed n by = word (int_shr (signed n) by)

-- a jump that links nothing, where it is taken
abbrev pub branch : Context → Bool → ℤ → Action
branch c taken imm = if taken then Jump 0 (sum_of c.pc (word imm)) else Pass

unfoldable pub action_of : Instr → Context → Action
action_of (forms.Lui rd imm) c = Set rd (upper imm)
action_of (forms.Auipc rd imm) c = Set rd (sum_of c.pc (upper imm))
action_of (forms.Jal rd imm) c = Jump rd (sum_of c.pc (word imm))
action_of (forms.Jalr rd rs1 imm) c = Jump rd (even (offset c rs1 imm))
action_of (forms.Beq rs1 rs2 imm) c = branch c (x c rs1 == x c rs2) imm
action_of (forms.Bne rs1 rs2 imm) c = branch c (not (x c rs1 == x c rs2)) imm
action_of (forms.Blt rs1 rs2 imm) c = branch c (int_lt (signed (x c rs1)) (signed (x c rs2))) imm
action_of (forms.Bge rs1 rs2 imm) c = branch c (int_le (signed (x c rs2)) (signed (x c rs1))) imm
action_of (forms.Bltu rs1 rs2 imm) c = branch c (nat_lt (x c rs1) (x c rs2)) imm
action_of (forms.Bgeu rs1 rs2 imm) c = branch c (nat_le (x c rs2) (x c rs1)) imm
action_of (forms.Lb rd rs1 imm) c = Load rd (offset c rs1 imm) Byte true
action_of (forms.Lh rd rs1 imm) c = Load rd (offset c rs1 imm) Half true
action_of (forms.Lw rd rs1 imm) c = Load rd (offset c rs1 imm) Word false
action_of (forms.Lbu rd rs1 imm) c = Load rd (offset c rs1 imm) Byte false
action_of (forms.Lhu rd rs1 imm) c = Load rd (offset c rs1 imm) Half false
action_of (forms.Sb rs1 rs2 imm) c = Store (offset c rs1 imm) Byte (x c rs2)
action_of (forms.Sh rs1 rs2 imm) c = Store (offset c rs1 imm) Half (x c rs2)
action_of (forms.Sw rs1 rs2 imm) c = Store (offset c rs1 imm) Word (x c rs2)
action_of (forms.Addi rd rs1 imm) c = Set rd (offset c rs1 imm)
action_of (forms.Slti rd rs1 imm) c = Set rd (flag (int_lt (signed (x c rs1)) imm))
action_of (forms.Sltiu rd rs1 imm) c = Set rd (flag (nat_lt (x c rs1) (word imm)))
action_of (forms.Xori rd rs1 imm) c = Set rd (bit_xor (x c rs1) (word imm))
action_of (forms.Ori rd rs1 imm) c = Set rd (bit_or (x c rs1) (word imm))
action_of (forms.Andi rd rs1 imm) c = Set rd (bit_and (x c rs1) (word imm))
action_of (forms.Slli rd rs1 imm) c = Set rd (left (x c rs1) (word imm))
action_of (forms.Srli rd rs1 imm) c = Set rd (right (x c rs1) (word imm))
action_of (forms.Srai rd rs1 imm) c = Set rd (right_signed (x c rs1) (word imm))
action_of (forms.Add rd rs1 rs2) c = Set rd (sum_of (x c rs1) (x c rs2))
action_of (forms.Sub rd rs1 rs2) c = Set rd (difference (x c rs1) (x c rs2))
action_of (forms.Sll rd rs1 rs2) c = Set rd (left (x c rs1) (x c rs2 % 32))
action_of (forms.Slt rd rs1 rs2) c = Set rd (flag (int_lt (signed (x c rs1)) (signed (x c rs2))))
action_of (forms.Sltu rd rs1 rs2) c = Set rd (flag (nat_lt (x c rs1) (x c rs2)))
action_of (forms.Xor rd rs1 rs2) c = Set rd (bit_xor (x c rs1) (x c rs2))
action_of (forms.Srl rd rs1 rs2) c = Set rd (right (x c rs1) (x c rs2 % 32))
action_of (forms.Sra rd rs1 rs2) c = Set rd (right_signed (x c rs1) (x c rs2 % 32))
action_of (forms.Or rd rs1 rs2) c = Set rd (bit_or (x c rs1) (x c rs2))
action_of (forms.And rd rs1 rs2) c = Set rd (bit_and (x c rs1) (x c rs2))
action_of (forms.Fence rd rs1 imm) c = Pass
action_of forms.Ecall c = Call
action_of forms.Ebreak c = Break
action_of (forms.Mul rd rs1 rs2) c = Set rd (mul_div_of products.Mul (x c rs1) (x c rs2))
action_of (forms.Mulh rd rs1 rs2) c = Set rd (mul_div_of products.Mulh (x c rs1) (x c rs2))
action_of (forms.Mulhsu rd rs1 rs2) c = Set rd (mul_div_of products.Mulhsu (x c rs1) (x c rs2))
action_of (forms.Mulhu rd rs1 rs2) c = Set rd (mul_div_of products.Mulhu (x c rs1) (x c rs2))
action_of (forms.Div rd rs1 rs2) c = Set rd (mul_div_of products.Div (x c rs1) (x c rs2))
action_of (forms.Divu rd rs1 rs2) c = Set rd (mul_div_of products.Divu (x c rs1) (x c rs2))
action_of (forms.Rem rd rs1 rs2) c = Set rd (mul_div_of products.Rem (x c rs1) (x c rs2))
action_of (forms.Remu rd rs1 rs2) c = Set rd (mul_div_of products.Remu (x c rs1) (x c rs2))
action_of (forms.Amoadd rd rs1 rs2 aq rl) c = Atomic rd (x c rs1) atomics.Add (x c rs2)
action_of (forms.Amoswap rd rs1 rs2 aq rl) c = Atomic rd (x c rs1) atomics.Swap (x c rs2)
action_of (forms.Amoxor rd rs1 rs2 aq rl) c = Atomic rd (x c rs1) atomics.Xor (x c rs2)
action_of (forms.Amoor rd rs1 rs2 aq rl) c = Atomic rd (x c rs1) atomics.Or (x c rs2)
action_of (forms.Amoand rd rs1 rs2 aq rl) c = Atomic rd (x c rs1) atomics.And (x c rs2)
action_of (forms.Amomin rd rs1 rs2 aq rl) c = Atomic rd (x c rs1) atomics.Min (x c rs2)
action_of (forms.Amomax rd rs1 rs2 aq rl) c = Atomic rd (x c rs1) atomics.Max (x c rs2)
action_of (forms.Amominu rd rs1 rs2 aq rl) c = Atomic rd (x c rs1) atomics.Minu (x c rs2)
action_of (forms.Amomaxu rd rs1 rs2 aq rl) c = Atomic rd (x c rs1) atomics.Maxu (x c rs2)

-- the register that an action writes is one of the 32
abbrev pub HasRegister : Action → Type 0
HasRegister (Set rd value) = rd < 32
HasRegister (Jump rd target) = rd < 32
HasRegister (Load rd va width signed) = rd < 32
HasRegister (Atomic rd va op operand) = rd < 32
HasRegister _ = Unit {0}
