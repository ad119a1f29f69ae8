-- The assembler's table, mnemonic by mnemonic, and one rule for each shape of operands: the instruction that they are.
use Rattle.std.specs.Prelude.{ℕ, Bool, true, false, ◌==◌, if◌then◌else◌, ℤ, pos, negsuc, List, [], ◌∷◌, length, Option, Some, None, codes}
use Rattle.std.specs.Str.{bytes_eq}
use Rattle.rv32_isa.specs.declared.forms.Instr.{Instr}
use Rattle.rv32_isa.specs.declared.forms.Instr.TheVariants as forms
use Rattle.rv32_asm.specs.declared.forms.Aim.{Aim}
use Rattle.rv32_asm.specs.declared.forms.Aim.TheVariants as aims
use Rattle.text_fields.specs.Reading.{◌>>=◌}
use Rattle.rv32_asm.specs.Fields.{cut, immediate_in, register, bracketed}

-- ---- the table: for each shape of operands the mnemonics that have it, with what each makes of the operands

abbrev pub Table : Type 0 → Type 0
Table F = List (List ℕ × F)

-- what is made with the form of this mnemonic, where the table has one
abbrev pub by_name : {F A : Type 0} → Table F → List ℕ → (F → A) → Option A
by_name [] name make = None
by_name (form ∷ others) name make = if bytes_eq name form.0 then Some (make form.1) else by_name others name make

-- rd, imm: the upper twenty bits, 0 to 1048575
abbrev pub uppers : Table (ℕ → ℤ → Instr)
uppers =
    (codes "lui", forms.Lui) ∷ (codes "auipc", forms.Auipc) ∷ []

-- rd, imm(rs1): -2048 to 2047
abbrev pub loads : Table (ℕ → ℕ → ℤ → Instr)
loads =
    (codes "jalr", forms.Jalr) ∷ (codes "lb", forms.Lb) ∷ (codes "lh", forms.Lh) ∷ (codes "lw", forms.Lw) ∷
    (codes "lbu", forms.Lbu) ∷ (codes "lhu", forms.Lhu) ∷ []

-- rs2, imm(rs1): -2048 to 2047
abbrev pub stores : Table (ℕ → ℕ → ℤ → Instr)
stores =
    (codes "sb", λ rs2 rs1 imm. forms.Sb rs1 rs2 imm) ∷ (codes "sh", λ rs2 rs1 imm. forms.Sh rs1 rs2 imm) ∷
    (codes "sw", λ rs2 rs1 imm. forms.Sw rs1 rs2 imm) ∷ []

-- rd, rs1, imm: -2048 to 2047
abbrev pub immediates : Table (ℕ → ℕ → ℤ → Instr)
immediates =
    (codes "addi", forms.Addi) ∷ (codes "slti", forms.Slti) ∷ (codes "sltiu", forms.Sltiu) ∷
    (codes "xori", forms.Xori) ∷ (codes "ori", forms.Ori) ∷ (codes "andi", forms.Andi) ∷ []

-- rd, rs1, imm: 0 to 31
abbrev pub shifts : Table (ℕ → ℕ → ℤ → Instr)
shifts =
    (codes "slli", forms.Slli) ∷ (codes "srli", forms.Srli) ∷ (codes "srai", forms.Srai) ∷ []

-- rd, rs1, imm: 0 to 4095
abbrev pub fences : Table (ℕ → ℕ → ℤ → Instr)
fences =
    (codes "fence", forms.Fence) ∷ []

-- rd, rs1, rs2
abbrev pub sums : Table (ℕ → ℕ → ℕ → Instr)
sums =
    (codes "add", forms.Add) ∷ (codes "sub", forms.Sub) ∷ (codes "sll", forms.Sll) ∷ (codes "slt", forms.Slt) ∷
    (codes "sltu", forms.Sltu) ∷ (codes "xor", forms.Xor) ∷ (codes "srl", forms.Srl) ∷ (codes "sra", forms.Sra) ∷
    (codes "or", forms.Or) ∷ (codes "and", forms.And) ∷ []

-- rd, rs1, rs2
abbrev pub products : Table (ℕ → ℕ → ℕ → Instr)
products =
    (codes "mul", forms.Mul) ∷ (codes "mulh", forms.Mulh) ∷ (codes "mulhsu", forms.Mulhsu) ∷
    (codes "mulhu", forms.Mulhu) ∷ (codes "div", forms.Div) ∷ (codes "divu", forms.Divu) ∷ (codes "rem", forms.Rem) ∷
    (codes "remu", forms.Remu) ∷ []

-- rd, rs2, (rs1), with .w and the ordering behind the name
abbrev pub atomics : Table (ℕ → ℕ → ℕ → Bool → Bool → Instr)
atomics =
    (codes "amoadd", forms.Amoadd) ∷ (codes "amoswap", forms.Amoswap) ∷ (codes "amoxor", forms.Amoxor) ∷
    (codes "amoor", forms.Amoor) ∷ (codes "amoand", forms.Amoand) ∷ (codes "amomin", forms.Amomin) ∷
    (codes "amomax", forms.Amomax) ∷ (codes "amominu", forms.Amominu) ∷ (codes "amomaxu", forms.Amomaxu) ∷ []

-- what follows the point of an atomic name: whether it acquires, and whether it releases
abbrev pub orderings : Table (Bool × Bool)
orderings =
    (codes "w", (false, false)) ∷ (codes "w.aq", (true, false)) ∷ (codes "w.rl", (false, true)) ∷
    (codes "w.aqrl", (true, true)) ∷ []

-- rs1, rs2, target
abbrev pub branches : Table (ℕ → ℕ → Aim)
branches =
    (codes "beq", aims.Beq) ∷ (codes "bne", aims.Bne) ∷ (codes "blt", aims.Blt) ∷ (codes "bge", aims.Bge) ∷
    (codes "bltu", aims.Bltu) ∷ (codes "bgeu", aims.Bgeu) ∷ []

-- ---- the form of a mnemonic, by the shape of its operands

unfoldable pub upper : List ℕ → ℕ → ℤ → Option Instr
upper name rd imm = by_name uppers name (λ form. form rd imm)

unfoldable pub load : List ℕ → ℕ → ℕ → ℤ → Option Instr
load name rd rs1 imm = by_name loads name (λ form. form rd rs1 imm)

unfoldable pub store : List ℕ → ℕ → ℕ → ℤ → Option Instr
store name rs2 rs1 imm = by_name stores name (λ form. form rs2 rs1 imm)

unfoldable pub immediate_form : List ℕ → ℕ → ℕ → ℤ → Option Instr
immediate_form name rd rs1 imm = by_name immediates name (λ form. form rd rs1 imm)

unfoldable pub shift : List ℕ → ℕ → ℕ → ℤ → Option Instr
shift name rd rs1 imm = by_name shifts name (λ form. form rd rs1 imm)

unfoldable pub fence : List ℕ → ℕ → ℕ → ℤ → Option Instr
fence name rd rs1 imm = by_name fences name (λ form. form rd rs1 imm)

unfoldable pub register_form : List ℕ → ℕ → ℕ → ℕ → Option Instr
register_form name rd rs1 rs2 = by_name sums name (λ form. form rd rs1 rs2)

unfoldable pub product : List ℕ → ℕ → ℕ → ℕ → Option Instr
product name rd rs1 rs2 = by_name products name (λ form. form rd rs1 rs2)

-- by what stands before the point
unfoldable pub atomic : List ℕ → ℕ → ℕ → ℕ → Bool → Bool → Option Instr
atomic name rd rs1 rs2 aq rl = by_name atomics name (λ form. form rd rs1 rs2 aq rl)

unfoldable pub branch : List ℕ → ℕ → ℕ → Option Aim
branch name rs1 rs2 = by_name branches name (λ form. form rs1 rs2)

unfoldable pub ordering : List ℕ → Option (Bool × Bool)
ordering name = by_name orderings name (λ bits. bits)

unfoldable pub atomic_named : List ℕ → ℕ → ℕ → ℕ → Option Instr
atomic_named name rd rs1 rs2 = do
  parts ← cut 46 name
  bits ← ordering parts.1
  atomic parts.0 rd rs1 rs2 bits.0 bits.1

-- the first of two that is there
abbrev pub or_else : {A : Type 0} → Option A → Option A → Option A
or_else (Some x) o = Some x
or_else None o = o

-- a signed immediate of twelve bits
abbrev pub signed_12 : List ℕ → Option ℤ
signed_12 bytes = immediate_in (negsuc 2047) (pos 2047) bytes

-- ---- the rules for two operands, of which the first is a register
-- The second ends in a register in brackets: a load, or else a store. It doesn't: the upper twenty bits.

abbrev pub with_base : List ℕ → ℕ → Option (List ℕ × ℕ) → List ℕ → Option Instr
with_base name r (Some base) bytes = signed_12 base.0 >>= λ imm. or_else (load name r base.1 imm) (store name r base.1 imm)
with_base name r None bytes = immediate_in (pos 0) (pos 1048575) bytes >>= upper name r

unfoldable pub of_two : List ℕ → List ℕ → List ℕ → Option Instr
of_two name a b = register a >>= λ r. with_base name r (bracketed b) b

-- ---- the rules for three operands, of which the first two are registers
-- The third is a register: a sum or its like, or a product or its like. It is a register in brackets: an atomic operation.
-- It is neither: an immediate, in the range of its table.

abbrev pub immediate_at : List ℕ → ℕ → ℕ → List ℕ → Option Instr
immediate_at name rd rs1 bytes = signed_12 bytes >>= immediate_form name rd rs1

abbrev pub shift_at : List ℕ → ℕ → ℕ → List ℕ → Option Instr
shift_at name rd rs1 bytes = immediate_in (pos 0) (pos 31) bytes >>= shift name rd rs1

abbrev pub fence_at : List ℕ → ℕ → ℕ → List ℕ → Option Instr
fence_at name rd rs1 bytes = immediate_in (pos 0) (pos 4095) bytes >>= fence name rd rs1

unfoldable pub with_immediate : List ℕ → ℕ → ℕ → List ℕ → Option Instr
with_immediate name rd rs1 bytes = or_else (immediate_at name rd rs1 bytes) (or_else (shift_at name rd rs1 bytes) (fence_at name rd rs1 bytes))

abbrev pub without_third : List ℕ → ℕ → ℕ → Option (List ℕ × ℕ) → List ℕ → Option Instr
without_third name x y (Some base) bytes = if length base.0 == 0 then atomic_named name x base.1 y else None
without_third name x y None bytes = with_immediate name x y bytes

abbrev pub with_third : List ℕ → ℕ → ℕ → Option ℕ → List ℕ → Option Instr
with_third name x y (Some z) bytes = or_else (register_form name x y z) (product name x y z)
with_third name x y None bytes = without_third name x y (bracketed bytes) bytes

unfoldable pub of_three : List ℕ → ℕ → ℕ → List ℕ → Option Instr
of_three name x y c = with_third name x y (register c) c
