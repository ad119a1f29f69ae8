-- The line that the lister writes for a word.
use Rattle.std.specs.Prelude.{ℕ, ◌+◌, Bool, true, false, ℤ, List, ◌++◌, Option, Some, None, codes}
use Rattle.std.specs.Fmt.{decimal, signed_decimal}
use Rattle.std.specs.List.{flat_map}
use Rattle.rv32_isa.specs.declared.forms.Instr.{Instr}
use Rattle.rv32_isa.specs.declared.forms.Instr.TheVariants as forms
use Rattle.rv32_isa.specs.Table.{instruction_of}
use Rattle.text_fields.specs.Numbers.{word_text}

-- a register is x and its number
abbrev pub register_text : ℕ → List ℕ
register_text n = codes "x" ++ decimal n

-- the operands stand behind a space, with a comma and a space between them
unfoldable pub of_two_text : List ℕ → List ℕ → List ℕ → List ℕ
of_two_text name a b = name ++ (codes " " ++ (a ++ (codes ", " ++ b)))

unfoldable pub of_three_text : List ℕ → List ℕ → List ℕ → List ℕ → List ℕ
of_three_text name a b c = name ++ (codes " " ++ (a ++ (codes ", " ++ (b ++ (codes ", " ++ c)))))

-- an offset and the register that it is added to
abbrev pub based_text : ℤ → ℕ → List ℕ
based_text imm r = signed_decimal imm ++ (codes "(" ++ (register_text r ++ codes ")"))

abbrev pub upper_text : List ℕ → ℕ → ℤ → List ℕ
upper_text name rd imm = of_two_text name (register_text rd) (signed_decimal imm)

abbrev pub memory_text : List ℕ → ℕ → ℤ → ℕ → List ℕ
memory_text name r imm rs1 = of_two_text name (register_text r) (based_text imm rs1)

abbrev pub immediate_text : List ℕ → ℕ → ℕ → ℤ → List ℕ
immediate_text name a b imm = of_three_text name (register_text a) (register_text b) (signed_decimal imm)

abbrev pub registers_text : List ℕ → ℕ → ℕ → ℕ → List ℕ
registers_text name a b c = of_three_text name (register_text a) (register_text b) (register_text c)

-- what follows the name of an atomic operation
abbrev pub ordering_text : Bool → Bool → List ℕ
ordering_text false false = codes ".w"
ordering_text true false = codes ".w.aq"
ordering_text false true = codes ".w.rl"
ordering_text true true = codes ".w.aqrl"

abbrev pub atomic_text : List ℕ → ℕ → ℕ → ℕ → Bool → Bool → List ℕ
atomic_text name rd rs1 rs2 aq rl = of_three_text (name ++ ordering_text aq rl) (register_text rd) (register_text rs2) (codes "(" ++ (register_text rs1 ++ codes ")"))

unfoldable pub instruction_text : Instr → List ℕ
instruction_text (forms.Lui rd imm) = upper_text (codes "lui") rd imm
instruction_text (forms.Auipc rd imm) = upper_text (codes "auipc") rd imm
instruction_text (forms.Jal rd imm) = upper_text (codes "jal") rd imm
instruction_text (forms.Jalr rd rs1 imm) = memory_text (codes "jalr") rd imm rs1
instruction_text (forms.Lb rd rs1 imm) = memory_text (codes "lb") rd imm rs1
instruction_text (forms.Lh rd rs1 imm) = memory_text (codes "lh") rd imm rs1
instruction_text (forms.Lw rd rs1 imm) = memory_text (codes "lw") rd imm rs1
instruction_text (forms.Lbu rd rs1 imm) = memory_text (codes "lbu") rd imm rs1
instruction_text (forms.Lhu rd rs1 imm) = memory_text (codes "lhu") rd imm rs1
instruction_text (forms.Beq rs1 rs2 imm) = immediate_text (codes "beq") rs1 rs2 imm
instruction_text (forms.Bne rs1 rs2 imm) = immediate_text (codes "bne") rs1 rs2 imm
instruction_text (forms.Blt rs1 rs2 imm) = immediate_text (codes "blt") rs1 rs2 imm
instruction_text (forms.Bge rs1 rs2 imm) = immediate_text (codes "bge") rs1 rs2 imm
instruction_text (forms.Bltu rs1 rs2 imm) = immediate_text (codes "bltu") rs1 rs2 imm
instruction_text (forms.Bgeu rs1 rs2 imm) = immediate_text (codes "bgeu") rs1 rs2 imm
instruction_text (forms.Sb rs1 rs2 imm) = memory_text (codes "sb") rs2 imm rs1
instruction_text (forms.Sh rs1 rs2 imm) = memory_text (codes "sh") rs2 imm rs1
instruction_text (forms.Sw rs1 rs2 imm) = memory_text (codes "sw") rs2 imm rs1
instruction_text (forms.Addi rd rs1 imm) = immediate_text (codes "addi") rd rs1 imm
instruction_text (forms.Slti rd rs1 imm) = immediate_text (codes "slti") rd rs1 imm
instruction_text (forms.Sltiu rd rs1 imm) = immediate_text (codes "sltiu") rd rs1 imm
instruction_text (forms.Xori rd rs1 imm) = immediate_text (codes "xori") rd rs1 imm
instruction_text (forms.Ori rd rs1 imm) = immediate_text (codes "ori") rd rs1 imm
instruction_text (forms.Andi rd rs1 imm) = immediate_text (codes "andi") rd rs1 imm
instruction_text (forms.Slli rd rs1 imm) = immediate_text (codes "slli") rd rs1 imm
instruction_text (forms.Srli rd rs1 imm) = immediate_text (codes "srli") rd rs1 imm
instruction_text (forms.Srai rd rs1 imm) = immediate_text (codes "srai") rd rs1 imm
instruction_text (forms.Fence rd rs1 imm) = immediate_text (codes "fence") rd rs1 imm
instruction_text (forms.Add rd rs1 rs2) = registers_text (codes "add") rd rs1 rs2
instruction_text (forms.Sub rd rs1 rs2) = registers_text (codes "sub") rd rs1 rs2
instruction_text (forms.Sll rd rs1 rs2) = registers_text (codes "sll") rd rs1 rs2
instruction_text (forms.Slt rd rs1 rs2) = registers_text (codes "slt") rd rs1 rs2
instruction_text (forms.Sltu rd rs1 rs2) = registers_text (codes "sltu") rd rs1 rs2
instruction_text (forms.Xor rd rs1 rs2) = registers_text (codes "xor") rd rs1 rs2
instruction_text (forms.Srl rd rs1 rs2) = registers_text (codes "srl") rd rs1 rs2
instruction_text (forms.Sra rd rs1 rs2) = registers_text (codes "sra") rd rs1 rs2
instruction_text (forms.Or rd rs1 rs2) = registers_text (codes "or") rd rs1 rs2
instruction_text (forms.And rd rs1 rs2) = registers_text (codes "and") rd rs1 rs2
instruction_text (forms.Mul rd rs1 rs2) = registers_text (codes "mul") rd rs1 rs2
instruction_text (forms.Mulh rd rs1 rs2) = registers_text (codes "mulh") rd rs1 rs2
instruction_text (forms.Mulhsu rd rs1 rs2) = registers_text (codes "mulhsu") rd rs1 rs2
instruction_text (forms.Mulhu rd rs1 rs2) = registers_text (codes "mulhu") rd rs1 rs2
instruction_text (forms.Div rd rs1 rs2) = registers_text (codes "div") rd rs1 rs2
instruction_text (forms.Divu rd rs1 rs2) = registers_text (codes "divu") rd rs1 rs2
instruction_text (forms.Rem rd rs1 rs2) = registers_text (codes "rem") rd rs1 rs2
instruction_text (forms.Remu rd rs1 rs2) = registers_text (codes "remu") rd rs1 rs2
instruction_text forms.Ecall = codes "ecall"
instruction_text forms.Ebreak = codes "ebreak"
instruction_text (forms.Amoadd rd rs1 rs2 aq rl) = atomic_text (codes "amoadd") rd rs1 rs2 aq rl
instruction_text (forms.Amoswap rd rs1 rs2 aq rl) = atomic_text (codes "amoswap") rd rs1 rs2 aq rl
instruction_text (forms.Amoxor rd rs1 rs2 aq rl) = atomic_text (codes "amoxor") rd rs1 rs2 aq rl
instruction_text (forms.Amoor rd rs1 rs2 aq rl) = atomic_text (codes "amoor") rd rs1 rs2 aq rl
instruction_text (forms.Amoand rd rs1 rs2 aq rl) = atomic_text (codes "amoand") rd rs1 rs2 aq rl
instruction_text (forms.Amomin rd rs1 rs2 aq rl) = atomic_text (codes "amomin") rd rs1 rs2 aq rl
instruction_text (forms.Amomax rd rs1 rs2 aq rl) = atomic_text (codes "amomax") rd rs1 rs2 aq rl
instruction_text (forms.Amominu rd rs1 rs2 aq rl) = atomic_text (codes "amominu") rd rs1 rs2 aq rl
instruction_text (forms.Amomaxu rd rs1 rs2 aq rl) = atomic_text (codes "amomaxu") rd rs1 rs2 aq rl

abbrev pub text_or_word : Option Instr → ℕ → List ℕ
text_or_word (Some instr) w = instruction_text instr
text_or_word None w = codes ".word 0x" ++ word_text w

-- a word that is no instruction stands as it is
unfoldable pub line_text : ℕ → List ℕ
line_text w = text_or_word (instruction_of w) w

abbrev pub ended : ℕ → List ℕ
ended w = line_text w ++ codes "\n"

-- one line for each word
abbrev pub listing : List ℕ → List ℕ
listing ws = flat_map ended ws
