-- The line of each form is read as its instruction.
use Rattle.std.proofs.Common.{◌≡◌, ℕ, ◌<◌, Bool, true, false, List, Option, Some, None, refl, arith}
use Rattle.std.specs.Prelude.{ℤ, pos, negsuc, codes}
use Rattle.std.specs.Fmt.{signed_decimal}
use Rattle.std.specs.Str.{bytes_eq}
use Rattle.std.proofs.lemmas.Int.{ints}
use Rattle.rv32_isa.specs.declared.forms.Instr.{Instr}
use Rattle.rv32_isa.specs.declared.forms.Instr.TheVariants as forms
use Rattle.rv32_isa.specs.Table.{IsValid, word_of, LiesFrom, IsSigned12}
use Rattle.rv32_asm.specs.declared.forms.Aim.{Aim}
use Rattle.rv32_asm.specs.declared.forms.Aim.TheVariants as aims
use Rattle.rv32_asm.specs.Fields.{cut, trim_front, immediate_in}
use Rattle.rv32_asm.specs.Forms.{upper, load, store, immediate_form, shift, fence, register_form, product, atomic, branch, ordering, atomic_named, or_else, signed_12, with_immediate, of_two, of_three}
use Rattle.rv32_asm.specs.Line.{Distance, Statement, Word, To, IsEven, of_one, pair, triple, operation, name_and_rest, code_of, label_of}
use Rattle.rv32_asm.specs.Listing.{register_text, based_text, upper_text, memory_text, immediate_text, registers_text, of_three_text, instruction_text}
use Rattle.rv32_asm.proofs.Tokens.{Reads, reads_two, reads_three, reads_along, name_token, IsToken}
use Rattle.rv32_asm.proofs.Values.{IsSmall, ended_by_bracket, bind_none, register_reads, register_token, number_token, based_token, bracket_token, immediate_in_reads, number_no_register, number_no_bracket, target_reads, based_reads, base_reads, bracket_is_no_register}

abbrev word_is : Instr → Option Statement
word_is i = Some (Word (word_of i))

abbrev goes_to : Aim → ℤ → Option Statement
goes_to aim z = Some (To aim (Distance z))

abbrev made : Instr → Option Instr
made i = Some i

-- ---- two operands

pair_upper : (name : List ℕ) (rd : ℕ) (imm : ℤ) (i : Instr) → bytes_eq name (codes "jal") ≡ false → upper name rd imm ≡ made i → rd < 32 → LiesFrom (pos 0) (pos 1048575) imm → IsSmall imm → pair name (register_text rd) (signed_decimal imm) ≡ word_is i
unfolding pair of_two
pair_upper name rd imm i other e lt range small = rw (other, register_reads rd lt, number_no_bracket imm small, immediate_in_reads (pos 0) (pos 1048575) imm range small, e) refl

pair_jump : (rd : ℕ) (imm : ℤ) → rd < 32 → IsSmall imm → IsEven imm → pair (codes "jal") (register_text rd) (signed_decimal imm) ≡ goes_to (aims.Jal rd) imm
unfolding pair
pair_jump rd imm lt small even = rw (register_reads rd lt, target_reads imm small even) refl

pair_memory : (name : List ℕ) (r : ℕ) (imm : ℤ) (rs1 : ℕ) (i : Instr) → bytes_eq name (codes "jal") ≡ false → or_else (load name r rs1 imm) (store name r rs1 imm) ≡ made i → r < 32 → rs1 < 32 → IsSigned12 imm → IsSmall imm → pair name (register_text r) (based_text imm rs1) ≡ word_is i
unfolding pair of_two
pair_memory name r imm rs1 i other e lt low range small = rw (other, register_reads r lt, based_reads imm rs1 small low, immediate_in_reads (negsuc 2047) (pos 2047) imm range small, e) refl

-- ---- three operands

triple_registers : (name : List ℕ) (a b c : ℕ) (i : Instr) → branch name a b ≡ None → or_else (register_form name a b c) (product name a b c) ≡ made i → a < 32 → b < 32 → c < 32 → triple name (register_text a) (register_text b) (register_text c) ≡ word_is i
unfolding triple of_three
triple_registers name a b c i none e la lb lc = rw (register_reads a la, register_reads b lb, none, register_reads c lc, e) refl

triple_branch : (name : List ℕ) (a b : ℕ) (imm : ℤ) (aim : Aim) → branch name a b ≡ Some aim → a < 32 → b < 32 → IsSmall imm → IsEven imm → triple name (register_text a) (register_text b) (signed_decimal imm) ≡ goes_to aim imm
unfolding triple
triple_branch name a b imm aim e la lb small even = rw (register_reads a la, register_reads b lb, e, target_reads imm small even) refl

triple_immediate : (name : List ℕ) (a b : ℕ) (imm : ℤ) (i : Instr) → branch name a b ≡ None → with_immediate name a b (signed_decimal imm) ≡ made i → a < 32 → b < 32 → IsSmall imm → triple name (register_text a) (register_text b) (signed_decimal imm) ≡ word_is i
unfolding triple of_three
triple_immediate name a b imm i none e la lb small = rw (register_reads a la, register_reads b lb, none, number_no_register imm small, number_no_bracket imm small, e) refl

triple_atomic : (name : List ℕ) (rd rs1 rs2 : ℕ) (i : Instr) → branch name rd rs2 ≡ None → atomic_named name rd rs1 rs2 ≡ made i → rd < 32 → rs1 < 32 → rs2 < 32 → triple name (register_text rd) (register_text rs2) (ended_by_bracket rs1) ≡ word_is i
unfolding triple of_three
triple_atomic name rd rs1 rs2 i none e ld l1 l2 = rw (register_reads rd ld, register_reads rs2 l2, none, bracket_is_no_register rs1, base_reads rs1 l1, e) refl

-- ---- immediates

sum_reads : (name : List ℕ) (a b : ℕ) (imm : ℤ) (i : Instr) → immediate_form name a b imm ≡ made i → IsSigned12 imm → IsSmall imm → with_immediate name a b (signed_decimal imm) ≡ made i
unfolding with_immediate
sum_reads name a b imm i e range small = rw (immediate_in_reads (negsuc 2047) (pos 2047) imm range small, e) refl

shift_reads : (name : List ℕ) (a b : ℕ) (imm : ℤ) (i : Instr) → ((z : ℤ) → immediate_form name a b z ≡ None) → shift name a b imm ≡ made i → LiesFrom (pos 0) (pos 31) imm → IsSmall imm → with_immediate name a b (signed_decimal imm) ≡ made i
unfolding with_immediate
shift_reads name a b imm i none e range small = rw (bind_none (signed_12 (signed_decimal imm)) (immediate_form name a b) none, immediate_in_reads (pos 0) (pos 31) imm range small, e) refl

fence_reads : (a b : ℕ) (imm : ℤ) → LiesFrom (pos 0) (pos 4095) imm → IsSmall imm → with_immediate (codes "fence") a b (signed_decimal imm) ≡ made (forms.Fence a b imm)
unfolding with_immediate immediate_form shift fence
fence_reads a b imm range small = rw (bind_none (signed_12 (signed_decimal imm)) (immediate_form (codes "fence") a b) (λ z. refl), bind_none (immediate_in (pos 0) (pos 31) (signed_decimal imm)) (shift (codes "fence") a b) (λ z. refl), immediate_in_reads (pos 0) (pos 4095) imm range small) refl

-- ---- lines

upper_line : (name : List ℕ) (rd : ℕ) (imm : ℤ) (i : Instr) → IsToken name → bytes_eq name (codes "jal") ≡ false → upper name rd imm ≡ made i → rd < 32 → LiesFrom (pos 0) (pos 1048575) imm → Reads (upper_text name rd imm) (word_is i)
upper_line name rd imm i n other e lt range =
    let small : IsSmall imm = omega (arith, ints, range.0, range.1) in
    reads_along _ _ _ (reads_two name (register_text rd) (signed_decimal imm) n (register_token rd lt) (number_token imm small)) (pair_upper name rd imm i other e lt range small)

memory_line : (name : List ℕ) (r : ℕ) (imm : ℤ) (rs1 : ℕ) (i : Instr) → IsToken name → bytes_eq name (codes "jal") ≡ false → or_else (load name r rs1 imm) (store name r rs1 imm) ≡ made i → r < 32 → rs1 < 32 → IsSigned12 imm → Reads (memory_text name r imm rs1) (word_is i)
memory_line name r imm rs1 i n other e lt low range =
    let small : IsSmall imm = omega (arith, ints, range.0, range.1) in
    reads_along _ _ _ (reads_two name (register_text r) (based_text imm rs1) n (register_token r lt) (based_token imm rs1 small low)) (pair_memory name r imm rs1 i other e lt low range small)

jump_line : (rd : ℕ) (imm : ℤ) → rd < 32 → LiesFrom (negsuc 1048575) (pos 1048574) imm → IsEven imm → Reads (upper_text (codes "jal") rd imm) (goes_to (aims.Jal rd) imm)
jump_line rd imm lt range even =
    let small : IsSmall imm = omega (arith, ints, range.0, range.1) in
    reads_along _ _ _ (reads_two (codes "jal") (register_text rd) (signed_decimal imm) (name_token _ _ refl refl refl refl) (register_token rd lt) (number_token imm small)) (pair_jump rd imm lt small even)

branch_line : (name : List ℕ) (a b : ℕ) (imm : ℤ) (aim : Aim) → IsToken name → branch name a b ≡ Some aim → a < 32 → b < 32 → LiesFrom (negsuc 4095) (pos 4094) imm → IsEven imm → Reads (immediate_text name a b imm) (goes_to aim imm)
branch_line name a b imm aim n e la lb range even =
    let small : IsSmall imm = omega (arith, ints, range.0, range.1) in
    reads_along _ _ _ (reads_three name (register_text a) (register_text b) (signed_decimal imm) n (register_token a la) (register_token b lb) (number_token imm small)) (triple_branch name a b imm aim e la lb small even)

immediate_line : (name : List ℕ) (a b : ℕ) (imm : ℤ) (i : Instr) → IsToken name → branch name a b ≡ None → with_immediate name a b (signed_decimal imm) ≡ made i → a < 32 → b < 32 → IsSmall imm → Reads (immediate_text name a b imm) (word_is i)
immediate_line name a b imm i n none e la lb small =
    reads_along _ _ _ (reads_three name (register_text a) (register_text b) (signed_decimal imm) n (register_token a la) (register_token b lb) (number_token imm small)) (triple_immediate name a b imm i none e la lb small)

sum_line : (name : List ℕ) (a b : ℕ) (imm : ℤ) (i : Instr) → IsToken name → branch name a b ≡ None → immediate_form name a b imm ≡ made i → a < 32 → b < 32 → IsSigned12 imm → Reads (immediate_text name a b imm) (word_is i)
sum_line name a b imm i n none e la lb range =
    let small : IsSmall imm = omega (arith, ints, range.0, range.1) in
    immediate_line name a b imm i n none (sum_reads name a b imm i e range small) la lb small

shift_line : (name : List ℕ) (a b : ℕ) (imm : ℤ) (i : Instr) → IsToken name → branch name a b ≡ None → ((z : ℤ) → immediate_form name a b z ≡ None) → shift name a b imm ≡ made i → a < 32 → b < 32 → LiesFrom (pos 0) (pos 31) imm → Reads (immediate_text name a b imm) (word_is i)
shift_line name a b imm i n none other e la lb range =
    let small : IsSmall imm = omega (arith, ints, range.0, range.1) in
    immediate_line name a b imm i n none (shift_reads name a b imm i other e range small) la lb small

registers_line : (name : List ℕ) (a b c : ℕ) (i : Instr) → IsToken name → branch name a b ≡ None → or_else (register_form name a b c) (product name a b c) ≡ made i → a < 32 → b < 32 → c < 32 → Reads (registers_text name a b c) (word_is i)
registers_line name a b c i n none e la lb lc =
    reads_along _ _ _ (reads_three name (register_text a) (register_text b) (register_text c) n (register_token a la) (register_token b lb) (register_token c lc)) (triple_registers name a b c i none e la lb lc)

atomic_line : (name : List ℕ) (rd rs1 rs2 : ℕ) (i : Instr) → IsToken name → branch name rd rs2 ≡ None → atomic_named name rd rs1 rs2 ≡ made i → rd < 32 → rs1 < 32 → rs2 < 32 → Reads (of_three_text name (register_text rd) (register_text rs2) (ended_by_bracket rs1)) (word_is i)
atomic_line name rd rs1 rs2 i n none e ld l1 l2 =
    reads_along _ _ _ (reads_three name (register_text rd) (register_text rs2) (ended_by_bracket rs1) n (register_token rd ld) (register_token rs2 l2) (bracket_token rs1 l1)) (triple_atomic name rd rs1 rs2 i none e ld l1 l2)

-- what the line of an instruction says: its word, or how far it goes
abbrev pub said : Instr → Option Statement
said (forms.Jal rd imm) = goes_to (aims.Jal rd) imm
said (forms.Beq rs1 rs2 imm) = goes_to (aims.Beq rs1 rs2) imm
said (forms.Bne rs1 rs2 imm) = goes_to (aims.Bne rs1 rs2) imm
said (forms.Blt rs1 rs2 imm) = goes_to (aims.Blt rs1 rs2) imm
said (forms.Bge rs1 rs2 imm) = goes_to (aims.Bge rs1 rs2) imm
said (forms.Bltu rs1 rs2 imm) = goes_to (aims.Bltu rs1 rs2) imm
said (forms.Bgeu rs1 rs2 imm) = goes_to (aims.Bgeu rs1 rs2) imm
said (forms.Lui rd imm) = word_is (forms.Lui rd imm)
said (forms.Auipc rd imm) = word_is (forms.Auipc rd imm)
said (forms.Jalr rd rs1 imm) = word_is (forms.Jalr rd rs1 imm)
said (forms.Lb rd rs1 imm) = word_is (forms.Lb rd rs1 imm)
said (forms.Lh rd rs1 imm) = word_is (forms.Lh rd rs1 imm)
said (forms.Lw rd rs1 imm) = word_is (forms.Lw rd rs1 imm)
said (forms.Lbu rd rs1 imm) = word_is (forms.Lbu rd rs1 imm)
said (forms.Lhu rd rs1 imm) = word_is (forms.Lhu rd rs1 imm)
said (forms.Addi rd rs1 imm) = word_is (forms.Addi rd rs1 imm)
said (forms.Slti rd rs1 imm) = word_is (forms.Slti rd rs1 imm)
said (forms.Sltiu rd rs1 imm) = word_is (forms.Sltiu rd rs1 imm)
said (forms.Xori rd rs1 imm) = word_is (forms.Xori rd rs1 imm)
said (forms.Ori rd rs1 imm) = word_is (forms.Ori rd rs1 imm)
said (forms.Andi rd rs1 imm) = word_is (forms.Andi rd rs1 imm)
said (forms.Slli rd rs1 imm) = word_is (forms.Slli rd rs1 imm)
said (forms.Srli rd rs1 imm) = word_is (forms.Srli rd rs1 imm)
said (forms.Srai rd rs1 imm) = word_is (forms.Srai rd rs1 imm)
said (forms.Fence rd rs1 imm) = word_is (forms.Fence rd rs1 imm)
said (forms.Sb rs1 rs2 imm) = word_is (forms.Sb rs1 rs2 imm)
said (forms.Sh rs1 rs2 imm) = word_is (forms.Sh rs1 rs2 imm)
said (forms.Sw rs1 rs2 imm) = word_is (forms.Sw rs1 rs2 imm)
said (forms.Add rd rs1 rs2) = word_is (forms.Add rd rs1 rs2)
said (forms.Sub rd rs1 rs2) = word_is (forms.Sub rd rs1 rs2)
said (forms.Sll rd rs1 rs2) = word_is (forms.Sll rd rs1 rs2)
said (forms.Slt rd rs1 rs2) = word_is (forms.Slt rd rs1 rs2)
said (forms.Sltu rd rs1 rs2) = word_is (forms.Sltu rd rs1 rs2)
said (forms.Xor rd rs1 rs2) = word_is (forms.Xor rd rs1 rs2)
said (forms.Srl rd rs1 rs2) = word_is (forms.Srl rd rs1 rs2)
said (forms.Sra rd rs1 rs2) = word_is (forms.Sra rd rs1 rs2)
said (forms.Or rd rs1 rs2) = word_is (forms.Or rd rs1 rs2)
said (forms.And rd rs1 rs2) = word_is (forms.And rd rs1 rs2)
said (forms.Mul rd rs1 rs2) = word_is (forms.Mul rd rs1 rs2)
said (forms.Mulh rd rs1 rs2) = word_is (forms.Mulh rd rs1 rs2)
said (forms.Mulhsu rd rs1 rs2) = word_is (forms.Mulhsu rd rs1 rs2)
said (forms.Mulhu rd rs1 rs2) = word_is (forms.Mulhu rd rs1 rs2)
said (forms.Div rd rs1 rs2) = word_is (forms.Div rd rs1 rs2)
said (forms.Divu rd rs1 rs2) = word_is (forms.Divu rd rs1 rs2)
said (forms.Rem rd rs1 rs2) = word_is (forms.Rem rd rs1 rs2)
said (forms.Remu rd rs1 rs2) = word_is (forms.Remu rd rs1 rs2)
said (forms.Amoadd rd rs1 rs2 aq rl) = word_is (forms.Amoadd rd rs1 rs2 aq rl)
said (forms.Amoswap rd rs1 rs2 aq rl) = word_is (forms.Amoswap rd rs1 rs2 aq rl)
said (forms.Amoxor rd rs1 rs2 aq rl) = word_is (forms.Amoxor rd rs1 rs2 aq rl)
said (forms.Amoor rd rs1 rs2 aq rl) = word_is (forms.Amoor rd rs1 rs2 aq rl)
said (forms.Amoand rd rs1 rs2 aq rl) = word_is (forms.Amoand rd rs1 rs2 aq rl)
said (forms.Amomin rd rs1 rs2 aq rl) = word_is (forms.Amomin rd rs1 rs2 aq rl)
said (forms.Amomax rd rs1 rs2 aq rl) = word_is (forms.Amomax rd rs1 rs2 aq rl)
said (forms.Amominu rd rs1 rs2 aq rl) = word_is (forms.Amominu rd rs1 rs2 aq rl)
said (forms.Amomaxu rd rs1 rs2 aq rl) = word_is (forms.Amomaxu rd rs1 rs2 aq rl)
said forms.Ecall = word_is forms.Ecall
said forms.Ebreak = word_is forms.Ebreak

abbrev IsAgain : Instr → Type 0
IsAgain i = Reads (instruction_text i) (said i)

lui_again : (rd : ℕ) (imm : ℤ) → IsValid (forms.Lui rd imm) → IsAgain (forms.Lui rd imm)
unfolding instruction_text IsValid upper
lui_again rd imm h = upper_line (codes "lui") rd imm (forms.Lui rd imm) (name_token _ _ refl refl refl refl) refl refl h.0 h.1

auipc_again : (rd : ℕ) (imm : ℤ) → IsValid (forms.Auipc rd imm) → IsAgain (forms.Auipc rd imm)
unfolding instruction_text IsValid upper
auipc_again rd imm h = upper_line (codes "auipc") rd imm (forms.Auipc rd imm) (name_token _ _ refl refl refl refl) refl refl h.0 h.1

jal_again : (rd : ℕ) (imm : ℤ) → IsValid (forms.Jal rd imm) → IsAgain (forms.Jal rd imm)
unfolding instruction_text IsValid
jal_again rd imm h = jump_line rd imm h.0 h.1.0 h.1.1

jalr_again : (rd rs1 : ℕ) (imm : ℤ) → IsValid (forms.Jalr rd rs1 imm) → IsAgain (forms.Jalr rd rs1 imm)
unfolding instruction_text IsValid load store
jalr_again rd rs1 imm h = memory_line (codes "jalr") rd imm rs1 (forms.Jalr rd rs1 imm) (name_token _ _ refl refl refl refl) refl refl h.0 h.1 h.2

lb_again : (rd rs1 : ℕ) (imm : ℤ) → IsValid (forms.Lb rd rs1 imm) → IsAgain (forms.Lb rd rs1 imm)
unfolding instruction_text IsValid load store
lb_again rd rs1 imm h = memory_line (codes "lb") rd imm rs1 (forms.Lb rd rs1 imm) (name_token _ _ refl refl refl refl) refl refl h.0 h.1 h.2

lh_again : (rd rs1 : ℕ) (imm : ℤ) → IsValid (forms.Lh rd rs1 imm) → IsAgain (forms.Lh rd rs1 imm)
unfolding instruction_text IsValid load store
lh_again rd rs1 imm h = memory_line (codes "lh") rd imm rs1 (forms.Lh rd rs1 imm) (name_token _ _ refl refl refl refl) refl refl h.0 h.1 h.2

lw_again : (rd rs1 : ℕ) (imm : ℤ) → IsValid (forms.Lw rd rs1 imm) → IsAgain (forms.Lw rd rs1 imm)
unfolding instruction_text IsValid load store
lw_again rd rs1 imm h = memory_line (codes "lw") rd imm rs1 (forms.Lw rd rs1 imm) (name_token _ _ refl refl refl refl) refl refl h.0 h.1 h.2

lbu_again : (rd rs1 : ℕ) (imm : ℤ) → IsValid (forms.Lbu rd rs1 imm) → IsAgain (forms.Lbu rd rs1 imm)
unfolding instruction_text IsValid load store
lbu_again rd rs1 imm h = memory_line (codes "lbu") rd imm rs1 (forms.Lbu rd rs1 imm) (name_token _ _ refl refl refl refl) refl refl h.0 h.1 h.2

lhu_again : (rd rs1 : ℕ) (imm : ℤ) → IsValid (forms.Lhu rd rs1 imm) → IsAgain (forms.Lhu rd rs1 imm)
unfolding instruction_text IsValid load store
lhu_again rd rs1 imm h = memory_line (codes "lhu") rd imm rs1 (forms.Lhu rd rs1 imm) (name_token _ _ refl refl refl refl) refl refl h.0 h.1 h.2

sb_again : (rs1 rs2 : ℕ) (imm : ℤ) → IsValid (forms.Sb rs1 rs2 imm) → IsAgain (forms.Sb rs1 rs2 imm)
unfolding instruction_text IsValid load store
sb_again rs1 rs2 imm h = memory_line (codes "sb") rs2 imm rs1 (forms.Sb rs1 rs2 imm) (name_token _ _ refl refl refl refl) refl refl h.1 h.0 h.2

sh_again : (rs1 rs2 : ℕ) (imm : ℤ) → IsValid (forms.Sh rs1 rs2 imm) → IsAgain (forms.Sh rs1 rs2 imm)
unfolding instruction_text IsValid load store
sh_again rs1 rs2 imm h = memory_line (codes "sh") rs2 imm rs1 (forms.Sh rs1 rs2 imm) (name_token _ _ refl refl refl refl) refl refl h.1 h.0 h.2

sw_again : (rs1 rs2 : ℕ) (imm : ℤ) → IsValid (forms.Sw rs1 rs2 imm) → IsAgain (forms.Sw rs1 rs2 imm)
unfolding instruction_text IsValid load store
sw_again rs1 rs2 imm h = memory_line (codes "sw") rs2 imm rs1 (forms.Sw rs1 rs2 imm) (name_token _ _ refl refl refl refl) refl refl h.1 h.0 h.2

beq_again : (rs1 rs2 : ℕ) (imm : ℤ) → IsValid (forms.Beq rs1 rs2 imm) → IsAgain (forms.Beq rs1 rs2 imm)
unfolding instruction_text IsValid branch
beq_again rs1 rs2 imm h = branch_line (codes "beq") rs1 rs2 imm (aims.Beq rs1 rs2) (name_token _ _ refl refl refl refl) refl h.0 h.1 h.2.0 h.2.1

bne_again : (rs1 rs2 : ℕ) (imm : ℤ) → IsValid (forms.Bne rs1 rs2 imm) → IsAgain (forms.Bne rs1 rs2 imm)
unfolding instruction_text IsValid branch
bne_again rs1 rs2 imm h = branch_line (codes "bne") rs1 rs2 imm (aims.Bne rs1 rs2) (name_token _ _ refl refl refl refl) refl h.0 h.1 h.2.0 h.2.1

blt_again : (rs1 rs2 : ℕ) (imm : ℤ) → IsValid (forms.Blt rs1 rs2 imm) → IsAgain (forms.Blt rs1 rs2 imm)
unfolding instruction_text IsValid branch
blt_again rs1 rs2 imm h = branch_line (codes "blt") rs1 rs2 imm (aims.Blt rs1 rs2) (name_token _ _ refl refl refl refl) refl h.0 h.1 h.2.0 h.2.1

bge_again : (rs1 rs2 : ℕ) (imm : ℤ) → IsValid (forms.Bge rs1 rs2 imm) → IsAgain (forms.Bge rs1 rs2 imm)
unfolding instruction_text IsValid branch
bge_again rs1 rs2 imm h = branch_line (codes "bge") rs1 rs2 imm (aims.Bge rs1 rs2) (name_token _ _ refl refl refl refl) refl h.0 h.1 h.2.0 h.2.1

bltu_again : (rs1 rs2 : ℕ) (imm : ℤ) → IsValid (forms.Bltu rs1 rs2 imm) → IsAgain (forms.Bltu rs1 rs2 imm)
unfolding instruction_text IsValid branch
bltu_again rs1 rs2 imm h = branch_line (codes "bltu") rs1 rs2 imm (aims.Bltu rs1 rs2) (name_token _ _ refl refl refl refl) refl h.0 h.1 h.2.0 h.2.1

bgeu_again : (rs1 rs2 : ℕ) (imm : ℤ) → IsValid (forms.Bgeu rs1 rs2 imm) → IsAgain (forms.Bgeu rs1 rs2 imm)
unfolding instruction_text IsValid branch
bgeu_again rs1 rs2 imm h = branch_line (codes "bgeu") rs1 rs2 imm (aims.Bgeu rs1 rs2) (name_token _ _ refl refl refl refl) refl h.0 h.1 h.2.0 h.2.1

addi_again : (rd rs1 : ℕ) (imm : ℤ) → IsValid (forms.Addi rd rs1 imm) → IsAgain (forms.Addi rd rs1 imm)
unfolding instruction_text IsValid branch immediate_form
addi_again rd rs1 imm h = sum_line (codes "addi") rd rs1 imm (forms.Addi rd rs1 imm) (name_token _ _ refl refl refl refl) refl refl h.0 h.1 h.2

slti_again : (rd rs1 : ℕ) (imm : ℤ) → IsValid (forms.Slti rd rs1 imm) → IsAgain (forms.Slti rd rs1 imm)
unfolding instruction_text IsValid branch immediate_form
slti_again rd rs1 imm h = sum_line (codes "slti") rd rs1 imm (forms.Slti rd rs1 imm) (name_token _ _ refl refl refl refl) refl refl h.0 h.1 h.2

sltiu_again : (rd rs1 : ℕ) (imm : ℤ) → IsValid (forms.Sltiu rd rs1 imm) → IsAgain (forms.Sltiu rd rs1 imm)
unfolding instruction_text IsValid branch immediate_form
sltiu_again rd rs1 imm h = sum_line (codes "sltiu") rd rs1 imm (forms.Sltiu rd rs1 imm) (name_token _ _ refl refl refl refl) refl refl h.0 h.1 h.2

xori_again : (rd rs1 : ℕ) (imm : ℤ) → IsValid (forms.Xori rd rs1 imm) → IsAgain (forms.Xori rd rs1 imm)
unfolding instruction_text IsValid branch immediate_form
xori_again rd rs1 imm h = sum_line (codes "xori") rd rs1 imm (forms.Xori rd rs1 imm) (name_token _ _ refl refl refl refl) refl refl h.0 h.1 h.2

ori_again : (rd rs1 : ℕ) (imm : ℤ) → IsValid (forms.Ori rd rs1 imm) → IsAgain (forms.Ori rd rs1 imm)
unfolding instruction_text IsValid branch immediate_form
ori_again rd rs1 imm h = sum_line (codes "ori") rd rs1 imm (forms.Ori rd rs1 imm) (name_token _ _ refl refl refl refl) refl refl h.0 h.1 h.2

andi_again : (rd rs1 : ℕ) (imm : ℤ) → IsValid (forms.Andi rd rs1 imm) → IsAgain (forms.Andi rd rs1 imm)
unfolding instruction_text IsValid branch immediate_form
andi_again rd rs1 imm h = sum_line (codes "andi") rd rs1 imm (forms.Andi rd rs1 imm) (name_token _ _ refl refl refl refl) refl refl h.0 h.1 h.2

slli_again : (rd rs1 : ℕ) (imm : ℤ) → IsValid (forms.Slli rd rs1 imm) → IsAgain (forms.Slli rd rs1 imm)
unfolding instruction_text IsValid branch immediate_form shift
slli_again rd rs1 imm h = shift_line (codes "slli") rd rs1 imm (forms.Slli rd rs1 imm) (name_token _ _ refl refl refl refl) refl (λ z. refl) refl h.0 h.1 h.2

srli_again : (rd rs1 : ℕ) (imm : ℤ) → IsValid (forms.Srli rd rs1 imm) → IsAgain (forms.Srli rd rs1 imm)
unfolding instruction_text IsValid branch immediate_form shift
srli_again rd rs1 imm h = shift_line (codes "srli") rd rs1 imm (forms.Srli rd rs1 imm) (name_token _ _ refl refl refl refl) refl (λ z. refl) refl h.0 h.1 h.2

srai_again : (rd rs1 : ℕ) (imm : ℤ) → IsValid (forms.Srai rd rs1 imm) → IsAgain (forms.Srai rd rs1 imm)
unfolding instruction_text IsValid branch immediate_form shift
srai_again rd rs1 imm h = shift_line (codes "srai") rd rs1 imm (forms.Srai rd rs1 imm) (name_token _ _ refl refl refl refl) refl (λ z. refl) refl h.0 h.1 h.2

fence_again : (rd rs1 : ℕ) (imm : ℤ) → IsValid (forms.Fence rd rs1 imm) → IsAgain (forms.Fence rd rs1 imm)
unfolding instruction_text IsValid branch
fence_again rd rs1 imm h =
    let small : IsSmall imm = omega (arith, ints, h.2.0, h.2.1) in
    immediate_line (codes "fence") rd rs1 imm (forms.Fence rd rs1 imm) (name_token _ _ refl refl refl refl) refl (fence_reads rd rs1 imm h.2 small) h.0 h.1 small

add_again : (rd rs1 rs2 : ℕ) → IsValid (forms.Add rd rs1 rs2) → IsAgain (forms.Add rd rs1 rs2)
unfolding instruction_text IsValid branch register_form product
add_again rd rs1 rs2 h = registers_line (codes "add") rd rs1 rs2 (forms.Add rd rs1 rs2) (name_token _ _ refl refl refl refl) refl refl h.0 h.1 h.2

sub_again : (rd rs1 rs2 : ℕ) → IsValid (forms.Sub rd rs1 rs2) → IsAgain (forms.Sub rd rs1 rs2)
unfolding instruction_text IsValid branch register_form product
sub_again rd rs1 rs2 h = registers_line (codes "sub") rd rs1 rs2 (forms.Sub rd rs1 rs2) (name_token _ _ refl refl refl refl) refl refl h.0 h.1 h.2

sll_again : (rd rs1 rs2 : ℕ) → IsValid (forms.Sll rd rs1 rs2) → IsAgain (forms.Sll rd rs1 rs2)
unfolding instruction_text IsValid branch register_form product
sll_again rd rs1 rs2 h = registers_line (codes "sll") rd rs1 rs2 (forms.Sll rd rs1 rs2) (name_token _ _ refl refl refl refl) refl refl h.0 h.1 h.2

slt_again : (rd rs1 rs2 : ℕ) → IsValid (forms.Slt rd rs1 rs2) → IsAgain (forms.Slt rd rs1 rs2)
unfolding instruction_text IsValid branch register_form product
slt_again rd rs1 rs2 h = registers_line (codes "slt") rd rs1 rs2 (forms.Slt rd rs1 rs2) (name_token _ _ refl refl refl refl) refl refl h.0 h.1 h.2

sltu_again : (rd rs1 rs2 : ℕ) → IsValid (forms.Sltu rd rs1 rs2) → IsAgain (forms.Sltu rd rs1 rs2)
unfolding instruction_text IsValid branch register_form product
sltu_again rd rs1 rs2 h = registers_line (codes "sltu") rd rs1 rs2 (forms.Sltu rd rs1 rs2) (name_token _ _ refl refl refl refl) refl refl h.0 h.1 h.2

xor_again : (rd rs1 rs2 : ℕ) → IsValid (forms.Xor rd rs1 rs2) → IsAgain (forms.Xor rd rs1 rs2)
unfolding instruction_text IsValid branch register_form product
xor_again rd rs1 rs2 h = registers_line (codes "xor") rd rs1 rs2 (forms.Xor rd rs1 rs2) (name_token _ _ refl refl refl refl) refl refl h.0 h.1 h.2

srl_again : (rd rs1 rs2 : ℕ) → IsValid (forms.Srl rd rs1 rs2) → IsAgain (forms.Srl rd rs1 rs2)
unfolding instruction_text IsValid branch register_form product
srl_again rd rs1 rs2 h = registers_line (codes "srl") rd rs1 rs2 (forms.Srl rd rs1 rs2) (name_token _ _ refl refl refl refl) refl refl h.0 h.1 h.2

sra_again : (rd rs1 rs2 : ℕ) → IsValid (forms.Sra rd rs1 rs2) → IsAgain (forms.Sra rd rs1 rs2)
unfolding instruction_text IsValid branch register_form product
sra_again rd rs1 rs2 h = registers_line (codes "sra") rd rs1 rs2 (forms.Sra rd rs1 rs2) (name_token _ _ refl refl refl refl) refl refl h.0 h.1 h.2

or_again : (rd rs1 rs2 : ℕ) → IsValid (forms.Or rd rs1 rs2) → IsAgain (forms.Or rd rs1 rs2)
unfolding instruction_text IsValid branch register_form product
or_again rd rs1 rs2 h = registers_line (codes "or") rd rs1 rs2 (forms.Or rd rs1 rs2) (name_token _ _ refl refl refl refl) refl refl h.0 h.1 h.2

and_again : (rd rs1 rs2 : ℕ) → IsValid (forms.And rd rs1 rs2) → IsAgain (forms.And rd rs1 rs2)
unfolding instruction_text IsValid branch register_form product
and_again rd rs1 rs2 h = registers_line (codes "and") rd rs1 rs2 (forms.And rd rs1 rs2) (name_token _ _ refl refl refl refl) refl refl h.0 h.1 h.2

mul_again : (rd rs1 rs2 : ℕ) → IsValid (forms.Mul rd rs1 rs2) → IsAgain (forms.Mul rd rs1 rs2)
unfolding instruction_text IsValid branch register_form product
mul_again rd rs1 rs2 h = registers_line (codes "mul") rd rs1 rs2 (forms.Mul rd rs1 rs2) (name_token _ _ refl refl refl refl) refl refl h.0 h.1 h.2

mulh_again : (rd rs1 rs2 : ℕ) → IsValid (forms.Mulh rd rs1 rs2) → IsAgain (forms.Mulh rd rs1 rs2)
unfolding instruction_text IsValid branch register_form product
mulh_again rd rs1 rs2 h = registers_line (codes "mulh") rd rs1 rs2 (forms.Mulh rd rs1 rs2) (name_token _ _ refl refl refl refl) refl refl h.0 h.1 h.2

mulhsu_again : (rd rs1 rs2 : ℕ) → IsValid (forms.Mulhsu rd rs1 rs2) → IsAgain (forms.Mulhsu rd rs1 rs2)
unfolding instruction_text IsValid branch register_form product
mulhsu_again rd rs1 rs2 h = registers_line (codes "mulhsu") rd rs1 rs2 (forms.Mulhsu rd rs1 rs2) (name_token _ _ refl refl refl refl) refl refl h.0 h.1 h.2

mulhu_again : (rd rs1 rs2 : ℕ) → IsValid (forms.Mulhu rd rs1 rs2) → IsAgain (forms.Mulhu rd rs1 rs2)
unfolding instruction_text IsValid branch register_form product
mulhu_again rd rs1 rs2 h = registers_line (codes "mulhu") rd rs1 rs2 (forms.Mulhu rd rs1 rs2) (name_token _ _ refl refl refl refl) refl refl h.0 h.1 h.2

div_again : (rd rs1 rs2 : ℕ) → IsValid (forms.Div rd rs1 rs2) → IsAgain (forms.Div rd rs1 rs2)
unfolding instruction_text IsValid branch register_form product
div_again rd rs1 rs2 h = registers_line (codes "div") rd rs1 rs2 (forms.Div rd rs1 rs2) (name_token _ _ refl refl refl refl) refl refl h.0 h.1 h.2

divu_again : (rd rs1 rs2 : ℕ) → IsValid (forms.Divu rd rs1 rs2) → IsAgain (forms.Divu rd rs1 rs2)
unfolding instruction_text IsValid branch register_form product
divu_again rd rs1 rs2 h = registers_line (codes "divu") rd rs1 rs2 (forms.Divu rd rs1 rs2) (name_token _ _ refl refl refl refl) refl refl h.0 h.1 h.2

rem_again : (rd rs1 rs2 : ℕ) → IsValid (forms.Rem rd rs1 rs2) → IsAgain (forms.Rem rd rs1 rs2)
unfolding instruction_text IsValid branch register_form product
rem_again rd rs1 rs2 h = registers_line (codes "rem") rd rs1 rs2 (forms.Rem rd rs1 rs2) (name_token _ _ refl refl refl refl) refl refl h.0 h.1 h.2

remu_again : (rd rs1 rs2 : ℕ) → IsValid (forms.Remu rd rs1 rs2) → IsAgain (forms.Remu rd rs1 rs2)
unfolding instruction_text IsValid branch register_form product
remu_again rd rs1 rs2 h = registers_line (codes "remu") rd rs1 rs2 (forms.Remu rd rs1 rs2) (name_token _ _ refl refl refl refl) refl refl h.0 h.1 h.2

amoadd_again : (rd rs1 rs2 : ℕ) (aq rl : Bool) → IsValid (forms.Amoadd rd rs1 rs2 aq rl) → IsAgain (forms.Amoadd rd rs1 rs2 aq rl)
unfolding instruction_text IsValid branch atomic atomic_named ordering cut
amoadd_again rd rs1 rs2 false false h = atomic_line (codes "amoadd.w") rd rs1 rs2 (forms.Amoadd rd rs1 rs2 false false) (name_token _ _ refl refl refl refl) refl refl h.0 h.1 h.2
amoadd_again rd rs1 rs2 true false h = atomic_line (codes "amoadd.w.aq") rd rs1 rs2 (forms.Amoadd rd rs1 rs2 true false) (name_token _ _ refl refl refl refl) refl refl h.0 h.1 h.2
amoadd_again rd rs1 rs2 false true h = atomic_line (codes "amoadd.w.rl") rd rs1 rs2 (forms.Amoadd rd rs1 rs2 false true) (name_token _ _ refl refl refl refl) refl refl h.0 h.1 h.2
amoadd_again rd rs1 rs2 true true h = atomic_line (codes "amoadd.w.aqrl") rd rs1 rs2 (forms.Amoadd rd rs1 rs2 true true) (name_token _ _ refl refl refl refl) refl refl h.0 h.1 h.2

amoswap_again : (rd rs1 rs2 : ℕ) (aq rl : Bool) → IsValid (forms.Amoswap rd rs1 rs2 aq rl) → IsAgain (forms.Amoswap rd rs1 rs2 aq rl)
unfolding instruction_text IsValid branch atomic atomic_named ordering cut
amoswap_again rd rs1 rs2 false false h = atomic_line (codes "amoswap.w") rd rs1 rs2 (forms.Amoswap rd rs1 rs2 false false) (name_token _ _ refl refl refl refl) refl refl h.0 h.1 h.2
amoswap_again rd rs1 rs2 true false h = atomic_line (codes "amoswap.w.aq") rd rs1 rs2 (forms.Amoswap rd rs1 rs2 true false) (name_token _ _ refl refl refl refl) refl refl h.0 h.1 h.2
amoswap_again rd rs1 rs2 false true h = atomic_line (codes "amoswap.w.rl") rd rs1 rs2 (forms.Amoswap rd rs1 rs2 false true) (name_token _ _ refl refl refl refl) refl refl h.0 h.1 h.2
amoswap_again rd rs1 rs2 true true h = atomic_line (codes "amoswap.w.aqrl") rd rs1 rs2 (forms.Amoswap rd rs1 rs2 true true) (name_token _ _ refl refl refl refl) refl refl h.0 h.1 h.2

amoxor_again : (rd rs1 rs2 : ℕ) (aq rl : Bool) → IsValid (forms.Amoxor rd rs1 rs2 aq rl) → IsAgain (forms.Amoxor rd rs1 rs2 aq rl)
unfolding instruction_text IsValid branch atomic atomic_named ordering cut
amoxor_again rd rs1 rs2 false false h = atomic_line (codes "amoxor.w") rd rs1 rs2 (forms.Amoxor rd rs1 rs2 false false) (name_token _ _ refl refl refl refl) refl refl h.0 h.1 h.2
amoxor_again rd rs1 rs2 true false h = atomic_line (codes "amoxor.w.aq") rd rs1 rs2 (forms.Amoxor rd rs1 rs2 true false) (name_token _ _ refl refl refl refl) refl refl h.0 h.1 h.2
amoxor_again rd rs1 rs2 false true h = atomic_line (codes "amoxor.w.rl") rd rs1 rs2 (forms.Amoxor rd rs1 rs2 false true) (name_token _ _ refl refl refl refl) refl refl h.0 h.1 h.2
amoxor_again rd rs1 rs2 true true h = atomic_line (codes "amoxor.w.aqrl") rd rs1 rs2 (forms.Amoxor rd rs1 rs2 true true) (name_token _ _ refl refl refl refl) refl refl h.0 h.1 h.2

amoor_again : (rd rs1 rs2 : ℕ) (aq rl : Bool) → IsValid (forms.Amoor rd rs1 rs2 aq rl) → IsAgain (forms.Amoor rd rs1 rs2 aq rl)
unfolding instruction_text IsValid branch atomic atomic_named ordering cut
amoor_again rd rs1 rs2 false false h = atomic_line (codes "amoor.w") rd rs1 rs2 (forms.Amoor rd rs1 rs2 false false) (name_token _ _ refl refl refl refl) refl refl h.0 h.1 h.2
amoor_again rd rs1 rs2 true false h = atomic_line (codes "amoor.w.aq") rd rs1 rs2 (forms.Amoor rd rs1 rs2 true false) (name_token _ _ refl refl refl refl) refl refl h.0 h.1 h.2
amoor_again rd rs1 rs2 false true h = atomic_line (codes "amoor.w.rl") rd rs1 rs2 (forms.Amoor rd rs1 rs2 false true) (name_token _ _ refl refl refl refl) refl refl h.0 h.1 h.2
amoor_again rd rs1 rs2 true true h = atomic_line (codes "amoor.w.aqrl") rd rs1 rs2 (forms.Amoor rd rs1 rs2 true true) (name_token _ _ refl refl refl refl) refl refl h.0 h.1 h.2

amoand_again : (rd rs1 rs2 : ℕ) (aq rl : Bool) → IsValid (forms.Amoand rd rs1 rs2 aq rl) → IsAgain (forms.Amoand rd rs1 rs2 aq rl)
unfolding instruction_text IsValid branch atomic atomic_named ordering cut
amoand_again rd rs1 rs2 false false h = atomic_line (codes "amoand.w") rd rs1 rs2 (forms.Amoand rd rs1 rs2 false false) (name_token _ _ refl refl refl refl) refl refl h.0 h.1 h.2
amoand_again rd rs1 rs2 true false h = atomic_line (codes "amoand.w.aq") rd rs1 rs2 (forms.Amoand rd rs1 rs2 true false) (name_token _ _ refl refl refl refl) refl refl h.0 h.1 h.2
amoand_again rd rs1 rs2 false true h = atomic_line (codes "amoand.w.rl") rd rs1 rs2 (forms.Amoand rd rs1 rs2 false true) (name_token _ _ refl refl refl refl) refl refl h.0 h.1 h.2
amoand_again rd rs1 rs2 true true h = atomic_line (codes "amoand.w.aqrl") rd rs1 rs2 (forms.Amoand rd rs1 rs2 true true) (name_token _ _ refl refl refl refl) refl refl h.0 h.1 h.2

amomin_again : (rd rs1 rs2 : ℕ) (aq rl : Bool) → IsValid (forms.Amomin rd rs1 rs2 aq rl) → IsAgain (forms.Amomin rd rs1 rs2 aq rl)
unfolding instruction_text IsValid branch atomic atomic_named ordering cut
amomin_again rd rs1 rs2 false false h = atomic_line (codes "amomin.w") rd rs1 rs2 (forms.Amomin rd rs1 rs2 false false) (name_token _ _ refl refl refl refl) refl refl h.0 h.1 h.2
amomin_again rd rs1 rs2 true false h = atomic_line (codes "amomin.w.aq") rd rs1 rs2 (forms.Amomin rd rs1 rs2 true false) (name_token _ _ refl refl refl refl) refl refl h.0 h.1 h.2
amomin_again rd rs1 rs2 false true h = atomic_line (codes "amomin.w.rl") rd rs1 rs2 (forms.Amomin rd rs1 rs2 false true) (name_token _ _ refl refl refl refl) refl refl h.0 h.1 h.2
amomin_again rd rs1 rs2 true true h = atomic_line (codes "amomin.w.aqrl") rd rs1 rs2 (forms.Amomin rd rs1 rs2 true true) (name_token _ _ refl refl refl refl) refl refl h.0 h.1 h.2

amomax_again : (rd rs1 rs2 : ℕ) (aq rl : Bool) → IsValid (forms.Amomax rd rs1 rs2 aq rl) → IsAgain (forms.Amomax rd rs1 rs2 aq rl)
unfolding instruction_text IsValid branch atomic atomic_named ordering cut
amomax_again rd rs1 rs2 false false h = atomic_line (codes "amomax.w") rd rs1 rs2 (forms.Amomax rd rs1 rs2 false false) (name_token _ _ refl refl refl refl) refl refl h.0 h.1 h.2
amomax_again rd rs1 rs2 true false h = atomic_line (codes "amomax.w.aq") rd rs1 rs2 (forms.Amomax rd rs1 rs2 true false) (name_token _ _ refl refl refl refl) refl refl h.0 h.1 h.2
amomax_again rd rs1 rs2 false true h = atomic_line (codes "amomax.w.rl") rd rs1 rs2 (forms.Amomax rd rs1 rs2 false true) (name_token _ _ refl refl refl refl) refl refl h.0 h.1 h.2
amomax_again rd rs1 rs2 true true h = atomic_line (codes "amomax.w.aqrl") rd rs1 rs2 (forms.Amomax rd rs1 rs2 true true) (name_token _ _ refl refl refl refl) refl refl h.0 h.1 h.2

amominu_again : (rd rs1 rs2 : ℕ) (aq rl : Bool) → IsValid (forms.Amominu rd rs1 rs2 aq rl) → IsAgain (forms.Amominu rd rs1 rs2 aq rl)
unfolding instruction_text IsValid branch atomic atomic_named ordering cut
amominu_again rd rs1 rs2 false false h = atomic_line (codes "amominu.w") rd rs1 rs2 (forms.Amominu rd rs1 rs2 false false) (name_token _ _ refl refl refl refl) refl refl h.0 h.1 h.2
amominu_again rd rs1 rs2 true false h = atomic_line (codes "amominu.w.aq") rd rs1 rs2 (forms.Amominu rd rs1 rs2 true false) (name_token _ _ refl refl refl refl) refl refl h.0 h.1 h.2
amominu_again rd rs1 rs2 false true h = atomic_line (codes "amominu.w.rl") rd rs1 rs2 (forms.Amominu rd rs1 rs2 false true) (name_token _ _ refl refl refl refl) refl refl h.0 h.1 h.2
amominu_again rd rs1 rs2 true true h = atomic_line (codes "amominu.w.aqrl") rd rs1 rs2 (forms.Amominu rd rs1 rs2 true true) (name_token _ _ refl refl refl refl) refl refl h.0 h.1 h.2

amomaxu_again : (rd rs1 rs2 : ℕ) (aq rl : Bool) → IsValid (forms.Amomaxu rd rs1 rs2 aq rl) → IsAgain (forms.Amomaxu rd rs1 rs2 aq rl)
unfolding instruction_text IsValid branch atomic atomic_named ordering cut
amomaxu_again rd rs1 rs2 false false h = atomic_line (codes "amomaxu.w") rd rs1 rs2 (forms.Amomaxu rd rs1 rs2 false false) (name_token _ _ refl refl refl refl) refl refl h.0 h.1 h.2
amomaxu_again rd rs1 rs2 true false h = atomic_line (codes "amomaxu.w.aq") rd rs1 rs2 (forms.Amomaxu rd rs1 rs2 true false) (name_token _ _ refl refl refl refl) refl refl h.0 h.1 h.2
amomaxu_again rd rs1 rs2 false true h = atomic_line (codes "amomaxu.w.rl") rd rs1 rs2 (forms.Amomaxu rd rs1 rs2 false true) (name_token _ _ refl refl refl refl) refl refl h.0 h.1 h.2
amomaxu_again rd rs1 rs2 true true h = atomic_line (codes "amomaxu.w.aqrl") rd rs1 rs2 (forms.Amomaxu rd rs1 rs2 true true) (name_token _ _ refl refl refl refl) refl refl h.0 h.1 h.2

call_again : IsAgain forms.Ecall
unfolding instruction_text label_of code_of name_and_rest operation of_one cut trim_front
call_again = (refl, refl, refl)

break_again : IsAgain forms.Ebreak
unfolding instruction_text label_of code_of name_and_rest operation of_one cut trim_front
break_again = (refl, refl, refl)

pub instruction_again : (i : Instr) → IsValid i → IsAgain i
instruction_again (forms.Jal rd imm) h = jal_again rd imm h
instruction_again (forms.Beq rs1 rs2 imm) h = beq_again rs1 rs2 imm h
instruction_again (forms.Bne rs1 rs2 imm) h = bne_again rs1 rs2 imm h
instruction_again (forms.Blt rs1 rs2 imm) h = blt_again rs1 rs2 imm h
instruction_again (forms.Bge rs1 rs2 imm) h = bge_again rs1 rs2 imm h
instruction_again (forms.Bltu rs1 rs2 imm) h = bltu_again rs1 rs2 imm h
instruction_again (forms.Bgeu rs1 rs2 imm) h = bgeu_again rs1 rs2 imm h
instruction_again (forms.Lui rd imm) h = lui_again rd imm h
instruction_again (forms.Auipc rd imm) h = auipc_again rd imm h
instruction_again (forms.Jalr rd rs1 imm) h = jalr_again rd rs1 imm h
instruction_again (forms.Lb rd rs1 imm) h = lb_again rd rs1 imm h
instruction_again (forms.Lh rd rs1 imm) h = lh_again rd rs1 imm h
instruction_again (forms.Lw rd rs1 imm) h = lw_again rd rs1 imm h
instruction_again (forms.Lbu rd rs1 imm) h = lbu_again rd rs1 imm h
instruction_again (forms.Lhu rd rs1 imm) h = lhu_again rd rs1 imm h
instruction_again (forms.Addi rd rs1 imm) h = addi_again rd rs1 imm h
instruction_again (forms.Slti rd rs1 imm) h = slti_again rd rs1 imm h
instruction_again (forms.Sltiu rd rs1 imm) h = sltiu_again rd rs1 imm h
instruction_again (forms.Xori rd rs1 imm) h = xori_again rd rs1 imm h
instruction_again (forms.Ori rd rs1 imm) h = ori_again rd rs1 imm h
instruction_again (forms.Andi rd rs1 imm) h = andi_again rd rs1 imm h
instruction_again (forms.Slli rd rs1 imm) h = slli_again rd rs1 imm h
instruction_again (forms.Srli rd rs1 imm) h = srli_again rd rs1 imm h
instruction_again (forms.Srai rd rs1 imm) h = srai_again rd rs1 imm h
instruction_again (forms.Fence rd rs1 imm) h = fence_again rd rs1 imm h
instruction_again (forms.Sb rs1 rs2 imm) h = sb_again rs1 rs2 imm h
instruction_again (forms.Sh rs1 rs2 imm) h = sh_again rs1 rs2 imm h
instruction_again (forms.Sw rs1 rs2 imm) h = sw_again rs1 rs2 imm h
instruction_again (forms.Add rd rs1 rs2) h = add_again rd rs1 rs2 h
instruction_again (forms.Sub rd rs1 rs2) h = sub_again rd rs1 rs2 h
instruction_again (forms.Sll rd rs1 rs2) h = sll_again rd rs1 rs2 h
instruction_again (forms.Slt rd rs1 rs2) h = slt_again rd rs1 rs2 h
instruction_again (forms.Sltu rd rs1 rs2) h = sltu_again rd rs1 rs2 h
instruction_again (forms.Xor rd rs1 rs2) h = xor_again rd rs1 rs2 h
instruction_again (forms.Srl rd rs1 rs2) h = srl_again rd rs1 rs2 h
instruction_again (forms.Sra rd rs1 rs2) h = sra_again rd rs1 rs2 h
instruction_again (forms.Or rd rs1 rs2) h = or_again rd rs1 rs2 h
instruction_again (forms.And rd rs1 rs2) h = and_again rd rs1 rs2 h
instruction_again (forms.Mul rd rs1 rs2) h = mul_again rd rs1 rs2 h
instruction_again (forms.Mulh rd rs1 rs2) h = mulh_again rd rs1 rs2 h
instruction_again (forms.Mulhsu rd rs1 rs2) h = mulhsu_again rd rs1 rs2 h
instruction_again (forms.Mulhu rd rs1 rs2) h = mulhu_again rd rs1 rs2 h
instruction_again (forms.Div rd rs1 rs2) h = div_again rd rs1 rs2 h
instruction_again (forms.Divu rd rs1 rs2) h = divu_again rd rs1 rs2 h
instruction_again (forms.Rem rd rs1 rs2) h = rem_again rd rs1 rs2 h
instruction_again (forms.Remu rd rs1 rs2) h = remu_again rd rs1 rs2 h
instruction_again (forms.Amoadd rd rs1 rs2 aq rl) h = amoadd_again rd rs1 rs2 aq rl h
instruction_again (forms.Amoswap rd rs1 rs2 aq rl) h = amoswap_again rd rs1 rs2 aq rl h
instruction_again (forms.Amoxor rd rs1 rs2 aq rl) h = amoxor_again rd rs1 rs2 aq rl h
instruction_again (forms.Amoor rd rs1 rs2 aq rl) h = amoor_again rd rs1 rs2 aq rl h
instruction_again (forms.Amoand rd rs1 rs2 aq rl) h = amoand_again rd rs1 rs2 aq rl h
instruction_again (forms.Amomin rd rs1 rs2 aq rl) h = amomin_again rd rs1 rs2 aq rl h
instruction_again (forms.Amomax rd rs1 rs2 aq rl) h = amomax_again rd rs1 rs2 aq rl h
instruction_again (forms.Amominu rd rs1 rs2 aq rl) h = amominu_again rd rs1 rs2 aq rl h
instruction_again (forms.Amomaxu rd rs1 rs2 aq rl) h = amomaxu_again rd rs1 rs2 aq rl h
instruction_again forms.Ecall h = call_again
instruction_again forms.Ebreak h = break_again
