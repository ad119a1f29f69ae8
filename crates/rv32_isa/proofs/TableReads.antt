-- Reading the word of a valid instruction gives that instruction back.
use Rattle.std.proofs.Common.{◌≡◌, ℕ, ◌+◌, ◌-◌, ◌*◌, ◌/◌, ◌%◌, ◌^◌, ◌<◌, Bool, true, false, refl, ap, ◌∙◌, arith, lit<, Option, Some}
use Rattle.std.specs.Prelude.{ℤ, pos, negsuc, ◌≤ℤ◌, nat_eq}
use Rattle.std.proofs.lemmas.Int.{ints}
use Rattle.rv32_isa.specs.Word.{twos_complement, signed_of, bit_of, opcode_of, rd_of, funct3_of, rs1_of, rs2_of, funct7_of, funct5_of, high20_of, aq_of, rl_of, immediate_i_of, immediate_s_of, immediate_b_of, r_word, i_word, s_word, b_word, u_word, j_word}
use Rattle.rv32_isa.specs.Table.{word_of, IsRegister, LiesFrom, IsSigned12, IsBranchDistance, IsJumpDistance, IsValid, atomic_at, form_at, instruction_of}
use Rattle.rv32_isa.specs.declared.forms.Instr.{Instr}
use Rattle.rv32_isa.specs.declared.forms.Instr.TheVariants.{Lui, Auipc, Jal, Jalr, Beq, Bne, Blt, Bge, Bltu, Bgeu, Lb, Lh, Lw, Lbu, Lhu, Sb, Sh, Sw, Addi, Slti, Sltiu, Xori, Ori, Andi, Slli, Srli, Srai, Add, Sub, Sll, Slt, Sltu, Xor, Srl, Sra, Or, And, Fence, Ecall, Ebreak, Mul, Mulh, Mulhsu, Mulhu, Div, Divu, Rem, Remu, Amoadd, Amoswap, Amoxor, Amoor, Amoand, Amomin, Amomax, Amominu, Amomaxu}
use Rattle.rv32_isa.proofs.Formats.{signed_of-twos_complement, twos_complement-below, twos_complement-even, IsRWord, IsIWord, IsSWord, IsBWord, IsUWord, IsJWord, r_word_fields, i_word_fields, s_word_fields, b_word_fields, u_word_fields, j_word_fields}

-- what is read depends on three fields and on the rest of the word
read_at : (w opcode funct3 funct7 : ℕ) → opcode_of w ≡ opcode → funct3_of w ≡ funct3 → funct7_of w ≡ funct7 → instruction_of w ≡ form_at opcode funct3 funct7 w
unfolding instruction_of
read_at w opcode funct3 funct7 e1 e2 e3 =
    ap (λ k. form_at k (funct3_of w) (funct7_of w) w) e1 ∙ ap (λ k. form_at opcode k (funct7_of w) w) e2 ∙ ap (λ k. form_at opcode funct3 k w) e3

-- an instruction with other names of the same fields
two_fields : {A B : Type 0} (make : A → B → Instr) (r : Option Instr) {a c : A} {b d : B} → r ≡ Some (make a b) → a ≡ c → b ≡ d → r ≡ Some (make c d)
two_fields make r {a} {c} {b} {d} e p q = e ∙ ap (λ x. Some (make x b)) p ∙ ap (λ x. Some (make c x)) q

three_fields : {A B C : Type 0} (make : A → B → C → Instr) (r : Option Instr) {a x : A} {b y : B} {c z : C} → r ≡ Some (make a b c) → a ≡ x → b ≡ y → c ≡ z → r ≡ Some (make x y z)
three_fields make r {a} {x} {b} {y} {c} {z} e p q s = e ∙ ap (λ k. Some (make k b c)) p ∙ ap (λ k. Some (make x k c)) q ∙ ap (λ k. Some (make x y k)) s

-- an immediate that isn't negative
unsigned : (size : ℕ) (z : ℤ) → 0 < size → pos 0 ≤ℤ z → z ≤ℤ pos (size - 1) → (twos_complement size z < size) × (pos (twos_complement size z) ≡ z)
unsigned size (pos n) some low high = (omega (arith, ints), refl)
unsigned size (negsuc n) some low high = absurd (omega (arith, ints))

bit_of-below : (b : Bool) → bit_of b < 2
bit_of-below true = omega arith
bit_of-below false = omega arith

nat_eq-bit_of : (b : Bool) → nat_eq (bit_of b) 1 ≡ b
nat_eq-bit_of true = refl
nat_eq-bit_of false = refl

-- One format after the other: the fields of its word, and from them the instruction

of_r : (make : ℕ → ℕ → ℕ → Instr) (opcode funct3 funct7 rd rs1 rs2 : ℕ) → IsRegister rd × IsRegister rs1 × IsRegister rs2 → opcode < 128 → funct3 < 8 → funct7 < 128 → ((w : ℕ) → form_at opcode funct3 funct7 w ≡ Some (make (rd_of w) (rs1_of w) (rs2_of w))) → instruction_of (r_word opcode funct3 funct7 rd rs1 rs2) ≡ Some (make rd rs1 rs2)
of_r make opcode funct3 funct7 rd rs1 rs2 v h1 h2 h3 step =
    let w : ℕ = r_word opcode funct3 funct7 rd rs1 rs2 in
    let f : IsRWord w opcode funct3 funct7 rd rs1 rs2 = r_word_fields opcode funct3 funct7 rd rs1 rs2 h1 h2 h3 v.0 v.1 v.2 in
    three_fields make (instruction_of w) (read_at w opcode funct3 funct7 f.opcode_is f.funct3_is f.funct7_is ∙ step w) f.rd_is f.rs1_is f.rs2_is

of_shift : (make : ℕ → ℕ → ℤ → Instr) (opcode funct3 funct7 rd rs1 : ℕ) (imm : ℤ) → IsRegister rd × IsRegister rs1 × LiesFrom (pos 0) (pos 31) imm → opcode < 128 → funct3 < 8 → funct7 < 128 → ((w : ℕ) → form_at opcode funct3 funct7 w ≡ Some (make (rd_of w) (rs1_of w) (pos (rs2_of w)))) → instruction_of (r_word opcode funct3 funct7 rd rs1 (twos_complement 32 imm)) ≡ Some (make rd rs1 imm)
of_shift make opcode funct3 funct7 rd rs1 imm v h1 h2 h3 step =
    let rs2 : ℕ = twos_complement 32 imm in
    let u : (rs2 < 32) × (pos rs2 ≡ imm) = unsigned 32 imm (lit< tt) v.2.0 v.2.1 in
    let w : ℕ = r_word opcode funct3 funct7 rd rs1 rs2 in
    let f : IsRWord w opcode funct3 funct7 rd rs1 rs2 = r_word_fields opcode funct3 funct7 rd rs1 rs2 h1 h2 h3 v.0 v.1 u.0 in
    three_fields make (instruction_of w) (read_at w opcode funct3 funct7 f.opcode_is f.funct3_is f.funct7_is ∙ step w) f.rd_is f.rs1_is (ap pos f.rs2_is ∙ u.1)

of_i : (make : ℕ → ℕ → ℤ → Instr) (opcode funct3 rd rs1 : ℕ) (imm : ℤ) → IsRegister rd × IsRegister rs1 × IsSigned12 imm → opcode < 128 → funct3 < 8 → ((w : ℕ) → form_at opcode funct3 (funct7_of w) w ≡ Some (make (rd_of w) (rs1_of w) (immediate_i_of w))) → instruction_of (i_word opcode funct3 rd rs1 (twos_complement 4096 imm)) ≡ Some (make rd rs1 imm)
of_i make opcode funct3 rd rs1 imm v h1 h2 step =
    let high : ℕ = twos_complement 4096 imm in
    let w : ℕ = i_word opcode funct3 rd rs1 high in
    let f : IsIWord w opcode funct3 rd rs1 high = i_word_fields opcode funct3 rd rs1 high h1 h2 v.0 v.1 (twos_complement-below 2048 imm (lit< tt) v.2.0 v.2.1) in
    three_fields make (instruction_of w) (read_at w opcode funct3 (funct7_of w) f.opcode_is f.funct3_is refl ∙ step w) f.rd_is f.rs1_is (ap (signed_of 2048) f.high12_is ∙ signed_of-twos_complement 2048 imm (lit< tt) v.2.0 v.2.1)

of_fence : (rd rs1 : ℕ) (imm : ℤ) → IsRegister rd × IsRegister rs1 × LiesFrom (pos 0) (pos 4095) imm → instruction_of (i_word 15 0 rd rs1 (twos_complement 4096 imm)) ≡ Some (Fence rd rs1 imm)
of_fence rd rs1 imm v =
    let high : ℕ = twos_complement 4096 imm in
    let u : (high < 4096) × (pos high ≡ imm) = unsigned 4096 imm (lit< tt) v.2.0 v.2.1 in
    let w : ℕ = i_word 15 0 rd rs1 high in
    let f : IsIWord w 15 0 rd rs1 high = i_word_fields 15 0 rd rs1 high (lit< tt) (lit< tt) v.0 v.1 u.0 in
    three_fields Fence (instruction_of w) (read_at w 15 0 (funct7_of w) f.opcode_is f.funct3_is refl) f.rd_is f.rs1_is (ap pos f.high12_is ∙ u.1)

of_s : (make : ℕ → ℕ → ℤ → Instr) (opcode funct3 rs1 rs2 : ℕ) (imm : ℤ) → IsRegister rs1 × IsRegister rs2 × IsSigned12 imm → opcode < 128 → funct3 < 8 → ((w : ℕ) → form_at opcode funct3 (funct7_of w) w ≡ Some (make (rs1_of w) (rs2_of w) (immediate_s_of w))) → instruction_of (s_word opcode funct3 rs1 rs2 (twos_complement 4096 imm)) ≡ Some (make rs1 rs2 imm)
of_s make opcode funct3 rs1 rs2 imm v h1 h2 step =
    let low : ℕ = twos_complement 4096 imm in
    let w : ℕ = s_word opcode funct3 rs1 rs2 low in
    let f : IsSWord w opcode funct3 rs1 rs2 low = s_word_fields opcode funct3 rs1 rs2 low h1 h2 v.0 v.1 (twos_complement-below 2048 imm (lit< tt) v.2.0 v.2.1) in
    three_fields make (instruction_of w) (read_at w opcode funct3 (funct7_of w) f.opcode_is f.funct3_is refl ∙ step w) f.rs1_is f.rs2_is (ap (signed_of 2048) f.offset_is ∙ signed_of-twos_complement 2048 imm (lit< tt) v.2.0 v.2.1)

of_b : (make : ℕ → ℕ → ℤ → Instr) (opcode funct3 rs1 rs2 : ℕ) (imm : ℤ) → IsRegister rs1 × IsRegister rs2 × IsBranchDistance imm → opcode < 128 → funct3 < 8 → ((w : ℕ) → form_at opcode funct3 (funct7_of w) w ≡ Some (make (rs1_of w) (rs2_of w) (immediate_b_of w))) → instruction_of (b_word opcode funct3 rs1 rs2 (twos_complement 8192 imm)) ≡ Some (make rs1 rs2 imm)
of_b make opcode funct3 rs1 rs2 imm v h1 h2 step =
    let low : ℕ = twos_complement 8192 imm in
    let top : imm ≤ℤ pos 4095 = omega (arith, ints, v.2.0.1) in
    let w : ℕ = b_word opcode funct3 rs1 rs2 low in
    let f : IsBWord w opcode funct3 rs1 rs2 low = b_word_fields opcode funct3 rs1 rs2 low h1 h2 v.0 v.1 (twos_complement-below 4096 imm (lit< tt) v.2.0.0 top) (twos_complement-even 4096 imm (lit< tt) v.2.0.0 v.2.1) in
    three_fields make (instruction_of w) (read_at w opcode funct3 (funct7_of w) f.opcode_is f.funct3_is refl ∙ step w) f.rs1_is f.rs2_is (ap (signed_of 4096) f.branch_is ∙ signed_of-twos_complement 4096 imm (lit< tt) v.2.0.0 top)

of_u : (make : ℕ → ℤ → Instr) (opcode rd : ℕ) (imm : ℤ) → IsRegister rd × LiesFrom (pos 0) (pos 1048575) imm → opcode < 128 → ((w : ℕ) → form_at opcode (funct3_of w) (funct7_of w) w ≡ Some (make (rd_of w) (pos (high20_of w)))) → instruction_of (u_word opcode rd (twos_complement 1048576 imm)) ≡ Some (make rd imm)
of_u make opcode rd imm v h1 step =
    let high : ℕ = twos_complement 1048576 imm in
    let u : (high < 1048576) × (pos high ≡ imm) = unsigned 1048576 imm (lit< tt) v.1.0 v.1.1 in
    let w : ℕ = u_word opcode rd high in
    let f : IsUWord w opcode rd high = u_word_fields opcode rd high h1 v.0 u.0 in
    two_fields make (instruction_of w) (read_at w opcode (funct3_of w) (funct7_of w) f.opcode_is refl refl ∙ step w) f.rd_is (ap pos f.high20_is ∙ u.1)

of_j : (rd : ℕ) (imm : ℤ) → IsRegister rd × IsJumpDistance imm → instruction_of (j_word 111 rd (twos_complement 2097152 imm)) ≡ Some (Jal rd imm)
of_j rd imm v =
    let low : ℕ = twos_complement 2097152 imm in
    let top : imm ≤ℤ pos 1048575 = omega (arith, ints, v.1.0.1) in
    let w : ℕ = j_word 111 rd low in
    let f : IsJWord w 111 rd low = j_word_fields 111 rd low (lit< tt) v.0 (twos_complement-below 1048576 imm (lit< tt) v.1.0.0 top) (twos_complement-even 1048576 imm (lit< tt) v.1.0.0 v.1.1) in
    two_fields Jal (instruction_of w) (read_at w 111 (funct3_of w) (funct7_of w) f.opcode_is refl refl) f.rd_is (ap (signed_of 1048576) f.jump_is ∙ signed_of-twos_complement 1048576 imm (lit< tt) v.1.0.0 top)

of_amo : (make : ℕ → ℕ → ℕ → Bool → Bool → Instr) (funct5 rd rs1 rs2 : ℕ) (aq rl : Bool) → IsRegister rd × IsRegister rs1 × IsRegister rs2 → funct5 < 32 → ((w : ℕ) → atomic_at funct5 w ≡ Some (make (rd_of w) (rs1_of w) (rs2_of w) (aq_of w) (rl_of w))) → instruction_of (r_word 47 2 (funct5 * 4 + bit_of aq * 2 + bit_of rl) rd rs1 rs2) ≡ Some (make rd rs1 rs2 aq rl)
of_amo make funct5 rd rs1 rs2 aq rl v h step =
    let a : bit_of aq < 2 = bit_of-below aq in
    let l : bit_of rl < 2 = bit_of-below rl in
    let funct7 : ℕ = funct5 * 4 + bit_of aq * 2 + bit_of rl in
    let w : ℕ = r_word 47 2 funct7 rd rs1 rs2 in
    let f : IsRWord w 47 2 funct7 rd rs1 rs2 = r_word_fields 47 2 funct7 rd rs1 rs2 (lit< tt) (lit< tt) (omega arith) v.0 v.1 v.2 in
    let parts : (funct5_of w ≡ funct5) × (w / 2 ^ 26 % 2 ≡ bit_of aq) × (w / 2 ^ 25 % 2 ≡ bit_of rl) = parts_of_funct7 w funct5 (bit_of aq) (bit_of rl) a l f.funct7_is in
    five_fields make (instruction_of w) (read_at w 47 2 funct7 f.opcode_is f.funct3_is f.funct7_is ∙ ap (λ k. atomic_at k w) parts.0 ∙ step w) f.rd_is f.rs1_is f.rs2_is (ap (λ k. nat_eq k 1) parts.1 ∙ nat_eq-bit_of aq) (ap (λ k. nat_eq k 1) parts.2 ∙ nat_eq-bit_of rl)
  where
    parts_of_funct7 : (w funct5 aq rl : ℕ) → aq < 2 → rl < 2 → funct7_of w ≡ funct5 * 4 + aq * 2 + rl → (funct5_of w ≡ funct5) × (w / 2 ^ 26 % 2 ≡ aq) × (w / 2 ^ 25 % 2 ≡ rl)
    parts_of_funct7 w funct5 aq rl a l e = (omega arith, omega arith, omega arith)

    five_fields : {A B C D E : Type 0} (make : A → B → C → D → E → Instr) (r : Option Instr) {a x : A} {b y : B} {c z : C} {d u : D} {e v : E} → r ≡ Some (make a b c d e) → a ≡ x → b ≡ y → c ≡ z → d ≡ u → e ≡ v → r ≡ Some (make x y z u v)
    five_fields make r {a} {x} {b} {y} {c} {z} {d} {u} {e} {v} g p q s t o =
        g ∙ ap (λ k. Some (make k b c d e)) p ∙ ap (λ k. Some (make x k c d e)) q ∙ ap (λ k. Some (make x y k d e)) s ∙ ap (λ k. Some (make x y z k e)) t ∙ ap (λ k. Some (make x y z u k)) o

pub instruction_of-word_of : (i : Instr) → IsValid i → instruction_of (word_of i) ≡ Some i
unfolding word_of IsValid
instruction_of-word_of (Lui rd imm) v = of_u Lui 55 rd imm v (lit< tt) (λ _. refl)
instruction_of-word_of (Auipc rd imm) v = of_u Auipc 23 rd imm v (lit< tt) (λ _. refl)
instruction_of-word_of (Jal rd imm) v = of_j rd imm v
instruction_of-word_of (Jalr rd rs1 imm) v = of_i Jalr 103 0 rd rs1 imm v (lit< tt) (lit< tt) (λ _. refl)
instruction_of-word_of (Beq rs1 rs2 imm) v = of_b Beq 99 0 rs1 rs2 imm v (lit< tt) (lit< tt) (λ _. refl)
instruction_of-word_of (Bne rs1 rs2 imm) v = of_b Bne 99 1 rs1 rs2 imm v (lit< tt) (lit< tt) (λ _. refl)
instruction_of-word_of (Blt rs1 rs2 imm) v = of_b Blt 99 4 rs1 rs2 imm v (lit< tt) (lit< tt) (λ _. refl)
instruction_of-word_of (Bge rs1 rs2 imm) v = of_b Bge 99 5 rs1 rs2 imm v (lit< tt) (lit< tt) (λ _. refl)
instruction_of-word_of (Bltu rs1 rs2 imm) v = of_b Bltu 99 6 rs1 rs2 imm v (lit< tt) (lit< tt) (λ _. refl)
instruction_of-word_of (Bgeu rs1 rs2 imm) v = of_b Bgeu 99 7 rs1 rs2 imm v (lit< tt) (lit< tt) (λ _. refl)
instruction_of-word_of (Lb rd rs1 imm) v = of_i Lb 3 0 rd rs1 imm v (lit< tt) (lit< tt) (λ _. refl)
instruction_of-word_of (Lh rd rs1 imm) v = of_i Lh 3 1 rd rs1 imm v (lit< tt) (lit< tt) (λ _. refl)
instruction_of-word_of (Lw rd rs1 imm) v = of_i Lw 3 2 rd rs1 imm v (lit< tt) (lit< tt) (λ _. refl)
instruction_of-word_of (Lbu rd rs1 imm) v = of_i Lbu 3 4 rd rs1 imm v (lit< tt) (lit< tt) (λ _. refl)
instruction_of-word_of (Lhu rd rs1 imm) v = of_i Lhu 3 5 rd rs1 imm v (lit< tt) (lit< tt) (λ _. refl)
instruction_of-word_of (Sb rs1 rs2 imm) v = of_s Sb 35 0 rs1 rs2 imm v (lit< tt) (lit< tt) (λ _. refl)
instruction_of-word_of (Sh rs1 rs2 imm) v = of_s Sh 35 1 rs1 rs2 imm v (lit< tt) (lit< tt) (λ _. refl)
instruction_of-word_of (Sw rs1 rs2 imm) v = of_s Sw 35 2 rs1 rs2 imm v (lit< tt) (lit< tt) (λ _. refl)
instruction_of-word_of (Addi rd rs1 imm) v = of_i Addi 19 0 rd rs1 imm v (lit< tt) (lit< tt) (λ _. refl)
instruction_of-word_of (Slti rd rs1 imm) v = of_i Slti 19 2 rd rs1 imm v (lit< tt) (lit< tt) (λ _. refl)
instruction_of-word_of (Sltiu rd rs1 imm) v = of_i Sltiu 19 3 rd rs1 imm v (lit< tt) (lit< tt) (λ _. refl)
instruction_of-word_of (Xori rd rs1 imm) v = of_i Xori 19 4 rd rs1 imm v (lit< tt) (lit< tt) (λ _. refl)
instruction_of-word_of (Ori rd rs1 imm) v = of_i Ori 19 6 rd rs1 imm v (lit< tt) (lit< tt) (λ _. refl)
instruction_of-word_of (Andi rd rs1 imm) v = of_i Andi 19 7 rd rs1 imm v (lit< tt) (lit< tt) (λ _. refl)
instruction_of-word_of (Slli rd rs1 imm) v = of_shift Slli 19 1 0 rd rs1 imm v (lit< tt) (lit< tt) (lit< tt) (λ _. refl)
instruction_of-word_of (Srli rd rs1 imm) v = of_shift Srli 19 5 0 rd rs1 imm v (lit< tt) (lit< tt) (lit< tt) (λ _. refl)
instruction_of-word_of (Srai rd rs1 imm) v = of_shift Srai 19 5 32 rd rs1 imm v (lit< tt) (lit< tt) (lit< tt) (λ _. refl)
instruction_of-word_of (Add rd rs1 rs2) v = of_r Add 51 0 0 rd rs1 rs2 v (lit< tt) (lit< tt) (lit< tt) (λ _. refl)
instruction_of-word_of (Sub rd rs1 rs2) v = of_r Sub 51 0 32 rd rs1 rs2 v (lit< tt) (lit< tt) (lit< tt) (λ _. refl)
instruction_of-word_of (Sll rd rs1 rs2) v = of_r Sll 51 1 0 rd rs1 rs2 v (lit< tt) (lit< tt) (lit< tt) (λ _. refl)
instruction_of-word_of (Slt rd rs1 rs2) v = of_r Slt 51 2 0 rd rs1 rs2 v (lit< tt) (lit< tt) (lit< tt) (λ _. refl)
instruction_of-word_of (Sltu rd rs1 rs2) v = of_r Sltu 51 3 0 rd rs1 rs2 v (lit< tt) (lit< tt) (lit< tt) (λ _. refl)
instruction_of-word_of (Xor rd rs1 rs2) v = of_r Xor 51 4 0 rd rs1 rs2 v (lit< tt) (lit< tt) (lit< tt) (λ _. refl)
instruction_of-word_of (Srl rd rs1 rs2) v = of_r Srl 51 5 0 rd rs1 rs2 v (lit< tt) (lit< tt) (lit< tt) (λ _. refl)
instruction_of-word_of (Sra rd rs1 rs2) v = of_r Sra 51 5 32 rd rs1 rs2 v (lit< tt) (lit< tt) (lit< tt) (λ _. refl)
instruction_of-word_of (Or rd rs1 rs2) v = of_r Or 51 6 0 rd rs1 rs2 v (lit< tt) (lit< tt) (lit< tt) (λ _. refl)
instruction_of-word_of (And rd rs1 rs2) v = of_r And 51 7 0 rd rs1 rs2 v (lit< tt) (lit< tt) (lit< tt) (λ _. refl)
instruction_of-word_of (Fence rd rs1 imm) v = of_fence rd rs1 imm v
instruction_of-word_of Ecall v = read_at 0x00000073 115 0 0 refl refl refl
instruction_of-word_of Ebreak v = read_at 0x00100073 115 0 0 refl refl refl
instruction_of-word_of (Mul rd rs1 rs2) v = of_r Mul 51 0 1 rd rs1 rs2 v (lit< tt) (lit< tt) (lit< tt) (λ _. refl)
instruction_of-word_of (Mulh rd rs1 rs2) v = of_r Mulh 51 1 1 rd rs1 rs2 v (lit< tt) (lit< tt) (lit< tt) (λ _. refl)
instruction_of-word_of (Mulhsu rd rs1 rs2) v = of_r Mulhsu 51 2 1 rd rs1 rs2 v (lit< tt) (lit< tt) (lit< tt) (λ _. refl)
instruction_of-word_of (Mulhu rd rs1 rs2) v = of_r Mulhu 51 3 1 rd rs1 rs2 v (lit< tt) (lit< tt) (lit< tt) (λ _. refl)
instruction_of-word_of (Div rd rs1 rs2) v = of_r Div 51 4 1 rd rs1 rs2 v (lit< tt) (lit< tt) (lit< tt) (λ _. refl)
instruction_of-word_of (Divu rd rs1 rs2) v = of_r Divu 51 5 1 rd rs1 rs2 v (lit< tt) (lit< tt) (lit< tt) (λ _. refl)
instruction_of-word_of (Rem rd rs1 rs2) v = of_r Rem 51 6 1 rd rs1 rs2 v (lit< tt) (lit< tt) (lit< tt) (λ _. refl)
instruction_of-word_of (Remu rd rs1 rs2) v = of_r Remu 51 7 1 rd rs1 rs2 v (lit< tt) (lit< tt) (lit< tt) (λ _. refl)
instruction_of-word_of (Amoadd rd rs1 rs2 aq rl) v = of_amo Amoadd 0 rd rs1 rs2 aq rl v (lit< tt) (λ _. refl)
instruction_of-word_of (Amoswap rd rs1 rs2 aq rl) v = of_amo Amoswap 1 rd rs1 rs2 aq rl v (lit< tt) (λ _. refl)
instruction_of-word_of (Amoxor rd rs1 rs2 aq rl) v = of_amo Amoxor 4 rd rs1 rs2 aq rl v (lit< tt) (λ _. refl)
instruction_of-word_of (Amoor rd rs1 rs2 aq rl) v = of_amo Amoor 8 rd rs1 rs2 aq rl v (lit< tt) (λ _. refl)
instruction_of-word_of (Amoand rd rs1 rs2 aq rl) v = of_amo Amoand 12 rd rs1 rs2 aq rl v (lit< tt) (λ _. refl)
instruction_of-word_of (Amomin rd rs1 rs2 aq rl) v = of_amo Amomin 16 rd rs1 rs2 aq rl v (lit< tt) (λ _. refl)
instruction_of-word_of (Amomax rd rs1 rs2 aq rl) v = of_amo Amomax 20 rd rs1 rs2 aq rl v (lit< tt) (λ _. refl)
instruction_of-word_of (Amominu rd rs1 rs2 aq rl) v = of_amo Amominu 24 rd rs1 rs2 aq rl v (lit< tt) (λ _. refl)
instruction_of-word_of (Amomaxu rd rs1 rs2 aq rl) v = of_amo Amomaxu 28 rd rs1 rs2 aq rl v (lit< tt) (λ _. refl)
