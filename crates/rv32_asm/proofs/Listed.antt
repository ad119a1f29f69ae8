-- Assembling a listing gives its words back.
use Rattle.std.proofs.Common.{◌≡◌, ℕ, suc, ◌+◌, ◌^◌, ◌<◌, ◌≤◌, true, ltb, List, [], ◌∷◌, ◌++◌, length, get_or, map, Option, Some, None, Result, Ok, Err, refl, ap, ◌∙◌, append_assoc, arith}
use Rattle.std.specs.Prelude.{codes, IfOk}
use Rattle.std.specs.Global.{Vec}
use Rattle.std.proofs.lemmas.Bool.{lt-ltb}
use Rattle.std.proofs.lemmas.List.Concat.{flat_map-cons}
use Rattle.rv32_isa.specs.declared.forms.Instr.{Instr}
use Rattle.rv32_isa.specs.declared.forms.Instr.TheVariants as forms
use Rattle.rv32_isa.specs.Table.{instruction_of, IsValid, word_of}
use Rattle.rv32_isa.proofs.TableSound.{IsSound, instruction_of-sound}
use Rattle.rv32_asm.specs.declared.fault.AsmFault.{AsmFault}
use Rattle.rv32_asm.specs.declared.labels.Mark.{Mark}
use Rattle.rv32_asm.specs.Aims.{reaching}
use Rattle.rv32_asm.specs.Line.{Statement, Word, Line, Code, line_of, label_or_code}
use Rattle.rv32_asm.specs.Listing.{text_or_word, line_text, ended, listing}
use Rattle.rv32_asm.specs.Block.{Marks, lines, spelt, start, behind, code_word, words_from, block, first_mark}
use Rattle.rv32_asm.proofs.Tokens.{lacks, lacks_parts}
use Rattle.rv32_asm.proofs.Values.{t_true}
use Rattle.rv32_asm.proofs.Again.{said, instruction_again}
use Rattle.rv32_asm.proofs.Hexadecimal.{word_reads}

abbrev done : ℕ → Result ℕ AsmFault
done w = Ok w

said_word : (marks : Marks) (at : Mark) (i : Instr) → IsValid i → code_word marks at (said i) ≡ done (word_of i)
unfolding IsValid reaching
said_word marks at (forms.Jal rd imm) h = rw (t_true _ h.1.0.0.le, t_true _ h.1.0.1.le) refl
said_word marks at (forms.Beq rs1 rs2 imm) h = rw (t_true _ h.2.0.0.le, t_true _ h.2.0.1.le) refl
said_word marks at (forms.Bne rs1 rs2 imm) h = rw (t_true _ h.2.0.0.le, t_true _ h.2.0.1.le) refl
said_word marks at (forms.Blt rs1 rs2 imm) h = rw (t_true _ h.2.0.0.le, t_true _ h.2.0.1.le) refl
said_word marks at (forms.Bge rs1 rs2 imm) h = rw (t_true _ h.2.0.0.le, t_true _ h.2.0.1.le) refl
said_word marks at (forms.Bltu rs1 rs2 imm) h = rw (t_true _ h.2.0.0.le, t_true _ h.2.0.1.le) refl
said_word marks at (forms.Bgeu rs1 rs2 imm) h = rw (t_true _ h.2.0.0.le, t_true _ h.2.0.1.le) refl
said_word marks at _ h = refl

-- the line says the word, wherever it stands
record Says (text : List ℕ) (w : ℕ) : Type 0 where
  code : Option Statement
  spells : line_of text ≡ Code code
  word : (marks : Marks) (at : Mark) → code_word marks at code ≡ done w
  feeds : lacks 10 text ≡ true

from_parts : (label : Option (List ℕ)) (code said : Option Statement) → label ≡ None → code ≡ said → label_or_code label code ≡ Code said
from_parts label code said none is = rw (none, is) refl

says_of : (o : Option Instr) (w : ℕ) → w < 2 ^ 32 → IsSound w o → Says (text_or_word o w) w
says_of (Some i) w small sound =
    let r = instruction_again i sound.0 in
    record { code = said i; spells = from_parts _ _ (said i) r.0 r.1; word = λ marks at. said_word marks at i sound.0 ∙ ap (λ (x : ℕ). done x) sound.1; feeds = r.2 }
says_of None w small sound =
    let r = word_reads w small in
    record { code = Some (Word w); spells = from_parts _ _ (Some (Word w)) r.0 r.1; word = λ marks at. refl; feeds = r.2 }

line_says : (w : ℕ) → w < 2 ^ 32 → Says (line_text w) w
unfolding line_text
line_says w small = says_of (instruction_of w) w small (instruction_of-sound w small)

lines_line : (text rest : List ℕ) → lacks 10 text ≡ true → lines (text ++ (10 ∷ rest)) ≡ text ∷ lines rest
unfolding lines
lines_line [] rest h = refl
lines_line (b ∷ text) rest h =
    let p = lacks_parts 10 b text h in
    rw (p.0, lines_line text rest p.1) refl

abbrev pub AreWords : List ℕ → Type 0
AreWords ws = (i : ℕ) → get_or ws i 0 < 2 ^ 32

abbrev all_done : List ℕ → Result (List ℕ) AsmFault
all_done ws = Ok ws

one_more : (room : ℕ) (marks : Marks) (at : Mark) (code : Option Statement) (w : ℕ) (ls : List Line) (ws : List ℕ) → at.word < room → code_word marks at code ≡ done w → words_from room marks (behind at (Code code)) ls ≡ all_done ws → words_from room marks at (Code code ∷ ls) ≡ all_done (w ∷ ws)
unfolding words_from
one_more room marks at code w ls ws lt e more =
    let fits : ltb at.word room ≡ true = lt-ltb _ _ lt in
    rw (fits, e, more) refl

words_again : (ws : List ℕ) (room : ℕ) (marks : Marks) (at : Mark) → AreWords ws → at.word + length ws ≤ room → words_from room marks at (spelt (listing ws)) ≡ all_done ws
unfolding words_from lines
words_again [] room marks at fit le = refl
words_again (w ∷ ws) room marks at fit le =
    let s = line_says w (fit 0) in
    let text : listing (w ∷ ws) ≡ line_text w ++ (10 ∷ listing ws) = flat_map-cons ended w ws ∙ append_assoc (line_text w) (codes "\n") (listing ws) in
    let cut : lines (listing (w ∷ ws)) ≡ line_text w ∷ lines (listing ws) = ap lines text ∙ lines_line (line_text w) (listing ws) s.feeds in
    let read : spelt (listing (w ∷ ws)) ≡ Code s.code ∷ spelt (listing ws) = ap (map line_of) cut ∙ ap (λ (l : Line). l ∷ spelt (listing ws)) s.spells in
    ap (words_from room marks at) read ∙ one_more room marks at s.code w (spelt (listing ws)) ws (omega (arith, le)) (s.word marks at) (words_again ws room marks (behind at (Code s.code)) (λ i. fit (suc i)) (omega (arith, le)))

pub listing_assembles : (ws : List ℕ) → AreWords ws → block (length ws) (listing ws) ≡ all_done ws
unfolding block
listing_assembles ws fit = words_again ws (length ws) (first_mark start (spelt (listing ws))) start fit (omega arith)

pub again : {E : Type 0} (r : Result (Vec ℕ) E) (ws : List ℕ) → AreWords ws → IfOk r (λ v. v.items ≡ listing ws) → IfOk r (λ v. block (length ws) v.items ≡ Ok ws)
again (Ok v) ws fit e = ap (block (length ws)) e ∙ listing_assembles ws fit
again (Err d) ws fit e = tt
