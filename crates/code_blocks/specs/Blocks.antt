-- A block of code as it is read line by line, and its words or its first fault.
use Rattle.std.specs.Prelude.{◌≡◌, ℕ, nat_le, if◌then◌else◌, List, [], ◌∷◌, ◌++◌, map, slice_index_or, Option, Some, None, Result, Ok, Err, MatchResult, ◌⊎◌, codes}
use Rattle.rv32_asm.specs.declared.fault.AsmFault.{AsmFault}
use Rattle.rv32_asm.specs.declared.fault.AsmFault.TheVariants as asm
use Rattle.rv32_asm.specs.Block.{block}
use Rattle.text_fields.specs.Lines.{is_plain, is_space}
use Rattle.code_blocks.specs.declared.fault.CodeFault.{CodeFault}
use Rattle.code_blocks.specs.declared.fault.CodeFault.TheVariants.{NoMemory, Broken}

-- the lines of code, the number of each in the scenario, and the number of the first that breaks rule 1
pub record Block : Type 0 where
  pub text : List ℕ
  pub numbers : List ℕ
  pub unread : Option ℕ

abbrev pub no_lines : Block
no_lines = record { text = []; numbers = []; unread = None }

-- A tab is a space to the assembler, and what no line may have is nothing that it knows.
abbrev pub code_byte : ℕ → ℕ
code_byte b = if is_space b then 32 else (if is_plain b then b else 35)

-- one more line, of that number
unfoldable pub with_line : Block → ℕ → List ℕ → Block
with_line block number line =
    record { text = block.text ++ map code_byte line ++ codes "\n"; numbers = block.numbers ++ number ∷ []; unread = block.unread }

abbrev pub first_of : Option ℕ → ℕ → ℕ
first_of None number = number
first_of (Some first) number = first

-- One more line, of that number, which breaks rule 1. It is code in no form.
unfoldable pub with_unread : Block → ℕ → Block
with_unread block number =
    record { text = block.text ++ codes "#\n"; numbers = block.numbers ++ number ∷ []; unread = Some (first_of block.unread number) }

-- the fault on the earlier line, and on one line that of rule 1
abbrev pub earlier : Option ℕ → ℕ → ℕ → CodeFault
earlier None line rule = Broken line rule
earlier (Some unread) line rule = if nat_le unread line then Broken unread 1 else Broken line rule

-- a fault of the assembler, whose lines are counted from 0
abbrev pub fault_at : Block → ℕ → ℕ → CodeFault
fault_at block at rule = earlier block.unread (slice_index_or block.numbers at 0) rule

abbrev pub fault_of : Block → AsmFault → CodeFault
fault_of block asm.NoMemory = NoMemory
fault_of block (asm.Room line) = fault_at block line 15
fault_of block (asm.BadLine line) = fault_at block line 20
fault_of block (asm.NoLabel line) = fault_at block line 21
fault_of block (asm.TwiceLabel line) = fault_at block line 22
fault_of block (asm.OutOfReach line) = fault_at block line 23

abbrev pub unless_unread : Option ℕ → List ℕ → Result (List ℕ) CodeFault
unless_unread None words = Ok words
unless_unread (Some line) words = Err (Broken line 1)

abbrev pub judged : Block → Result (List ℕ) AsmFault → Result (List ℕ) CodeFault
judged block (Ok words) = unless_unread block.unread words
judged block (Err fault) = Err (fault_of block fault)

-- the words of the block, of which so many fit, or the first fault
unfoldable pub block_words : ℕ → Block → Result (List ℕ) CodeFault
block_words room lines = judged lines (block room lines.text)

-- What a function returned is what is meant, unless memory ran out.
abbrev pub Answers : {A B : Type 0} → (A → B) → Result A CodeFault → Result B CodeFault → Type 0
Answers view result meant = MatchResult result (λ x. meant ≡ Ok (view x)) (λ e. (e ≡ NoMemory) ⊎ (meant ≡ Err e))
