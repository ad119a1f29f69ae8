-- What a line spells: a label, or code that takes one word.
use Rattle.std.specs.Prelude.{◌≡◌, ℕ, ◌%◌, ◌&&◌, ◌==◌, if◌then◌else◌, ℤ, unsigned_abs, List, [], length, Option, Some, None, codes}
use Rattle.std.specs.Option.{option_map}
use Rattle.std.specs.Str.{bytes_eq}
use Rattle.rv32_isa.specs.declared.forms.Instr.{Instr}
use Rattle.rv32_isa.specs.declared.forms.Instr.TheVariants as forms
use Rattle.rv32_isa.specs.Table.{word_of}
use Rattle.rv32_asm.specs.declared.forms.Aim.{Aim}
use Rattle.rv32_asm.specs.declared.forms.Aim.TheVariants as aims
use Rattle.rv32_asm.specs.declared.line.Target.{Target as TargetValue}
use Rattle.rv32_asm.specs.declared.line.Target.TheVariants as target_values
use Rattle.rv32_asm.specs.declared.line.Statement.{Statement as StatementValue}
use Rattle.rv32_asm.specs.declared.line.Statement.TheVariants as statement_values
use Rattle.text_fields.specs.Numbers.{number}
use Rattle.text_fields.specs.Reading.{◌>>=◌}
use Rattle.rv32_asm.specs.Fields.{cut, trim, immediate, register, is_name}
use Rattle.rv32_asm.specs.Aims.{IsAim}
use Rattle.rv32_asm.specs.Forms.{branch, of_two, of_three}

-- where a jump or a branch goes: a label, or an even distance in bytes from the instruction
pub data Target : Type 0 where
  Name : (name : List ℕ) → Target
  Distance : (bytes : ℤ) → Target

-- the word itself, or an instruction whose target is still to be found
pub data Statement : Type 0 where
  Word : (word : ℕ) → Statement
  To : (aim : Aim) (target : Target) → Statement

-- a label, or code; a line that is in no form is code too
pub data Line : Type 0 where
  Label : (name : List ℕ) → Line
  Code : (statement : Option Statement) → Line

abbrev pub target_view : TargetValue → Target
target_view (target_values.Name name) = Name name.now
target_view (target_values.Distance z) = Distance z

abbrev pub statement_view : StatementValue → Statement
statement_view (statement_values.Word w) = Word w
statement_view (statement_values.To aim target) = To aim (target_view target)

abbrev pub IsEven : ℤ → Type 0
IsEven z = unsigned_abs z % 2 ≡ 0

abbrev pub IsTarget : TargetValue → Type 0
IsTarget (target_values.Name name) = Unit {0}
IsTarget (target_values.Distance z) = IsEven z

-- registers are below 32, and a distance is even
abbrev pub IsStatement : StatementValue → Type 0
IsStatement (statement_values.Word w) = Unit {0}
IsStatement (statement_values.To aim target) = IsAim aim × IsTarget target

-- ---- reading: by the number of operands, the rules for ecall, ebreak and .word, for jal, for branches, and those of Forms

unfoldable pub target_at : List ℕ → Option Target
target_at bytes = if is_name bytes then Some (Name bytes) else (immediate bytes >>= λ z. if unsigned_abs z % 2 == 0 then Some (Distance z) else None)

abbrev pub plain : Option Instr → Option Statement
plain o = option_map (λ i. Word (word_of i)) o

abbrev pub bare : Instr → List ℕ → Option ℕ
bare i rest = if length rest == 0 then Some (word_of i) else None

-- no comma: a mnemonic alone, or .word and a number
unfoldable pub of_one : List ℕ → List ℕ → Option ℕ
of_one name rest =
    if bytes_eq name (codes "ecall") then bare forms.Ecall rest else
    if bytes_eq name (codes "ebreak") then bare forms.Ebreak rest else
    if bytes_eq name (codes ".word") then number rest else
    None

-- one comma
unfoldable pub pair : List ℕ → List ℕ → List ℕ → Option Statement
pair name a b = if bytes_eq name (codes "jal") then (register a >>= λ rd. target_at b >>= λ t. Some (To (aims.Jal rd) t)) else plain (of_two name a b)

abbrev pub branch_or : Option Aim → List ℕ → Option Instr → Option Statement
branch_or (Some aim) c other = target_at c >>= λ t. Some (To aim t)
branch_or None c other = plain other

-- two commas
unfoldable pub triple : List ℕ → List ℕ → List ℕ → List ℕ → Option Statement
triple name a b c = register a >>= λ x. register b >>= λ y. branch_or (branch name x y) c (of_three name x y c)

abbrev pub two_or_three : List ℕ → List ℕ → Option (List ℕ × List ℕ) → List ℕ → Option Statement
two_or_three name a (Some parts) more = triple name (trim a) (trim parts.0) (trim parts.1)
two_or_three name a None more = pair name (trim a) (trim more)

abbrev pub one_or_more : List ℕ → Option (List ℕ × List ℕ) → List ℕ → Option Statement
one_or_more name (Some parts) rest = two_or_three name parts.0 (cut 44 parts.1) parts.1
one_or_more name None rest = option_map Word (of_one name rest)

-- a mnemonic and what follows it, in which commas divide the operands
unfoldable pub operation : List ℕ → List ℕ → Option Statement
operation name rest = one_or_more name (cut 44 rest) rest

abbrev pub name_or_all : Option (List ℕ × List ℕ) → List ℕ → List ℕ × List ℕ
name_or_all (Some parts) bytes = (parts.0, trim parts.1)
name_or_all None bytes = (bytes, [])

-- up to the first space, and what follows the spaces
unfoldable pub name_and_rest : List ℕ → List ℕ × List ℕ
name_and_rest bytes = name_or_all (cut 32 bytes) bytes

unfoldable pub code_of : List ℕ → Option Statement
code_of bytes = let parts = name_and_rest (trim bytes) in operation parts.0 parts.1

-- a name that a colon follows, and nothing else
unfoldable pub label_of : List ℕ → Option (List ℕ)
label_of bytes = cut 58 (trim bytes) >>= λ parts. if is_name parts.0 && length parts.1 == 0 then Some parts.0 else None

abbrev pub label_or_code : Option (List ℕ) → Option Statement → Line
label_or_code (Some name) code = Label name
label_or_code None code = Code code

abbrev pub line_of : List ℕ → Line
line_of bytes = label_or_code (label_of bytes) (code_of bytes)
