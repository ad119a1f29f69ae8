-- What a block means: its words, or its first fault.
use Rattle.std.specs.Prelude.{◌≡◌, ℕ, ◌+◌, ◌*◌, Bool, false, ◌==◌, nat_lt, if◌then◌else◌, ℤ, pos, ◌-ℤ◌, ◌⊎◌, List, [], ◌∷◌, ◌++◌, map, Option, Some, None, Result, Ok, Err, MatchResult}
use Rattle.std.specs.Str.{bytes_eq}
use Rattle.rv32_isa.specs.declared.forms.Instr.{Instr}
use Rattle.rv32_isa.specs.Table.{word_of}
use Rattle.rv32_asm.specs.declared.fault.AsmFault.{AsmFault}
use Rattle.rv32_asm.specs.declared.fault.AsmFault.TheVariants as faults
use Rattle.rv32_asm.specs.declared.forms.Aim.{Aim}
use Rattle.rv32_asm.specs.declared.labels.Mark.{Mark}
use Rattle.rv32_asm.specs.Aims.{reaching}
use Rattle.rv32_asm.specs.Line.{Target, Name, Distance, Statement, Word, To, Line, Label, Code, line_of}

-- ---- lines

-- the byte stands before the first line
abbrev pub longer : ℕ → List (List ℕ) → List (List ℕ)
longer b [] = (b ∷ []) ∷ []
longer b (l ∷ ls) = (b ∷ l) ∷ ls

-- the lines, each ended by a line feed that the last may lack
unfoldable pub lines : List ℕ → List (List ℕ)
lines [] = []
lines (b ∷ bytes) = if b == 10 then [] ∷ lines bytes else longer b (lines bytes)

-- what each line spells
abbrev pub spelt : List ℕ → List Line
spelt bytes = map line_of (lines bytes)

-- ---- places

-- the first line of a block
abbrev pub start : Mark
start = record { line = 0; word = 0 }

-- each line but a label takes a word, also where it is in no form
abbrev pub behind : Mark → Line → Mark
behind at (Label name) = record { line = at.line + 1; word = at.word }
behind at (Code code) = record { line = at.line + 1; word = at.word + 1 }

abbrev pub defines : Line → List ℕ → Bool
defines (Label name) q = bytes_eq name q
defines (Code code) q = false

-- the first place among the lines from there on at which the label is defined
unfoldable pub first_mark : Mark → List Line → List ℕ → Option Mark
first_mark at [] q = None
first_mark at (l ∷ ls) q = if defines l q then Some at else first_mark (behind at l) ls q

-- where each label is defined
abbrev pub Marks : Type 0
Marks = List ℕ → Option Mark

-- ---- words and faults

infixl 10 ◌>>-◌
abbrev pub ◌>>-◌ : {A B : Type 0} → Result A AsmFault → (A → Result B AsmFault) → Result B AsmFault
(Ok x) >>- f = f x
(Err e) >>- f = Err e

-- how many bytes it is from one word to another
abbrev pub distance : ℕ → ℕ → ℤ
distance here there = pos (4 * there) -ℤ pos (4 * here)

abbrev pub word_or_far : Mark → Option Instr → Result ℕ AsmFault
word_or_far at (Some instr) = Ok (word_of instr)
word_or_far at None = Err (faults.OutOfReach at.line)

abbrev pub to_mark : Mark → Aim → Option Mark → Result ℕ AsmFault
to_mark at aim (Some there) = word_or_far at (reaching aim (distance at.word there.word))
to_mark at aim None = Err (faults.NoLabel at.line)

abbrev pub to_target : Marks → Mark → Aim → Target → Result ℕ AsmFault
to_target marks at aim (Name name) = to_mark at aim (marks name)
to_target marks at aim (Distance bytes) = word_or_far at (reaching aim bytes)

abbrev pub code_word : Marks → Mark → Option Statement → Result ℕ AsmFault
code_word marks at None = Err (faults.BadLine at.line)
code_word marks at (Some (Word word)) = Ok word
code_word marks at (Some (To aim target)) = to_target marks at aim target

-- a label stands where it is defined first, or it is defined again
abbrev pub first_or_twice : Mark → Option Mark → Result (List ℕ) AsmFault
first_or_twice at (Some first) = if first.line == at.line then Ok [] else Err (faults.TwiceLabel at.line)
first_or_twice at None = Ok []

-- what a line adds
abbrev pub line_words : ℕ → Marks → Mark → Line → Result (List ℕ) AsmFault
line_words room marks at (Label name) = first_or_twice at (marks name)
line_words room marks at (Code code) = if nat_lt at.word room then (code_word marks at code >>- λ word. Ok (word ∷ [])) else Err (faults.Room at.line)

-- the words of the lines from there on, or the fault of the first that has one
unfoldable pub words_from : ℕ → Marks → Mark → List Line → Result (List ℕ) AsmFault
words_from room marks at [] = Ok []
words_from room marks at (l ∷ ls) = line_words room marks at l >>- λ ws. words_from room marks (behind at l) ls >>- λ more. Ok (ws ++ more)

-- the words, behind those that are there already
abbrev pub with_front : List ℕ → Result (List ℕ) AsmFault → Result (List ℕ) AsmFault
with_front front meant = meant >>- λ more. Ok (front ++ more)

-- a block where so many words fit; its labels are those of all its lines
unfoldable pub block : ℕ → List ℕ → Result (List ℕ) AsmFault
block room bytes = words_from room (first_mark start (spelt bytes)) start (spelt bytes)

-- What a function returned is what is meant, unless memory ran out.
abbrev pub Answers : {A B : Type 0} → (A → B) → Result A AsmFault → Result B AsmFault → Type 0
Answers view result meant = MatchResult result (λ x. meant ≡ Ok (view x)) (λ e. (e ≡ faults.NoMemory) ⊎ (meant ≡ Err e))

-- What a function returned, seen by view, is what is meant.
abbrev pub Exactly : {A B : Type 0} → (A → B) → Result A AsmFault → Result B AsmFault → Type 0
Exactly view result meant = MatchResult result (λ x. meant ≡ Ok (view x)) (λ e. meant ≡ Err e)
