-- Which texts are scenarios, what they declare, and the first fault of any other text.
use Rattle.std.specs.Prelude.{ℕ, ◌+◌, ◌-◌, ◌/◌, ◌==◌, if◌then◌else◌, List, [], ◌∷◌, ◌++◌, length, Option, Some, None, Result, Ok, Err, unwrap_or}
use Rattle.std.specs.Result.{result_ok}
use Rattle.hex.specs.Hex.{decode_of}
use Rattle.cache_ident.specs.declared.names.SpaceNo.{SpaceNo}
use Rattle.cache_ident.specs.declared.names.ThreadNo.{ThreadNo}
use Rattle.cache_ident.specs.declared.names.Frame.{Frame}
use Rattle.flat_machine.specs.flat_state.specs.declared.events.TheConstants.{GREATEST_CAPS}
use Rattle.flat_machine.specs.flat_state.specs.declared.events.Decl.{Decl}
use Rattle.flat_machine.specs.flat_state.specs.declared.events.Decl.TheVariants as decls
use Rattle.flat_machine.specs.flat_state.specs.Declaration.{broken_rule}
use Rattle.image_decls.specs.elf_image.specs.Elf.{executable, broken_rule as broken_image}
use Rattle.text_fields.specs.Lines.{lines}
use Rattle.scenario_lines.specs.Forms.{Line}
use Rattle.scenario_lines.specs.Forms as forms
use Rattle.scenario_lines.specs.Lines.{line_of, CodeLine, NoCode, LastCode, ImageLine, NoBytes, Bytes, LastBytes, code_line_of, image_line_of}
use Rattle.scenario_lines.specs.Lines as block_lines
use Rattle.code_blocks.specs.declared.fault.CodeFault.{CodeFault}
use Rattle.code_blocks.specs.declared.fault.CodeFault.TheVariants as code_faults
use Rattle.code_blocks.specs.Blocks.{no_lines, with_line, with_unread, block_words}
use Rattle.image_decls.specs.Declarations.{declarations}
use Rattle.scenario_reader.specs.declared.fault.ScenarioFault.{ScenarioFault}
use Rattle.scenario_reader.specs.declared.fault.ScenarioFault.TheVariants as faults
use Rattle.scenario_reader.specs.Readings.{◌>>=◌, Place, Start, Memory, Body, Code, Image, Ended, Reading, start, broken, unless, declare, declare_all, word_decls, rule_of_code, rule_of_image, in_place}

-- ---- lines outside of blocks

abbrev pub code_begins : Reading → Frame → ℕ → Reading
code_begins r frame offset = record r { place = Code frame offset; block = no_lines }

abbrev pub image_begins : Reading → SpaceNo → Frame → ThreadNo → Reading
image_begins r space frame thread = record r { place = Image space frame thread; bytes = [] }

-- rule 25 is broken where the scenario ends without a kernel
abbrev pub ends : Reading → Result Reading ScenarioFault
ends r = if length r.flat.kernels == 0 then broken r 25 else Ok (in_place r Ended)

-- Behind the lines mem and caps, each other line may stand. Those two are out of place, and so is the end of a block.
unfoldable pub in_body : Reading → Line → Result Reading ScenarioFault
in_body r forms.Blank = Ok r
in_body r (forms.Memory groups) = broken r 5
in_body r (forms.Capacities caps) = broken r 5
in_body r (forms.Declares decl) = declare r decl
in_body r (forms.Words frame offset words) = declare_all r (word_decls frame offset words)
in_body r (forms.Code frame offset) = unless (rule_of_code r.flat frame offset) r (code_begins r frame offset)
in_body r forms.EndCode = broken r 5
in_body r (forms.Image space frame thread) = unless (rule_of_image r.flat space frame thread) r (image_begins r space frame thread)
in_body r forms.EndImage = broken r 5
in_body r forms.End = ends r

-- the machine stands where no line caps follows, and then the line is one behind it
abbrev pub behind_machine : Reading → ℕ → Line → Result Reading ScenarioFault
behind_machine r groups line = declare (in_place r Body) (decls.Machine (record { groups = groups; caps = GREATEST_CAPS })) >>= λ next. in_body next line

-- right behind mem
unfoldable pub behind_memory : Reading → ℕ → Line → Result Reading ScenarioFault
behind_memory r groups forms.Blank = Ok r
behind_memory r groups (forms.Capacities caps) = declare (in_place r Body) (decls.Machine (record { groups = groups; caps = caps }))
behind_memory r groups line = behind_machine r groups line

-- mem comes first
unfoldable pub at_start : Reading → Line → Result Reading ScenarioFault
at_start r forms.Blank = Ok r
at_start r (forms.Memory groups) = unless (broken_rule r.flat (decls.Machine (record { groups = groups; caps = GREATEST_CAPS }))) r (in_place r (Memory groups))
at_start r line = broken r 5

-- behind end only blank lines stand
unfoldable pub at_end : Reading → Line → Result Reading ScenarioFault
at_end r forms.Blank = Ok r
at_end r line = broken r 5

-- a line by its form, whose rules come before all others
abbrev pub by_form : (Reading → Line → Result Reading ScenarioFault) → Reading → Result Line ℕ → Result Reading ScenarioFault
by_form takes r (Ok line) = takes r line
by_form takes r (Err rule) = broken r rule

-- ---- lines within code

-- how many words fit in a frame from the offset on
abbrev pub room : ℕ → ℕ
room offset = (4096 - offset) / 4

abbrev pub of_code : CodeFault → ScenarioFault
of_code code_faults.NoMemory = faults.NoMemory
of_code (code_faults.Broken line rule) = faults.Bad line rule

-- the words of the block are declared
abbrev pub assembled : Reading → Frame → ℕ → Result (List ℕ) CodeFault → Result Reading ScenarioFault
assembled r frame offset (Ok words) = declare_all (in_place r Body) (word_decls frame offset words)
assembled r frame offset (Err fault) = Err (of_code fault)

-- A line that breaks rule 1 is judged with the block.
unfoldable pub in_code : Reading → Frame → ℕ → Result CodeLine ℕ → Result Reading ScenarioFault
in_code r frame offset (Err rule) = Ok (record r { block = with_unread r.block r.number })
in_code r frame offset (Ok NoCode) = Ok r
in_code r frame offset (Ok (block_lines.Code text)) = Ok (record r { block = with_line r.block r.number text })
in_code r frame offset (Ok LastCode) = assembled r frame offset (block_words (room offset) r.block)

-- ---- lines within an executable

abbrev pub digit_bytes : List ℕ → List ℕ
digit_bytes digits = unwrap_or (result_ok (decode_of digits)) []

abbrev pub loaded : Option ℕ → Reading → SpaceNo → Frame → ThreadNo → Result Reading ScenarioFault
loaded None r space frame thread = declare_all (in_place r Body) (declarations r.bytes space frame.0 thread (executable r.bytes))
loaded (Some rule) r space frame thread = broken r rule

unfoldable pub in_image : Reading → SpaceNo → Frame → ThreadNo → Result ImageLine ℕ → Result Reading ScenarioFault
in_image r space frame thread (Err rule) = broken r rule
in_image r space frame thread (Ok NoBytes) = Ok r
in_image r space frame thread (Ok (Bytes digits)) = Ok (record r { bytes = r.bytes ++ digit_bytes digits })
in_image r space frame thread (Ok LastBytes) = loaded (broken_image r.bytes) r space frame thread

-- ---- a text

-- what a line makes of the reading, by the place at which it stands
abbrev pub at_place : Place → Reading → List ℕ → Result Reading ScenarioFault
at_place Start r line = by_form at_start r (line_of line)
at_place (Memory groups) r line = by_form (λ r. behind_memory r groups) r (line_of line)
at_place Body r line = by_form in_body r (line_of line)
at_place (Code frame offset) r line = in_code r frame offset (code_line_of line)
at_place (Image space frame thread) r line = in_image r space frame thread (image_line_of line)
at_place Ended r line = by_form at_end r (line_of line)

abbrev pub numbered : Reading → ℕ → Reading
numbered r number = record r { number = number }

-- the line of that number
unfoldable pub step : ℕ → Reading → List ℕ → Result Reading ScenarioFault
step number r line = at_place r.place (numbered r number) line

-- the input ends on its last line without an end of the scenario
abbrev pub too_early : {A : Type 0} → Reading → Result A ScenarioFault
too_early r = broken r 24

-- a block of code that isn't ended is judged first
abbrev pub unended : Reading → Result (List ℕ) CodeFault → Result (List Decl) ScenarioFault
unended r (Ok words) = too_early r
unended r (Err fault) = Err (of_code fault)

abbrev pub finish_at : Place → Reading → Result (List Decl) ScenarioFault
finish_at Ended r = Ok r.decls
finish_at (Code frame offset) r = unended r (block_words (room offset) r.block)
finish_at Start r = too_early r
finish_at (Memory groups) r = too_early r
finish_at Body r = too_early r
finish_at (Image space frame thread) r = too_early r

-- behind the last line
unfoldable pub finish : Reading → Result (List Decl) ScenarioFault
finish r = finish_at r.place r

-- the lines one after another, of which the first has that number
unfoldable pub reads : ℕ → Reading → List (List ℕ) → Result (List Decl) ScenarioFault
reads number r [] = finish r
reads number r (line ∷ more) = step number r line >>= λ next. reads (number + 1) next more

-- What a text declares, where it is a scenario; else its first fault, by line and then by rule.
unfoldable pub scenario : List ℕ → Result (List Decl) ScenarioFault
scenario text = reads 1 start (lines text)
