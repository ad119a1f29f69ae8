-- The lines of the programs, read as code.
use Rattle.std.proofs.Common.{◌≡◌, ℕ, ◌+◌, Bool, true, false, List, [], ◌∷◌, ◌++◌, length, None, Result, Ok, Err, refl, ap, ◌∙◌, arith}
use Rattle.std.specs.Prelude.{codes, ◌&&◌}
use Rattle.std.specs.Str.{bytes_eq}
use Rattle.std.proofs.lemmas.Bool.{and_parts}
use Rattle.std.proofs.lemmas.Slice.Eq.{bytes_eq-Decides}
use Rattle.cache_ident.specs.declared.names.Frame.{Frame}
use Rattle.scenario_print.specs.flat_state.specs.declared.events.Decl.{Decl}
use Rattle.scenario_print.specs.flat_state.specs.State.{FlatState}
use Rattle.text_fields.specs.Lines.{lines, pieces, without_return, without_comment, fields, one}
use Rattle.scenario_print.specs.scenario_lines.specs.Lines.{CodeLine, NoCode, LastCode, code_line_of}
use Rattle.scenario_print.specs.scenario_lines.specs.Lines as block_lines
use Rattle.scenario_print.specs.code_blocks.specs.Blocks.{Block, no_lines, with_line}
use Rattle.scenario_print.specs.scenario_reader.specs.Readings.{Code, Reading}
use Rattle.scenario_print.specs.scenario_reader.specs.Scenarios.{in_code, step, reads}
use Rattle.scenario_gen.specs.Generated.{sender, middle, last, worker, stages, ending, programs}
use Rattle.scenario_print.proofs.Again.{goes}

-- the lines of the programs, without those around them
abbrev Lines : Type 0
Lines = List (List ℕ)

-- a line of code stands as it is
is_code : List ℕ → Result CodeLine ℕ → Bool
is_code line (Ok NoCode) = false
is_code line (Ok (block_lines.Code text)) = bytes_eq text line
is_code line (Ok LastCode) = false
is_code line (Err rule) = false

code_from : (line : List ℕ) (r : Result CodeLine ℕ) → is_code line r ≡ true → r ≡ Ok (block_lines.Code line)
unfolding is_code
code_from line (Ok NoCode) e = absurd (cc)
code_from line (Ok (block_lines.Code text)) e = ap (λ (t : List ℕ). Ok (block_lines.Code t)) ((bytes_eq-Decides text line).0 e)
code_from line (Ok LastCode) e = absurd (cc)
code_from line (Err rule) e = absurd (cc)

pub are_code : Lines → Bool
are_code [] = true
are_code (line ∷ more) = is_code line (code_line_of line) && are_code more

-- a block with these lines, the first of which has that number
pub with_lines : ℕ → Block → Lines → Block
with_lines number block [] = block
with_lines number block (line ∷ more) = with_lines (number + 1) (with_line block number line) more

module _ (frame : Frame) (offset : ℕ) (s : FlatState) (ds : List Decl) where
  abbrev pub in_block : ℕ → Block → Reading
  in_block number block = record { number = number; place = Code frame offset; block = block; bytes = []; flat = s; decls = ds }

  code_step : (number earlier : ℕ) (block : Block) (line : List ℕ) → code_line_of line ≡ Ok (block_lines.Code line)
      → step number (in_block earlier block) line ≡ Ok (in_block number (with_line block number line))
  unfolding step in_code
  code_step number earlier block line is = rw is refl

  pub block_goes : (number earlier : ℕ) (block : Block) (code more : Lines) → are_code code ≡ true
      → (last : ℕ) × (reads number (in_block earlier block) (code ++ more) ≡ reads (number + length code) (in_block last (with_lines number block code)) more)
  unfolding are_code with_lines
  block_goes number earlier block [] more e = (earlier, ap (λ (n : ℕ). reads n (in_block earlier block) more) (omega arith))
  block_goes number earlier block (line ∷ code) more e =
      let parts = and_parts (is_code line (code_line_of line)) (are_code code) e in
      let later = block_goes (number + 1) number (with_line block number line) code more parts.1 in (
        later.0,
        goes number (in_block earlier block) (in_block number (with_line block number line)) line (code ++ more) (code_step number earlier block line (code_from line (code_line_of line) parts.0))
            ∙ later.1
            ∙ ap (λ (n : ℕ). reads n (in_block later.0 (with_lines (number + 1) (with_line block number line) code)) more) (omega arith),
      )

-- ---- the lines of this text

-- a text that ends its last line has an empty one behind it, which is left out here
without_last : Lines → Lines
without_last [] = []
without_last (line ∷ []) = []
without_last (line ∷ next ∷ more) = line ∷ without_last (next ∷ more)

pub code_lines : Lines
code_lines = without_last (lines (stages ++ worker))

pub are_code_lines : are_code code_lines ≡ true
unfolding are_code is_code code_lines without_last stages sender middle last worker lines pieces without_return code_line_of without_comment fields one
are_code_lines = refl

pub program_lines : lines programs ≡ codes "code 0 0" ∷ (code_lines ++ (codes "endcode" ∷ codes "end" ∷ [] ∷ []))
unfolding ending code_lines without_last stages sender middle last worker lines pieces without_return
program_lines = refl

pub block_text : (number : ℕ) → (with_lines number no_lines code_lines).text ≡ stages ++ worker
unfolding with_lines with_line code_lines without_last stages sender middle last worker lines pieces without_return
block_text number = refl

pub block_read : (number : ℕ) → (with_lines number no_lines code_lines).unread ≡ None
unfolding with_lines with_line code_lines without_last stages sender middle last worker lines pieces without_return
block_read number = refl
