-- The text of a number is read line by line.
use Rattle.std.proofs.Common.{◌≡◌, ℕ, ◌+◌, Bool, true, false, eqb, leb, List, [], ◌∷◌, ◌++◌, length, Some, None, Ok, refl, sym, ap, ◌∙◌, append_assoc, arith}
use Rattle.std.specs.Prelude.{codes, not, ◌&&◌}
use Rattle.std.specs.List.{flat_map, list_all}
use Rattle.std.proofs.lemmas.Bool.{and_parts, leb-true, eq-eqb}
use Rattle.std.proofs.lemmas.List.{append-nil}
use Rattle.cache_ident.specs.declared.names.Frame.{Frame}
use Rattle.scenario_print.specs.flat_state.specs.declared.events.Decl.{Decl}
use Rattle.scenario_print.specs.flat_state.specs.declared.events.Decl.TheVariants as decls
use Rattle.scenario_print.specs.flat_state.specs.State.{FlatState, nothing_declared}
use Rattle.scenario_print.specs.flat_state.specs.Declaration.{broken_rule, declared}
use Rattle.scenario_print.specs.flat_state.specs.Events.{AllFit, after_declarations}
use Rattle.scenario_print.specs.rv32_asm.specs.Block.{block}
use Rattle.text_fields.specs.Numbers as numbers
use Rattle.text_fields.specs.Reading.{after}
use Rattle.text_fields.specs.Lines.{lines, pieces, without_comment, fields}
use Rattle.text_fields.specs.Lines as text_lines
use Rattle.scenario_print.specs.scenario_lines.specs.Forms as forms
use Rattle.scenario_print.specs.scenario_lines.specs.Shapes as shapes
use Rattle.scenario_print.specs.scenario_lines.specs.Values as values
use Rattle.scenario_print.specs.scenario_lines.specs.Lines.{by_word, line_of, LastCode, code_line_of}
use Rattle.scenario_print.specs.code_blocks.specs.Blocks.{Block, no_lines, block_words}
use Rattle.scenario_print.specs.scenario_reader.specs.Readings.{Body, Reading, start, declare, declare_all, word_decls}
use Rattle.scenario_print.specs.scenario_reader.specs.Scenarios.{in_body, in_code, at_end, step, finish, reads, scenario}
use Rattle.scenario_gen.specs.Generated.{text, programs}
use Rattle.scenario_print.specs.Texts.{decl_text}
use Rattle.scenario_print.proofs.Lines.{IsClean, first_line}
use Rattle.scenario_print.proofs.Again.{at_body, takes_form, goes, body_goes, machine_goes}
use Rattle.seed_scenarios.specs.Seeds.{machine, limits, behind_kernels, before_code, AreOf}
use Rattle.seed_scenarios.proofs.Fitting.{words, assembled, before_fits, words_fit, first_word_fits, kernels_there, behind_in_range}
use Rattle.seed_scenarios.proofs.Texts.{kernel_lines, text_by_parts}
use Rattle.seed_scenarios.proofs.Blocks.{in_block, block_goes, with_lines, code_lines, are_code_lines, program_lines, block_text, block_read}

-- ---- kernels without lock limits

abbrev kernel_of : ℕ → Decl
kernel_of n = decls.Kernel (record { 0 = n }) (limits n)

is_clean : ℕ → Bool
is_clean b = leb 32 b && (leb b 126 && not (eqb b 35))

clean_from : (bytes : List ℕ) → list_all is_clean bytes ≡ true → IsClean bytes
unfolding is_clean
clean_from [] e = tt
clean_from (b ∷ bytes) e =
    let first = and_parts (is_clean b) (list_all is_clean bytes) e in
    let low = and_parts (leb 32 b) (leb b 126 && not (eqb b 35)) first.0 in
    let high = and_parts (leb b 126) (not (eqb b 35)) low.1 in
    (leb-true 32 b low.0, leb-true b 126 high.0, (λ same. let is = eq-eqb b 35 same in cc), clean_from bytes first.1)

kernel_step : (n : ℕ) (line : List ℕ) (number earlier : ℕ) (s : FlatState) (ds : List Decl) → line_of line ≡ Ok (forms.Declares (kernel_of n)) → broken_rule s (kernel_of n) ≡ None
    → step number (at_body earlier s ds) line ≡ Ok (at_body number (declared s (kernel_of n)) (ds ++ kernel_of n ∷ []))
unfolding step
kernel_step n line number earlier s ds is fits = rw is (takes_form number s ds (kernel_of n) tt fits)

kernel_goes : (n : ℕ) (line : List ℕ) (number earlier : ℕ) (s : FlatState) (ds : List Decl) (rest : List ℕ) → list_all is_clean line ≡ true
    → line_of line ≡ Ok (forms.Declares (kernel_of n)) → broken_rule s (kernel_of n) ≡ None
    → reads number (at_body earlier s ds) (lines (line ++ (10 ∷ rest))) ≡ reads (number + 1) (at_body number (declared s (kernel_of n)) (ds ++ kernel_of n ∷ [])) (lines rest)
kernel_goes n line number earlier s ds rest clean is fits =
    ap (reads number (at_body earlier s ds)) (first_line line rest (clean_from line clean))
    ∙ goes number (at_body earlier s ds) (at_body number (declared s (kernel_of n)) (ds ++ kernel_of n ∷ [])) line (lines rest) (kernel_step n line number earlier s ds is fits)

first_read : line_of (codes "kernel 0") ≡ Ok (forms.Declares (kernel_of 0))
unfolding line_of without_comment fields pieces by_word forms.kernel_line shapes.next shapes.locks shapes.quadruple values.value values.value_or numbers.number numbers.digits numbers.digits_from numbers.digit after forms.limits text_lines.one text_lines.two text_lines.three text_lines.four
first_read = refl

second_read : line_of (codes "kernel 1") ≡ Ok (forms.Declares (kernel_of 1))
unfolding line_of without_comment fields pieces by_word forms.kernel_line shapes.next shapes.locks shapes.quadruple values.value values.value_or numbers.number numbers.digits numbers.digits_from numbers.digit after forms.limits text_lines.one text_lines.two text_lines.three text_lines.four
second_read = refl

third_read : line_of (codes "kernel 2") ≡ Ok (forms.Declares (kernel_of 2))
unfolding line_of without_comment fields pieces by_word forms.kernel_line shapes.next shapes.locks shapes.quadruple values.value values.value_or numbers.number numbers.digits numbers.digits_from numbers.digit after forms.limits text_lines.one text_lines.two text_lines.three text_lines.four
third_read = refl

fourth_read : line_of (codes "kernel 3") ≡ Ok (forms.Declares (kernel_of 3))
unfolding line_of without_comment fields pieces by_word forms.kernel_line shapes.next shapes.locks shapes.quadruple values.value values.value_or numbers.number numbers.digits numbers.digits_from numbers.digit after forms.limits text_lines.one text_lines.two text_lines.three text_lines.four
fourth_read = refl

-- ---- the end, behind a block of code

abbrev behind_block : Block → ℕ → FlatState → List Decl → Reading
behind_block b number s ds = record { number = number; place = Body; block = b; bytes = []; flat = s; decls = ds }

all_declared : (b : Block) (number : ℕ) (s : FlatState) (ds es : List Decl) → AllFit s es → declare_all (behind_block b number s ds) es ≡ Ok (behind_block b number (after_declarations s es) (ds ++ es))
unfolding declare_all declare
all_declared b number s ds [] fit = ap (λ (ps : List Decl). Ok (behind_block b number s ps)) (sym (append-nil ds))
all_declared b number s ds (e ∷ es) fit =
    rw fit.0 (all_declared b number (declared s e) (ds ++ e ∷ []) es fit.1
    ∙ ap (λ (ps : List Decl). Ok (behind_block b number (after_declarations s (e ∷ es)) ps)) (append_assoc ds (e ∷ []) es))

end_goes : (b : Block) (number earlier : ℕ) (s : FlatState) (ds : List Decl) → eqb (length s.kernels) 0 ≡ false → reads number (behind_block b earlier s ds) (codes "end" ∷ [] ∷ []) ≡ Ok ds
unfolding reads step in_body at_end finish line_of without_comment fields pieces by_word forms.bare_line shapes.no_more
end_goes b number earlier s ds some = rw some refl

-- ---- the block

abbrev first_frame : Frame
first_frame = record { 0 = 0 }

code_read : line_of (codes "code 0 0") ≡ Ok (forms.Code first_frame 0)
unfolding line_of without_comment fields pieces by_word forms.code_line shapes.next shapes.pair values.value numbers.number numbers.digits numbers.digits_from numbers.digit after text_lines.one text_lines.two
code_read = refl

begins : (number earlier : ℕ) (s : FlatState) (ds : List Decl) → broken_rule s (decls.Word first_frame 0 0) ≡ None → step number (at_body earlier s ds) (codes "code 0 0") ≡ Ok (in_block first_frame 0 s ds number no_lines)
unfolding step in_body
begins number earlier s ds fits = rw (code_read, fits) refl

words_are : (number : ℕ) → block_words 1024 (with_lines number no_lines code_lines) ≡ Ok words
unfolding block_words
words_are number = rw (block_text number, assembled, block_read number) refl

end_read : code_line_of (codes "endcode") ≡ Ok LastCode
unfolding code_line_of without_comment fields pieces text_lines.one
end_read = refl

block_ends : (number earlier from : ℕ) (s : FlatState) (ds : List Decl) → AllFit s (word_decls first_frame 0 words)
    → step number (in_block first_frame 0 s ds earlier (with_lines from no_lines code_lines)) (codes "endcode")
    ≡ Ok (behind_block (with_lines from no_lines code_lines) number (after_declarations s (word_decls first_frame 0 words)) (ds ++ word_decls first_frame 0 words))
unfolding step in_code
block_ends number earlier from s ds fit = rw (end_read, words_are from) (all_declared (with_lines from no_lines code_lines) number s ds (word_decls first_frame 0 words) fit)

programs_go : (number earlier : ℕ) (s : FlatState) (ds : List Decl) → broken_rule s (decls.Word first_frame 0 0) ≡ None → AllFit s (word_decls first_frame 0 words)
    → eqb (length (after_declarations s (word_decls first_frame 0 words)).kernels) 0 ≡ false
    → reads number (at_body earlier s ds) (lines programs) ≡ Ok (ds ++ word_decls first_frame 0 words)
programs_go number earlier s ds first fit kernels =
    let last = codes "endcode" ∷ codes "end" ∷ [] ∷ [] in
    let block = with_lines (number + 1) no_lines code_lines in
    let code = block_goes first_frame 0 s ds (number + 1) number no_lines code_lines last are_code_lines in
    let at = number + 1 + length code_lines in
    ap (reads number (at_body earlier s ds)) program_lines
    ∙ goes number (at_body earlier s ds) (in_block first_frame 0 s ds number no_lines) (codes "code 0 0") (code_lines ++ last) (begins number earlier s ds first)
    ∙ code.1
    ∙ goes at (in_block first_frame 0 s ds code.0 block) _ (codes "endcode") (codes "end" ∷ [] ∷ []) (block_ends at code.0 (number + 1) s ds fit)
    ∙ end_goes block (at + 1) at (after_declarations s (word_decls first_frame 0 words)) (ds ++ word_decls first_frame 0 words) kernels

-- ---- the whole

machine_there : (seed : ℕ) → (after_declarations nothing_declared (decls.Machine machine ∷ kernel_of 0 ∷ kernel_of 1 ∷ kernel_of 2 ∷ kernel_of 3 ∷ [])).machine ≡ Some machine
unfolding declared
machine_there seed = refl

clean_first : list_all is_clean (codes "kernel 0") ≡ true
unfolding is_clean
clean_first = refl

clean_second : list_all is_clean (codes "kernel 1") ≡ true
unfolding is_clean
clean_second = refl

clean_third : list_all is_clean (codes "kernel 2") ≡ true
unfolding is_clean
clean_third = refl

clean_fourth : list_all is_clean (codes "kernel 3") ≡ true
unfolding is_clean
clean_fourth = refl

seed_reads : (seed : ℕ) → reads 1 start (lines (text seed)) ≡ Ok (before_code seed ++ word_decls first_frame 0 words)
seed_reads seed =
    let fit = before_fits seed in
    let rest = flat_map decl_text (behind_kernels seed) ++ programs in
    let s1 = declared nothing_declared (decls.Machine machine) in
    let s2 = declared s1 (kernel_of 0) in
    let s3 = declared s2 (kernel_of 1) in
    let s4 = declared s3 (kernel_of 2) in
    let s5 = declared s4 (kernel_of 3) in
    let ds1 = decls.Machine machine ∷ [] in
    let ds2 = ds1 ++ kernel_of 0 ∷ [] in
    let ds3 = ds2 ++ kernel_of 1 ∷ [] in
    let ds4 = ds3 ++ kernel_of 2 ∷ [] in
    let ds5 = ds4 ++ kernel_of 3 ∷ [] in
    let body = body_goes 7 6 s5 machine ds5 (behind_kernels seed) programs (machine_there seed) fit.1.1.1.1.1 (behind_in_range seed) in
    ap (λ (t : List ℕ). reads 1 start (lines t)) (text_by_parts seed)
    ∙ machine_goes machine (kernel_lines ++ rest) fit.0 (omega arith, (omega arith, omega arith, omega arith, omega arith))
    ∙ kernel_goes 0 (codes "kernel 0") 3 2 s1 ds1 (codes "kernel 1\nkernel 2\nkernel 3\n" ++ rest) clean_first first_read fit.1.0
    ∙ kernel_goes 1 (codes "kernel 1") 4 3 s2 ds2 (codes "kernel 2\nkernel 3\n" ++ rest) clean_second second_read fit.1.1.0
    ∙ kernel_goes 2 (codes "kernel 2") 5 4 s3 ds3 (codes "kernel 3\n" ++ rest) clean_third third_read fit.1.1.1.0
    ∙ kernel_goes 3 (codes "kernel 3") 6 5 s4 ds4 rest clean_fourth fourth_read fit.1.1.1.1.0
    ∙ body.1
    ∙ programs_go (7 + length (behind_kernels seed)) body.0 (after_declarations nothing_declared (before_code seed)) (before_code seed) (first_word_fits seed) (words_fit seed) (kernels_there seed)

pub is_scenario : (seed : ℕ) → (ds : List Decl) × AreOf seed ds × (scenario (text seed) ≡ Ok ds)
unfolding scenario
is_scenario seed = (before_code seed ++ word_decls first_frame 0 words, record { words = words; assembled = assembled; whole = refl }, seed_reads seed)
