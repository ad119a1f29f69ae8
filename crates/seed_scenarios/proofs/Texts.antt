-- The lines of a number are those of its declarations.
use Rattle.std.proofs.Common.{◌≡◌, ℕ, zero, suc, ◌+◌, ◌*◌, ◌<◌, Bool, true, false, List, [], ◌∷◌, ◌++◌, Option, Some, None, refl, sym, ap, ap₂, ◌∙◌, append_assoc, arith}
use Rattle.std.specs.Prelude.{codes, ◌==◌, if◌then◌else◌}
use Rattle.std.specs.Fmt.{decimal}
use Rattle.std.specs.List.{flat_map}
use Rattle.std.proofs.lemmas.List.{append-nil}
use Rattle.std.proofs.lemmas.Fmt.{decimal_digit, decimal_step}
use Rattle.std.proofs.lemmas.Grind.{flat_map-append}
use Rattle.cache_ident.specs.declared.names.ThreadNo.{ThreadNo}
use Rattle.phys_groups.specs.declared.rows.Flags.{Flags}
use Rattle.scenario_print.specs.flat_state.specs.declared.events.Decl.{Decl}
use Rattle.scenario_print.specs.flat_state.specs.declared.events.Decl.TheVariants as decls
use Rattle.scenario_print.specs.journal_text.specs.Lines.{flags_text}
use Rattle.scenario_gen.specs.Generated.{for_each, right_line, space_line, registers, thread_line, map_line, heading, programs, text, stage_of, pipeline_of, messages, rounds, program_of, operand_of}
use Rattle.scenario_gen.specs.Generated as lines
use Rattle.scenario_print.specs.Texts.{spaced, numbers, signal_text, decl_text}
use Rattle.seed_scenarios.specs.Seeds.{decls_for, machine, right, rights, space, thread, threads, row, inbox, outbox, page, rows, behind_kernels}

-- the lines of a family are those of its declarations
same_for : (each : ℕ → List ℕ) (ds : ℕ → List Decl) → ((i : ℕ) → each i ≡ flat_map decl_text (ds i)) → (n : ℕ) → for_each each n ≡ flat_map decl_text (decls_for ds n)
unfolding for_each
same_for each ds same zero = refl
same_for each ds same (suc n) = ap₂ (λ (x y : List ℕ). x ++ y) (same_for each ds same n) (same n) ∙ sym (flat_map-append decl_text (decls_for ds n) (ds n))

-- ---- fields, and what stands behind them

one_more : (a rest : List ℕ) → (32 ∷ (a ++ [])) ++ rest ≡ 32 ∷ (a ++ rest)
one_more a rest = ap (λ (x : List ℕ). 32 ∷ (x ++ rest)) (append-nil a)

two_more : (a b rest : List ℕ) → (32 ∷ (a ++ (32 ∷ (b ++ [])))) ++ rest ≡ 32 ∷ (a ++ (32 ∷ (b ++ rest)))
two_more a b rest = ap (λ (x : List ℕ). 32 ∷ x) (append_assoc a (32 ∷ (b ++ [])) rest ∙ ap (λ (x : List ℕ). a ++ x) (one_more b rest))

three_more : (a b c rest : List ℕ) → (32 ∷ (a ++ (32 ∷ (b ++ (32 ∷ (c ++ [])))))) ++ rest ≡ 32 ∷ (a ++ (32 ∷ (b ++ (32 ∷ (c ++ rest)))))
three_more a b c rest = ap (λ (x : List ℕ). 32 ∷ x) (append_assoc a (32 ∷ (b ++ (32 ∷ (c ++ [])))) rest ∙ ap (λ (x : List ℕ). a ++ x) (two_more b c rest))

three_joined : (w x y end : List ℕ) → ((w ++ x) ++ y) ++ end ≡ w ++ (x ++ (y ++ end))
three_joined w x y end = simp append_assoc

four_joined : (w x y z end : List ℕ) → (((w ++ x) ++ y) ++ z) ++ end ≡ w ++ (x ++ (y ++ (z ++ end)))
four_joined w x y z end = simp append_assoc

-- ---- kernels, spaces and threads

right_same : (n group : ℕ) → right_line n group ≡ decl_text (right n group)
unfolding right_line decl_text numbers
right_same n group =
    sym (three_joined (codes "right") (32 ∷ (decimal n ++ (32 ∷ (decimal group ++ [])))) (codes " rw") (codes "\n")
    ∙ ap (λ (x : List ℕ). codes "right" ++ x) (two_more (decimal n) (decimal group) (codes " rw\n")))

four_with_none : (a b c d : List ℕ) → a ++ (b ++ (c ++ d)) ≡ a ++ (b ++ (c ++ (d ++ [])))
four_with_none a b c d = ap (λ (x : List ℕ). a ++ (b ++ (c ++ x))) (sym (append-nil d))

rights_same : (n : ℕ) → lines.rights n ≡ flat_map decl_text (rights n)
rights_same n =
    ap₂ (λ (x y : List ℕ). x ++ y) (right_same n 0)
    (ap₂ (λ (x y : List ℕ). x ++ y) (right_same n (1 + n)) (ap₂ (λ (x y : List ℕ). x ++ y) (right_same n (5 + n)) (right_same n (9 + n))))
    ∙ four_with_none (decl_text (right n 0)) (decl_text (right n (1 + n))) (decl_text (right n (5 + n))) (decl_text (right n (9 + n)))

space_same : (s : ℕ) → lines.space s ≡ flat_map decl_text (space s)
unfolding space_line decl_text numbers
space_same s =
    sym (append-nil ((codes "space" ++ (32 ∷ (decimal s ++ (32 ∷ (decimal (stage_of s) ++ []))))) ++ codes "\n")
    ∙ ap (λ (x : List ℕ). codes "space" ++ x) (two_more (decimal s) (decimal (stage_of s)) (codes "\n")))

thread_same : (n s pc priority a0 a1 : ℕ) → thread_line n s pc priority a0 a1 ≡ decl_text (thread n s pc priority a0 a1)
unfolding thread_line registers decl_text numbers
thread_same n s pc priority a0 a1 =
    sym (four_joined (codes "thread" ++ (32 ∷ (decimal n ++ (32 ∷ (decimal s ++ (32 ∷ (decimal pc ++ [])))))))
    (codes " prio" ++ (32 ∷ (decimal priority ++ []))) (codes " a0" ++ (32 ∷ (decimal a0 ++ []))) (codes " a1" ++ (32 ∷ (decimal a1 ++ []))) (codes "\n")
    ∙ ap (λ (x : List ℕ). codes "thread" ++ x)
    (three_more (decimal n) (decimal s) (decimal pc) _
    ∙ ap (λ (x : List ℕ). 32 ∷ (decimal n ++ (32 ∷ (decimal s ++ (32 ∷ (decimal pc ++ (codes " prio" ++ x)))))))
    (one_more (decimal priority) _
    ∙ ap (λ (x : List ℕ). 32 ∷ (decimal priority ++ (codes " a0" ++ x)))
    (one_more (decimal a0) _ ∙ ap (λ (x : List ℕ). 32 ∷ (decimal a0 ++ (codes " a1" ++ x))) (one_more (decimal a1) (codes "\n"))))))

three_with_none : (a b c : List ℕ) → a ++ (b ++ c) ≡ a ++ (b ++ (c ++ []))
three_with_none a b c = ap (λ (x : List ℕ). a ++ (b ++ x)) (sym (append-nil c))

threads_same : (seed s : ℕ) → lines.threads seed s ≡ flat_map decl_text (threads seed s)
threads_same seed s =
    ap₂ (λ (x y : List ℕ). x ++ y) (thread_same (3 * s) s (program_of (stage_of s)) 1 (messages seed) (operand_of seed s))
    (ap₂ (λ (x y : List ℕ). x ++ y) (thread_same (3 * s + 1) s 148 0 131072 (rounds seed)) (thread_same (3 * s + 2) s 148 0 131076 (rounds seed)))
    ∙ three_with_none (decl_text (thread (3 * s) s (program_of (stage_of s)) 1 (messages seed) (operand_of seed s)))
    (decl_text (thread (3 * s + 1) s 148 0 131072 (rounds seed))) (decl_text (thread (3 * s + 2) s 148 0 131076 (rounds seed)))

-- ---- rows

row_same : (s page frame : ℕ) (flags : Flags) (receiver : Option ThreadNo) → map_line s page frame (flags_text flags ++ signal_text receiver) ≡ decl_text (row s page frame flags receiver)
unfolding map_line decl_text numbers
row_same s page frame flags receiver =
    ap (λ (x : List ℕ). codes "map " ++ (decimal s ++ (codes " " ++ (decimal page ++ (codes " " ++ (decimal frame ++ (codes " " ++ x))))))) (append_assoc (flags_text flags) (signal_text receiver) (codes "\n"))
    ∙ sym (four_joined (codes "map") (32 ∷ (decimal s ++ (32 ∷ (decimal page ++ (32 ∷ (decimal frame ++ [])))))) (spaced (flags_text flags)) (signal_text receiver) (codes "\n")
    ∙ ap (λ (x : List ℕ). codes "map" ++ x) (three_more (decimal s) (decimal page) (decimal frame) (spaced (flags_text flags) ++ (signal_text receiver ++ codes "\n"))))

abbrev row_of_code : ℕ → Decl
row_of_code s = row s 0 0 (record { r = false; w = false; x = true; m = false }) None

code_same : (s : ℕ) → map_line s 0 0 (codes "x") ≡ decl_text (row_of_code s)
unfolding signal_text
code_same s = row_same s 0 0 (record { r = false; w = false; x = true; m = false }) None

abbrev row_in : ℕ → Decl
row_in s = row s 16 (3 * pipeline_of s + stage_of s) (record { r = true; w = false; x = false; m = false }) (Some (record { 0 = 3 * s }))

in_same : (s : ℕ) → map_line s 16 (3 * pipeline_of s + stage_of s) (codes "r signal " ++ decimal (3 * s)) ≡ decl_text (row_in s)
unfolding signal_text numbers
in_same s =
    ap (λ (x : List ℕ). map_line s 16 (3 * pipeline_of s + stage_of s) (codes "r signal " ++ x)) (sym (append-nil (decimal (3 * s))))
    ∙ row_same s 16 (3 * pipeline_of s + stage_of s) (record { r = true; w = false; x = false; m = false }) (Some (record { 0 = 3 * s }))

abbrev row_out : ℕ → Decl
row_out s = row s 17 (1 + 3 * pipeline_of s + stage_of s) (record { r = true; w = true; x = false; m = true }) None

out_same : (s : ℕ) → map_line s 17 (1 + 3 * pipeline_of s + stage_of s) (codes "rwm") ≡ decl_text (row_out s)
unfolding signal_text
out_same s = row_same s 17 (1 + 3 * pipeline_of s + stage_of s) (record { r = true; w = true; x = false; m = true }) None

-- a line, unless there is none
unless_none : (none : Bool) (line : List ℕ) (d : Decl) → line ≡ decl_text d → (if none then [] else line) ≡ flat_map decl_text (if none then [] else d ∷ [])
unless_none true line d same = refl
unless_none false line d same = same ∙ sym (append-nil (decl_text d))

page_same : (s i : ℕ) → lines.page s i ≡ flat_map decl_text (page s i)
unfolding signal_text
page_same s i =
    row_same s (32 + i) (128 * (1 + s) + i) (record { r = true; w = true; x = false; m = false }) None
    ∙ sym (append-nil (decl_text (row s (32 + i) (128 * (1 + s) + i) (record { r = true; w = true; x = false; m = false }) None)))

rows_same : (s : ℕ) → lines.rows s ≡ flat_map decl_text (rows s)
unfolding lines.rows
rows_same s =
    let pages = same_for (lines.page s) (page s) (page_same s) 48 in
    let inwards = unless_none (stage_of s == 0) _ (row_in s) (in_same s) in
    let outwards = unless_none (stage_of s == 3) _ (row_out s) (out_same s) in
    let late = flat_map-append decl_text (outbox s) (decls_for (page s) 48) in
    let whole = flat_map-append decl_text (inbox s) (outbox s ++ decls_for (page s) 48) ∙ ap (λ (x : List ℕ). flat_map decl_text (inbox s) ++ x) late in
    ap₂ (λ (x y : List ℕ). x ++ y) (code_same s)
    (ap₂ (λ (x y : List ℕ). x ++ y) inwards (ap₂ (λ (x y : List ℕ). x ++ y) outwards pages) ∙ sym whole)

-- ---- the whole

four_apart : (a b c d rest : List ℕ) → a ++ (b ++ (c ++ (d ++ rest))) ≡ (a ++ (b ++ (c ++ d))) ++ rest
four_apart a b c d rest = simp append_assoc

behind_text : (seed : ℕ)
    → for_each lines.rights 4 ++ (for_each lines.space 12 ++ (for_each (lines.threads seed) 12 ++ (for_each lines.rows 12 ++ programs))) ≡ flat_map decl_text (behind_kernels seed) ++ programs
behind_text seed =
    let last = flat_map-append decl_text (decls_for (threads seed) 12) (decls_for rows 12) in
    let late = flat_map-append decl_text (decls_for space 12) (decls_for (threads seed) 12 ++ decls_for rows 12) ∙ ap (λ (x : List ℕ). flat_map decl_text (decls_for space 12) ++ x) last in
    let whole = flat_map-append decl_text (decls_for rights 4) (decls_for space 12 ++ (decls_for (threads seed) 12 ++ decls_for rows 12)) ∙ ap (λ (x : List ℕ). flat_map decl_text (decls_for rights 4) ++ x) late in
    four_apart (for_each lines.rights 4) (for_each lines.space 12) (for_each (lines.threads seed) 12) (for_each lines.rows 12) programs
    ∙ ap (λ (x : List ℕ). x ++ programs)
    (ap₂ (λ (x y : List ℕ). x ++ y) (same_for lines.rights rights rights_same 4)
    (ap₂ (λ (x y : List ℕ). x ++ y) (same_for lines.space space space_same 12)
    (ap₂ (λ (x y : List ℕ). x ++ y) (same_for (lines.threads seed) (threads seed) (threads_same seed) 12) (same_for lines.rows rows rows_same 12)))
    ∙ sym whole)

abbrev pub kernel_lines : List ℕ
kernel_lines = codes "kernel 0\nkernel 1\nkernel 2\nkernel 3\n"

two_digits : (n : ℕ) (a b : ℕ) → 9 < n → n < 100 → n ≡ 10 * a + b → b < 10 → decimal n ≡ (48 + a) ∷ (48 + b) ∷ []
two_digits n a b more few is low =
    decimal_step n (omega arith) (omega arith) ∙ ap₂ (λ (x y : ℕ). decimal x ++ (48 + y) ∷ []) (omega (arith, is)) (omega (arith, is))
    ∙ ap (λ (x : List ℕ). x ++ (48 + b) ∷ []) (decimal_digit a (omega arith))

heading_text : (rest : List ℕ) → heading ++ rest ≡ decl_text (decls.Machine machine) ++ (kernel_lines ++ rest)
unfolding decl_text numbers
heading_text rest =
    let groups : decimal 13 ≡ codes "13" = two_digits 13 1 3 (omega arith) (omega arith) (omega arith) (omega arith) in
    let eight : decimal 8 ≡ codes "8" = decimal_digit 8 (omega arith) in
    let threads : decimal 16 ≡ codes "16" = two_digits 16 1 6 (omega arith) (omega arith) (omega arith) (omega arith) in
    let rows : decimal 64 ≡ codes "64" = two_digits 64 6 4 (omega arith) (omega arith) (omega arith) (omega arith) in
    rw (groups, eight, threads, rows) refl

-- the machine, the kernels, what stands behind these, and the programs
pub text_by_parts : (seed : ℕ) → text seed ≡ decl_text (decls.Machine machine) ++ (kernel_lines ++ (flat_map decl_text (behind_kernels seed) ++ programs))
text_by_parts seed = heading_text _ ∙ ap (λ (x : List ℕ). decl_text (decls.Machine machine) ++ (kernel_lines ++ x)) (behind_text seed)
