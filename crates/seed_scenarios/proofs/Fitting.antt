-- The declarations of a number fit one after another, and their numbers have 32 bits.
use Rattle.std.proofs.Common.{◌≡◌, ℕ, zero, suc, ◌+◌, ◌*◌, ◌^◌, ◌<◌, ◌≤◌, Bool, true, false, eqb, List, [], ◌∷◌, ◌++◌, length, Option, Some, None, Result, Ok, Err, refl, arith}
use Rattle.std.specs.Prelude.{◌&&◌, ◌==◌, if◌then◌else◌, nat_lt}
use Rattle.std.specs.List.{AllByRecursion}
use Rattle.std.proofs.lemmas.Bool.{and_parts, ltb-true}
use Rattle.scenario_print.specs.flat_state.specs.declared.events.Decl.{Decl}
use Rattle.scenario_print.specs.flat_state.specs.declared.events.Decl.TheVariants as decls
use Rattle.scenario_print.specs.flat_state.specs.State.{FlatState, nothing_declared}
use Rattle.scenario_print.specs.flat_state.specs.Declaration.{broken_rule, declared}
use Rattle.scenario_print.specs.flat_state.specs.Events.{AllFit, after_declarations}
use Rattle.scenario_print.specs.journal_text.specs.Ranges.{IsSmall, IsDeclInRange}
use Rattle.scenario_print.specs.rv32_asm.specs.declared.fault.AsmFault.{AsmFault}
use Rattle.scenario_print.specs.rv32_asm.specs.Block.{block, lines, first_mark, words_from}
use Rattle.scenario_print.specs.rv32_asm.specs.Aims.{reaching}
use Rattle.scenario_print.specs.rv32_asm.specs.Fields.{cut, trim_front, immediate, immediate_in, short_number, lettered, numbered, register, bracketed, is_name}
use Rattle.scenario_print.specs.rv32_asm.specs.Forms.{upper, load, store, immediate_form, shift, fence, register_form, product, atomic, branch, ordering, atomic_named, of_two, with_immediate, of_three}
use Rattle.scenario_print.specs.rv32_asm.specs.Line.{target_at, of_one, pair, triple, operation, name_and_rest, code_of, label_of}
use Rattle.rv32_isa.specs.Table.{word_of}
use Rattle.text_fields.specs.Numbers.{digit, digits_from, digits, number}
use Rattle.text_fields.specs.Reading.{after}
use Rattle.scenario_print.specs.scenario_reader.specs.Readings.{word_decls}
use Rattle.scenario_gen.specs.Generated.{stage_of, pipeline_of, program_of, operand_of, first_number, sender, middle, last, worker, stages}
use Rattle.seed_scenarios.specs.Seeds.{decls_for, rights, space, thread, threads, rows, behind_kernels, before_code}

-- ---- the words of the programs

is_ok : Result (List ℕ) AsmFault → Bool
is_ok (Ok words) = true
is_ok (Err e) = false

words_of : Result (List ℕ) AsmFault → List ℕ
words_of (Ok words) = words
words_of (Err e) = []

ok_words : (r : Result (List ℕ) AsmFault) → is_ok r ≡ true → r ≡ Ok (words_of r)
unfolding words_of is_ok
ok_words (Ok words) ok = refl
ok_words (Err e) ok = absurd (cc)

pub words : List ℕ
words = words_of (block 1024 (stages ++ worker))

are_words : is_ok (block 1024 (stages ++ worker)) ≡ true
unfolding is_ok block stages sender middle last worker lines first_mark words_from reaching cut trim_front immediate immediate_in short_number lettered numbered register bracketed is_name upper load store immediate_form shift fence register_form product atomic branch ordering atomic_named of_two with_immediate of_three target_at of_one pair triple operation name_and_rest code_of label_of word_of digit digits_from digits number after
are_words = refl

pub assembled : block 1024 (stages ++ worker) ≡ Ok words
unfolding words
assembled = ok_words (block 1024 (stages ++ worker)) are_words

-- ---- they fit

is_none : Option ℕ → Bool
is_none None = true
is_none (Some n) = false

none_from : (o : Option ℕ) → is_none o ≡ true → o ≡ None
unfolding is_none
none_from None e = refl
none_from (Some n) e = absurd (cc)

all_fit : FlatState → List Decl → Bool
all_fit s [] = true
all_fit s (d ∷ ds) = is_none (broken_rule s d) && all_fit (declared s d) ds

fit_from : (s : FlatState) (ds : List Decl) → all_fit s ds ≡ true → AllFit s ds
unfolding all_fit
fit_from s [] e = tt
fit_from s (d ∷ ds) e =
    let parts = and_parts (is_none (broken_rule s d)) (all_fit (declared s d) ds) e in
    (none_from (broken_rule s d) parts.0, fit_from (declared s d) ds parts.1)

all_tested : (seed : ℕ) → all_fit nothing_declared (before_code seed ++ word_decls (record { 0 = 0 }) 0 words) ≡ true
unfolding all_fit is_none broken_rule declared word_decls words words_of block stages sender middle last worker lines first_mark words_from reaching cut trim_front immediate immediate_in short_number lettered numbered register bracketed is_name upper load store immediate_form shift fence register_form product atomic branch ordering atomic_named of_two with_immediate of_three target_at of_one pair triple operation name_and_rest code_of label_of word_of digit digits_from digits number after
all_tested seed = refl

fit_front : (s : FlatState) (ds es : List Decl) → AllFit s (ds ++ es) → AllFit s ds
fit_front s [] es h = tt
fit_front s (d ∷ ds) es h = (h.0, fit_front (declared s d) ds es h.1)

fit_behind : (s : FlatState) (ds es : List Decl) → AllFit s (ds ++ es) → AllFit (after_declarations s ds) es
fit_behind s [] es h = h
fit_behind s (d ∷ ds) es h = fit_behind (declared s d) ds es h.1

all_fits : (seed : ℕ) → AllFit nothing_declared (before_code seed ++ word_decls (record { 0 = 0 }) 0 words)
all_fits seed = fit_from nothing_declared (before_code seed ++ word_decls (record { 0 = 0 }) 0 words) (all_tested seed)

pub before_fits : (seed : ℕ) → AllFit nothing_declared (before_code seed)
before_fits seed = fit_front nothing_declared (before_code seed) (word_decls (record { 0 = 0 }) 0 words) (all_fits seed)

pub words_fit : (seed : ℕ) → AllFit (after_declarations nothing_declared (before_code seed)) (word_decls (record { 0 = 0 }) 0 words)
words_fit seed = fit_behind nothing_declared (before_code seed) (word_decls (record { 0 = 0 }) 0 words) (all_fits seed)

-- a word fits at the beginning of memory, and there are kernels
pub first_word_fits : (seed : ℕ) → broken_rule (after_declarations nothing_declared (before_code seed)) (decls.Word (record { 0 = 0 }) 0 0) ≡ None
unfolding broken_rule declared
first_word_fits seed = refl

pub kernels_there : (seed : ℕ) → eqb (length (after_declarations (after_declarations nothing_declared (before_code seed)) (word_decls (record { 0 = 0 }) 0 words)).kernels) 0 ≡ false
unfolding declared word_decls words words_of block stages sender middle last worker lines first_mark words_from reaching cut trim_front immediate immediate_in short_number lettered numbered register bracketed is_name upper load store immediate_form shift fence register_form product atomic branch ordering atomic_named of_two with_immediate of_three target_at of_one pair triple operation name_and_rest code_of label_of word_of digit digits_from digits number after
kernels_there seed = refl

-- ---- their numbers

is_small : ℕ → Bool
is_small n = nat_lt n (2 ^ 32)

are_small : Decl → Bool
are_small (decls.Machine machine) = false
are_small (decls.Kernel n limits) = false
are_small (decls.Right n group read write) = is_small n.0 && is_small group
are_small (decls.Space n kernel) = is_small n.0 && is_small kernel.0
are_small (decls.Thread n space pc priority a0 a1) = false
are_small (decls.Map space vpn frame flags None) = is_small space.0 && (is_small vpn.0 && is_small frame.0)
are_small (decls.Map space vpn frame flags (Some thread)) = is_small space.0 && (is_small vpn.0 && (is_small frame.0 && is_small thread.0))
are_small (decls.Word frame offset value) = false

small_from : (n : ℕ) → is_small n ≡ true → IsSmall n
unfolding is_small
small_from n e = ltb-true n (2 ^ 32) e

in_range : (d : Decl) → are_small d ≡ true → IsDeclInRange d
unfolding are_small
in_range (decls.Machine machine) e = absurd (cc)
in_range (decls.Kernel n limits) e = absurd (cc)
in_range (decls.Right n group read write) e = let p = and_parts (is_small n.0) (is_small group) e in (small_from n.0 p.0, small_from group p.1)
in_range (decls.Space n kernel) e = let p = and_parts (is_small n.0) (is_small kernel.0) e in (small_from n.0 p.0, small_from kernel.0 p.1)
in_range (decls.Thread n space pc priority a0 a1) e = absurd (cc)
in_range (decls.Map space vpn frame flags None) e =
    let p = and_parts (is_small space.0) (is_small vpn.0 && is_small frame.0) e in
    let q = and_parts (is_small vpn.0) (is_small frame.0) p.1 in
    (small_from space.0 p.0, small_from vpn.0 q.0, small_from frame.0 q.1, tt)
in_range (decls.Map space vpn frame flags (Some thread)) e =
    let p = and_parts (is_small space.0) (is_small vpn.0 && (is_small frame.0 && is_small thread.0)) e in
    let q = and_parts (is_small vpn.0) (is_small frame.0 && is_small thread.0) p.1 in
    let r = and_parts (is_small frame.0) (is_small thread.0) q.1 in
    (small_from space.0 p.0, small_from vpn.0 q.0, small_from frame.0 r.0, small_from thread.0 r.1)
in_range (decls.Word frame offset value) e = absurd (cc)

all_small : List Decl → Bool
all_small [] = true
all_small (d ∷ ds) = are_small d && all_small ds

all_in_range : (ds : List Decl) → all_small ds ≡ true → AllByRecursion IsDeclInRange ds
unfolding all_small
all_in_range [] e = tt
all_in_range (d ∷ ds) e = let p = and_parts (are_small d) (all_small ds) e in (in_range d p.0, all_in_range ds p.1)

both_in_range : (ds es : List Decl) → AllByRecursion IsDeclInRange ds → AllByRecursion IsDeclInRange es → AllByRecursion IsDeclInRange (ds ++ es)
both_in_range [] es h k = k
both_in_range (d ∷ ds) es h k = (h.0, both_in_range ds es h.1 k)

small_if : (b : Bool) (x y : ℕ) → IsSmall x → IsSmall y → IsSmall (if b then x else y)
small_if true x y h k = h
small_if false x y h k = k

threads_in_range : (seed s : ℕ) → s < 12 → AllByRecursion IsDeclInRange (threads seed s)
threads_in_range seed s low =
    let begins : IsSmall (program_of (stage_of s)) = small_if (stage_of s == 0) 0 (if stage_of s == 3 then 92 else 36) (omega arith) (small_if (stage_of s == 3) 92 36 (omega arith) (omega arith)) in
    let operand : IsSmall (operand_of seed s) =
    small_if (stage_of s == 0) (first_number seed + 100 * pipeline_of s) (if stage_of s == 3 then 0 else stage_of s) (omega arith) (small_if (stage_of s == 3) 0 (stage_of s) (omega arith) (omega arith)) in (
      (omega arith, omega arith, begins, omega arith, omega arith, operand),
      (
        (omega arith, omega arith, omega arith, omega arith, omega arith, omega arith),
        ((omega arith, omega arith, omega arith, omega arith, omega arith, omega arith), tt),
      ),
    )

all_threads : (seed n : ℕ) → n ≤ 12 → AllByRecursion IsDeclInRange (decls_for (threads seed) n)
all_threads seed zero low = tt
all_threads seed (suc n) low = both_in_range (decls_for (threads seed) n) (threads seed n) (all_threads seed n (omega arith)) (threads_in_range seed n (omega arith))

rights_small : all_small (decls_for rights 4) ≡ true
unfolding all_small are_small is_small
rights_small = refl

spaces_small : all_small (decls_for space 12) ≡ true
unfolding all_small are_small is_small
spaces_small = refl

rows_small : all_small (decls_for rows 12) ≡ true
unfolding all_small are_small is_small
rows_small = refl

pub behind_in_range : (seed : ℕ) → AllByRecursion IsDeclInRange (behind_kernels seed)
behind_in_range seed =
    let last = decls_for rows 12 in
    let late = decls_for (threads seed) 12 ++ last in
    both_in_range (decls_for rights 4) (decls_for space 12 ++ late) (all_in_range (decls_for rights 4) rights_small)
    (both_in_range (decls_for space 12) late (all_in_range (decls_for space 12) spaces_small)
    (both_in_range (decls_for (threads seed) 12) last (all_threads seed 12 (omega arith)) (all_in_range last rows_small)))
