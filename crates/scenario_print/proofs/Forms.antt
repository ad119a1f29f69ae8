-- Each printed line is read as its form.
use Rattle.std.proofs.Common.{◌≡◌, eqb, ℕ, ◌<◌, false, List, [], ◌∷◌, ◌++◌, map, length, Option, Some, None, Ok, refl, arith}
use Rattle.std.specs.Prelude.{codes}
use Rattle.std.specs.Fmt.{decimal}
use Rattle.std.proofs.lemmas.Bool.{ne_eqb}
use Rattle.std.specs.List.{flat_map}
use Rattle.cache_ident.specs.declared.names.Caps.{Caps}
use Rattle.cache_ident.specs.declared.names.KernelNo.{KernelNo}
use Rattle.cache_ident.specs.declared.names.SpaceNo.{SpaceNo}
use Rattle.cache_ident.specs.declared.names.ThreadNo.{ThreadNo}
use Rattle.cache_ident.specs.declared.names.Vpn.{Vpn}
use Rattle.cache_ident.specs.declared.names.Frame.{Frame}
use Rattle.phys_groups.specs.declared.rows.Flags.{Flags}
use Rattle.flat_state.specs.declared.events.Decl.TheVariants as decls
use Rattle.flat_state.specs.Declaration.{has_no_flag}
use Rattle.text_fields.specs.Lines as lines
use Rattle.text_fields.specs.Numbers.{word_text}
use Rattle.journal_text.specs.Lines.{rights_text, flags_text}
use Rattle.journal_text.specs.Ranges.{IsSmall, AreCapsInRange, IsReceiverInRange}
use Rattle.scenario_reader.specs.scenario_lines.specs.Shapes.{next, no_more, single, pair, triple, quadruple, option, locks, thread_fields, row_fields, word_fields}
use Rattle.scenario_reader.specs.scenario_lines.specs.Forms.{Memory, Capacities, Declares, Words, memory_line, amounts, capacities_line, limits, kernel_line, right_line, space_line, thread_line, receiver, row_line, words, word_line}
use Rattle.scenario_reader.specs.scenario_lines.specs.Lines.{by_word, line_of}
use Rattle.scenario_print.specs.Texts.{spaced}
use Rattle.scenario_print.specs.Texts as texts
use Rattle.scenario_print.proofs.Lines.{IsInk, AreFields, line_clean, all_fields, no_comment, plain}
use Rattle.text_fields.proofs.Words.{word_reads}
use Rattle.scenario_print.proofs.Values.{decimal_some, value_again, option_again, rights_again, flags_again}

-- a line is read by its word and its fields
pub by_parts : (word : List ℕ) (fs : List (List ℕ)) → IsInk word → 0 < length word → AreFields fs → line_of (word ++ flat_map spaced fs) ≡ by_word word fs
unfolding line_of
by_parts word fs h some k =
    let clean = line_clean word fs h k in
    rw (no_comment (word ++ flat_map spaced fs) clean, plain (word ++ flat_map spaced fs) clean, all_fields word fs h some k) refl

abbrev pub signal_fields : Option ThreadNo → List (List ℕ)
signal_fields None = []
signal_fields (Some thread) = codes "signal" ∷ decimal thread.0 ∷ []

-- ---- the forms

pub memory_form : (groups : ℕ) → IsSmall groups → by_word (codes "mem") (decimal groups ∷ []) ≡ Ok (Memory groups)
unfolding by_word memory_line single lines.one
memory_form groups small = rw (value_again groups small) refl

pub capacities_form : (caps : Caps) → AreCapsInRange caps → by_word (codes "caps") (map decimal (texts.amounts caps)) ≡ Ok (Capacities caps)
unfolding by_word capacities_line quadruple lines.four lines.three lines.two lines.one amounts
capacities_form caps small = rw (value_again caps.kernels small.0, value_again caps.spaces small.1, value_again caps.threads small.2, value_again caps.mappings small.3) refl

pub kernel_form : (n : KernelNo) (caps : Caps) → IsSmall n.0 → AreCapsInRange caps → by_word (codes "kernel") (decimal n.0 ∷ codes "locks" ∷ map decimal (texts.amounts caps)) ≡ Ok (Declares (decls.Kernel n caps))
unfolding by_word kernel_line next locks quadruple lines.four lines.three lines.two lines.one limits
kernel_form n caps small few = rw (value_again n.0 small, option_again _ caps.kernels few.0, option_again 0 caps.spaces few.1, option_again 0 caps.threads few.2, option_again 0 caps.mappings few.3) refl

pub right_form : (kernel : KernelNo) (group : ℕ) (read write : _) → IsSmall kernel.0 → IsSmall group → by_word (codes "right") (decimal kernel.0 ∷ decimal group ∷ rights_text read write ∷ []) ≡ Ok (Declares (decls.Right kernel group read write))
unfolding by_word right_line triple lines.three lines.two lines.one
right_form kernel group read write small low = rw (value_again kernel.0 small, value_again group low, rights_again read write) refl

pub space_form : (n : SpaceNo) (kernel : KernelNo) → IsSmall n.0 → IsSmall kernel.0 → by_word (codes "space") (decimal n.0 ∷ decimal kernel.0 ∷ []) ≡ Ok (Declares (decls.Space n kernel))
unfolding by_word space_line pair lines.two lines.one
space_form n kernel small low = rw (value_again n.0 small, value_again kernel.0 low) refl

pub thread_form : (n : ThreadNo) (space : SpaceNo) (pc priority a0 a1 : ℕ) → IsSmall n.0 → IsSmall space.0 → IsSmall pc → IsSmall priority → IsSmall a0 → IsSmall a1
    → by_word (codes "thread") (decimal n.0 ∷ decimal space.0 ∷ decimal pc ∷ codes "prio" ∷ decimal priority ∷ codes "a0" ∷ decimal a0 ∷ codes "a1" ∷ decimal a1 ∷ []) ≡ Ok (Declares (decls.Thread n space pc priority a0 a1))
unfolding by_word thread_line thread_fields next option no_more
thread_form n space pc priority a0 a1 hn hs hp hq ha hb =
    rw (value_again n.0 hn, value_again space.0 hs, value_again pc hp, option_again 0 priority hq, option_again 0 a0 ha, option_again 0 a1 hb) refl

pub row_form : (space : SpaceNo) (vpn : Vpn) (frame : Frame) (f : Flags) (o : Option ThreadNo) → IsSmall space.0 → IsSmall vpn.0 → IsSmall frame.0 → IsReceiverInRange o → has_no_flag f ≡ false
    → by_word (codes "map") (decimal space.0 ∷ decimal vpn.0 ∷ decimal frame.0 ∷ flags_text f ∷ signal_fields o) ≡ Ok (Declares (decls.Map space vpn frame f o))
unfolding by_word row_line row_fields next option no_more receiver
row_form space vpn frame f None hs hv hf ho some = rw (value_again space.0 hs, value_again vpn.0 hv, value_again frame.0 hf, flags_again f some) refl
row_form space vpn frame f (Some thread) hs hv hf ho some =
    let signals : eqb (length (decimal thread.0)) 0 ≡ false = ne_eqb (length (decimal thread.0)) 0 (λ e. let long = decimal_some thread.0 ho in omega arith) in
    rw (value_again space.0 hs, value_again vpn.0 hv, value_again frame.0 hf, flags_again f some, signals, value_again thread.0 ho) refl

pub word_form : (frame : Frame) (offset v : ℕ) → IsSmall frame.0 → IsSmall offset → IsSmall v → by_word (codes "word") (decimal frame.0 ∷ decimal offset ∷ word_text v ∷ []) ≡ Ok (Words frame offset (v ∷ []))
unfolding by_word word_line word_fields next words
word_form frame offset v hf ho hv = rw (value_again frame.0 hf, value_again offset ho, word_reads v hv) refl
