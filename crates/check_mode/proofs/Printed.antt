-- A printed scenario ends with its first line whose only field is end.
use Rattle.std.proofs.Common.{◌≡◌, ℕ, ◌+◌, ◌<◌, Bool, true, false, cond, List, [], ◌∷◌, ◌++◌, length, take, drop, Some, None, refl, sym, ap, ◌∙◌, subst, append_assoc, arith}
use Rattle.std.specs.Prelude.{codes}
use Rattle.std.specs.List.{AllByRecursion, flat_map}
use Rattle.std.specs.Fmt.{decimal}
use Rattle.std.proofs.lemmas.Bool.{ne_eqb}
use Rattle.std.proofs.Math.Seq.{take-append_seam, drop-append_seam}
use Rattle.std.proofs.lemmas.List.{length-append}
use Rattle.flat_machine.specs.flat_state.specs.declared.events.Decl.{Decl}
use Rattle.flat_machine.specs.flat_state.specs.declared.events.Decl.TheVariants as decls
use Rattle.journal_text.specs.Ranges.{IsDeclInRange}
use Rattle.text_fields.specs.Lines.{fields, is_feed, one, pieces, without_comment, without_return}
use Rattle.scenario_reader.specs.scenario_lines.specs.Lines.{is_only}
use Rattle.scenario_print.specs.Texts.{decl_text, scenario_text, spaced}
use Rattle.scenario_print.proofs.Lines.{all_fields, fed, ink_from, line_clean, no_comment, no_fields, whole_line, AreFields, IsClean, IsInk}
use Rattle.scenario_print.proofs.Again.{are_fields, behind_line, caps_fields, caps_line, fields_of, machine_text, word_ink_of, word_of, word_some_of, IsBehind}
use Rattle.check_mode.specs.Parts.{bytes_to_end, is_end, journal_part, scenario_part}

-- whatever stands behind the text, it takes the whole text to the first line that ends a scenario
abbrev EndsWithEnd : List ℕ → Type 0
EndsWithEnd text = (behind : List ℕ) → bytes_to_end (pieces is_feed (text ++ behind)) ≡ length text

-- a line of a word and more fields is no such line
other_line : (word f : List ℕ) (fs : List (List ℕ)) → IsInk word → 0 < length word → AreFields (f ∷ fs) → is_end (word ++ flat_map spaced (f ∷ fs)) ≡ false
unfolding one
other_line word f fs ink some are =
    let line = word ++ flat_map spaced (f ∷ fs) in
    let clean = line_clean word (f ∷ fs) ink are in
    ap (λ (l : List ℕ). is_only (codes "end") (one (fields (without_comment l)))) (whole_line line clean)
    ∙ ap (λ (l : List ℕ). is_only (codes "end") (one (fields l))) (no_comment line clean)
    ∙ ap (λ (l : List (List ℕ)). is_only (codes "end") (one l)) (all_fields word (f ∷ fs) ink some are)
    ∙ ap (λ (b : Bool). is_only (codes "end") (cond b (Some word) None)) (ne_eqb (length (f ∷ fs)) 0 (λ e. omega arith))

-- and so it stands in front of what ends with one
in_front : (line text : List ℕ) → IsClean line → is_end line ≡ false → EndsWithEnd text → EndsWithEnd (line ++ (10 ∷ text))
in_front line text clean other so behind =
    let first : bytes_to_end (pieces is_feed ((line ++ (10 ∷ text)) ++ behind)) ≡ length line + 1 + cond (is_end line) 0 (bytes_to_end (pieces is_feed (text ++ behind))) =
    ap (λ (x : List ℕ). bytes_to_end (pieces is_feed x)) (append_assoc line (10 ∷ text) behind) ∙ ap bytes_to_end (fed line (text ++ behind) clean) in
    let goes_on : length line + 1 + cond (is_end line) 0 (bytes_to_end (pieces is_feed (text ++ behind))) ≡ length line + 1 + length text =
    ap (λ (b : Bool). length line + 1 + cond b 0 (bytes_to_end (pieces is_feed (text ++ behind)))) other ∙ ap (λ (n : ℕ). length line + 1 + n) (so behind) in
    let long : length line + 1 + length text ≡ length (line ++ (10 ∷ text)) = omega (arith, length-append line (10 ∷ text)) in
    first ∙ goes_on ∙ long

-- and the last line is one
end_ends : is_end (codes "end") ≡ true
unfolding pieces without_return without_comment fields one
end_ends = refl

last : EndsWithEnd (codes "end\n")
last behind =
    ap bytes_to_end (fed (codes "end") behind (line_clean (codes "end") [] (ink_from (codes "end") refl) no_fields))
    ∙ ap (λ (b : Bool). 4 + cond b 0 (bytes_to_end (pieces is_feed behind))) end_ends

-- the lines of a declaration
field_line : (word f : List ℕ) (fs : List (List ℕ)) (text : List ℕ) → IsInk word → 0 < length word → AreFields (f ∷ fs) → EndsWithEnd text → EndsWithEnd ((word ++ flat_map spaced (f ∷ fs)) ++ (10 ∷ text))
field_line word f fs text ink some are so = in_front (word ++ flat_map spaced (f ∷ fs)) text (line_clean word (f ∷ fs) ink are) (other_line word f fs ink some are) so

-- those that stand behind the machine have one line
behind_machine : (d : Decl) (f : List ℕ) (fs : List (List ℕ)) (text : List ℕ) → fields_of d ≡ f ∷ fs → IsBehind d → IsDeclInRange d → EndsWithEnd text → EndsWithEnd (decl_text d ++ text)
behind_machine d f fs text are is small so =
    let line : EndsWithEnd ((word_of d ++ flat_map spaced (f ∷ fs)) ++ (10 ∷ text)) = field_line (word_of d) f fs text (word_ink_of d) (word_some_of d) (subst AreFields are (are_fields d small)) so in
    subst EndsWithEnd (sym (behind_line d text is)) (subst (λ (x : List (List ℕ)). EndsWithEnd ((word_of d ++ flat_map spaced x) ++ (10 ∷ text))) (sym are) line)

decl_line : (d : Decl) (text : List ℕ) → IsDeclInRange d → EndsWithEnd text → EndsWithEnd (decl_text d ++ text)
decl_line (decls.Machine m) text small so =
    subst EndsWithEnd (sym (machine_text m text))
    (field_line (codes "mem") (decimal m.groups) [] (caps_line m ++ (10 ∷ text)) (ink_from (codes "mem") refl) (omega arith) (are_fields (decls.Machine m) small)
    (field_line (codes "caps") (decimal m.caps.kernels) (decimal m.caps.spaces ∷ decimal m.caps.threads ∷ decimal m.caps.mappings ∷ []) text (ink_from (codes "caps") refl) (omega arith) (caps_fields m small.1) so))
decl_line (decls.Kernel n limits) text small so = behind_machine (decls.Kernel n limits) _ _ text refl tt small so
decl_line (decls.Right kernel group read write) text small so = behind_machine (decls.Right kernel group read write) _ _ text refl tt small so
decl_line (decls.Space n kernel) text small so = behind_machine (decls.Space n kernel) _ _ text refl tt small so
decl_line (decls.Thread n space pc priority a0 a1) text small so = behind_machine (decls.Thread n space pc priority a0 a1) _ _ text refl tt small so
decl_line (decls.Map space vpn frame flags receiver) text small so = behind_machine (decls.Map space vpn frame flags receiver) _ _ text refl tt small so
decl_line (decls.Word frame offset value) text small so = behind_machine (decls.Word frame offset value) _ _ text refl tt small so

all_lines : (ds : List Decl) → AllByRecursion IsDeclInRange ds → EndsWithEnd (scenario_text ds)
all_lines [] small = last
all_lines (d ∷ ds) small = subst EndsWithEnd (sym (append_assoc (decl_text d) (flat_map decl_text ds) (codes "end\n"))) (decl_line d (scenario_text ds) small.0 (all_lines ds small.1))

-- so it is cut off there
pub scenario_before : (ds : List Decl) (behind : List ℕ) → AllByRecursion IsDeclInRange ds → scenario_part (scenario_text ds ++ behind) ≡ scenario_text ds
unfolding scenario_part
scenario_before ds behind small = ap (λ (n : ℕ). take n (scenario_text ds ++ behind)) (all_lines ds small behind) ∙ take-append_seam (scenario_text ds) behind

pub journal_behind : (ds : List Decl) (behind : List ℕ) → AllByRecursion IsDeclInRange ds → journal_part (scenario_text ds ++ behind) ≡ behind
unfolding journal_part
journal_behind ds behind small = ap (λ (n : ℕ). drop n (scenario_text ds ++ behind)) (all_lines ds small behind) ∙ drop-append_seam (scenario_text ds) behind
