-- Rows that are declared are found, whatever is declared behind them.
use Rattle.std.proofs.Common.{◌≡◌, ℕ, ◌*◌, ◌%◌, ◌<◌, ◌≤◌, Bool, true, false, not, ◌||◌, eqb, cond, List, [], ◌∷◌, ◌++◌, Option, Some, None, is_some, refl, ap, ◌∙◌, subst, inl, inr}
use Rattle.std.specs.Prelude.{nat_lt}
use Rattle.std.specs.List.{find}
use Rattle.std.specs.Option.{option_or}
use Rattle.std.proofs.lemmas.Bool.{and_from, eq-eqb, ltb-true, ltb-false}
use Rattle.std.proofs.lemmas.List.Folds.{find-append}
use Rattle.cache_ident.specs.declared.names.SpaceNo.{SpaceNo}
use Rattle.cache_ident.specs.declared.names.Vpn.{Vpn}
use Rattle.cache_ident.specs.declared.names.Frame.{Frame}
use Rattle.phys_groups.specs.declared.rows.Flags.{Flags}
use Rattle.phys_groups.specs.declared.rows.Row.{Row}
use Rattle.phys_groups.specs.Translation.{is_row_of, row_of}
use Rattle.image_decls.specs.flat_state.specs.declared.events.Decl.{Decl}
use Rattle.image_decls.specs.flat_state.specs.declared.events.Decl.TheVariants as decls
use Rattle.image_decls.specs.flat_state.specs.State.{FlatState, groups_of}
use Rattle.image_decls.specs.flat_state.specs.Declaration.{broken_rule, declared, has_frame, new_row, rule_of_map, rule_of_word}
use Rattle.image_decls.specs.flat_state.specs.Events.{AllFit, after_declarations}
use Rattle.image_decls.specs.flat_state.proofs.FormedParts.{breaks_none, other_rule}
use Rattle.image_memory.proofs.Listed.{IsIn}

-- a row in front is found before one behind
found_in_front : (rows : List Row) (new : Row) (space : SpaceNo) (vpn : ℕ) (row : Row) → row_of rows space vpn ≡ Some row → row_of (rows ++ new ∷ []) space vpn ≡ Some row
found_in_front rows new space vpn row here = find-append (is_row_of space vpn) rows (new ∷ []) ∙ ap (λ (o : Option Row). option_or o (find (is_row_of space vpn) (new ∷ []))) here

found_behind : (rows : List Row) (new : Row) (space : SpaceNo) (vpn : ℕ) → row_of rows space vpn ≡ None → is_row_of space vpn new ≡ true → row_of (rows ++ new ∷ []) space vpn ≡ Some new
found_behind rows new space vpn none passes =
    find-append (is_row_of space vpn) rows (new ∷ []) ∙ ap (λ (o : Option Row). option_or o (find (is_row_of space vpn) (new ∷ []))) none ∙ ap (λ (b : Bool). cond b (Some new) None) passes

row_stays : (s : FlatState) (d : Decl) (space : SpaceNo) (vpn : ℕ) (row : Row) → row_of s.rows space vpn ≡ Some row → row_of (declared s d).rows space vpn ≡ Some row
unfolding declared
row_stays s (decls.Machine machine) space vpn row here = here
row_stays s (decls.Kernel n limits) space vpn row here = here
row_stays s (decls.Right kernel group read write) space vpn row here = here
row_stays s (decls.Space n kernel) space vpn row here = here
row_stays s (decls.Thread n in_space pc priority a0 a1) space vpn row here = here
row_stays s (decls.Map of_space page frame flags receiver) space vpn row here = found_in_front s.rows (new_row of_space page frame flags receiver) space vpn row here
row_stays s (decls.Word frame offset value) space vpn row here = here

rows_stay : (ds : List Decl) (s : FlatState) (space : SpaceNo) (vpn : ℕ) (row : Row) → row_of s.rows space vpn ≡ Some row → row_of (after_declarations s ds).rows space vpn ≡ Some row
rows_stay [] s space vpn row here = here
rows_stay (d ∷ ds) s space vpn row here = rows_stay ds (declared s d) space vpn row (row_stays s d space vpn row here)

none_there : (o : Option Row) → is_some o ≡ false → o ≡ None
none_there None e = refl
none_there (Some row) e = absurd cc

-- a page has no row before its own is declared
page_is_free : (s : FlatState) (space : SpaceNo) (vpn : Vpn) (frame : Frame) (flags : Flags) → rule_of_map s space vpn frame flags None ≡ None → row_of s.rows space vpn.0 ≡ None
page_is_free s space vpn frame flags e =
    let a = breaks_none _ 4 _ e in
    let b = breaks_none _ 9 _ a.1 in
    let c = breaks_none _ 12 _ b.1 in
    let d = breaks_none _ 13 _ c.1 in
    let f = breaks_none _ 16 _ d.1 in
    let g = breaks_none (is_some (row_of s.rows space vpn.0)) 17 _ f.1 in
    none_there (row_of s.rows space vpn.0) g.0

row_made : (s : FlatState) (space : SpaceNo) (vpn : Vpn) (frame : Frame) (flags : Flags) → broken_rule s (decls.Map space vpn frame flags None) ≡ None → row_of (declared s (decls.Map space vpn frame flags None)).rows space vpn.0 ≡ Some (new_row space vpn frame flags None)
unfolding broken_rule declared
row_made s space vpn frame flags e =
    found_behind s.rows (new_row space vpn frame flags None) space vpn.0 (page_is_free s space vpn frame flags (other_rule s.machine s (decls.Map space vpn frame flags None) refl e)) (and_from (eqb space.0 space.0) (eqb vpn.0 vpn.0) (eq-eqb space.0 space.0 refl) (eq-eqb vpn.0 vpn.0 refl))

-- a row that is declared among others is the row of its page in the end
pub row_among : (ds : List Decl) (s : FlatState) (space : SpaceNo) (vpn : Vpn) (frame : Frame) (flags : Flags) → AllFit s ds → IsIn (decls.Map space vpn frame flags None) ds → row_of (after_declarations s ds).rows space vpn.0 ≡ Some (new_row space vpn frame flags None)
row_among [] s space vpn frame flags fit there = absurd there
row_among (d ∷ ds) s space vpn frame flags fit (inl here) =
    let fits : broken_rule s (decls.Map space vpn frame flags None) ≡ None = subst (λ (x : Decl). broken_rule s x ≡ None) here fit.0 in
    rows_stay ds (declared s d) space vpn.0 (new_row space vpn frame flags None) (ap (λ (x : Decl). row_of (declared s x).rows space vpn.0) here ∙ row_made s space vpn frame flags fits)
row_among (d ∷ ds) s space vpn frame flags fit (inr later) = row_among ds (declared s d) space vpn frame flags fit.1 later

is_true : (b : Bool) → not b ≡ false → b ≡ true
is_true true e = refl
is_true false e = absurd cc

second : (b c : Bool) → (b || c) ≡ false → c ≡ false
second true c e = absurd cc
second false c e = e

-- a word that fits lies in a frame of memory
pub word_lies : (s : FlatState) (frame : Frame) (offset value : ℕ) → broken_rule s (decls.Word frame offset value) ≡ None → (frame.0 < 128 * groups_of s.machine) × (offset ≤ 4092)
unfolding broken_rule
word_lies s frame offset value e =
    let rule : rule_of_word s frame offset ≡ None = other_rule s.machine s (decls.Word frame offset value) refl e in
    let a = breaks_none (not (has_frame s frame)) 13 _ rule in
    let b = breaks_none (not (eqb (offset % 4) 0) || nat_lt 4092 offset) 15 None a.1 in
    (ltb-true frame.0 (128 * groups_of s.machine) (is_true (has_frame s frame) a.0), ltb-false 4092 offset (second (not (eqb (offset % 4) 0)) (nat_lt 4092 offset) b.0))
