-- Declarations and lines one after another.
use Rattle.std.proofs.Common.{◌≡◌, ℕ, suc, ◌+◌, ◌%◌, ◌<◌, ◌≤◌, Bool, true, false, not, ◌||◌, eqb, ltb, List, [], ◌∷◌, length, map, drop, get_or, Option, Some, None, Result, Ok, Err, refl, sym, ap, subst, ◌∙◌, drop-cons, arith, inl, inr, ◌⊎◌}
use Rattle.std.proofs.lemmas.List.{drop_all}
use Rattle.std.proofs.lemmas.Bool.{ltb-false}
use Rattle.std.proofs.lemmas.Option.{none-some, same_Some}
use Rattle.std.specs.Option.{MatchOption, IfSome}
use denote.Ref.{Bor}
use Rattle.cache_ident.specs.declared.names.Frame.{Frame}
use Rattle.flat_machine.specs.flat_state.specs.declared.events.Machine.{Machine}
use Rattle.flat_machine.specs.flat_state.specs.declared.events.Decl.{Decl}
use Rattle.flat_machine.specs.flat_state.specs.declared.events.Decl.TheVariants as decls
use Rattle.flat_machine.specs.flat_state.specs.State.{FlatState}
use Rattle.flat_machine.specs.flat_state.specs.Declaration.{broken_rule, rule_by_machine, has_frame}
use Rattle.text_fields.specs.Reading.{first_of}
use Rattle.text_fields.specs.Lines.{lines}
use Rattle.scenario_lines.specs.Forms.{word_value}
use Rattle.image_decls.proofs.Sized.{unbroken}
use Rattle.scenario_reader.specs.declared.fault.ScenarioFault.{ScenarioFault}
use Rattle.scenario_reader.specs.declared.fault.ScenarioFault.TheVariants.{NoMemory}
use Rattle.scenario_reader.specs.Readings.{Reading, start, unless, declare, declare_all, word_decls}
use Rattle.scenario_reader.specs.Scenarios.{step, finish, reads, scenario}

-- ---- declarations

pub more_of : (r next start : Reading) (ds rest whole : List Decl) (d : Decl) → declare_all r ds ≡ declare_all start whole → ds ≡ d ∷ rest → declare r d ≡ Ok next → declare_all next rest ≡ declare_all start whole
unfolding declare_all
more_of r next start ds rest whole d so_far is e =
    let goes : declare_all r (d ∷ rest) ≡ declare_all next rest = rw e refl in
    sym goes ∙ sym (ap (λ (x : List Decl). declare_all r x) is) ∙ so_far

pub stops_at : (r start : Reading) (ds rest whole : List Decl) (d : Decl) (e : ScenarioFault) → declare_all r ds ≡ declare_all start whole → ds ≡ d ∷ rest → (e ≡ NoMemory) ⊎ (declare r d ≡ Err e) → (e ≡ NoMemory) ⊎ (declare_all start whole ≡ Err e)
unfolding declare_all
stops_at r start ds rest whole d e so_far is (inl none) = inl none
stops_at r start ds rest whole d e so_far is (inr failed) =
    let stops : declare_all r (d ∷ rest) ≡ Err e = rw failed refl in
    inr (sym so_far ∙ ap (λ (x : List Decl). declare_all r x) is ∙ stops)

pub done : (r start : Reading) (ds whole : List Decl) → declare_all r ds ≡ declare_all start whole → ds ≡ [] → declare_all start whole ≡ Ok r
unfolding declare_all
done r start ds whole so_far none = sym so_far ∙ ap (λ (x : List Decl). declare_all r x) none

pub cut : {A : Type 0} (xs : List A) (i : ℕ) (d : A) → i < length xs → drop i xs ≡ get_or xs i d ∷ drop (i + 1) xs
cut xs i d h =
    let e : i + 1 ≡ suc i = omega arith in
    rw e (drop-cons xs i d h)

pub words_cut : (frame : Frame) (offset : ℕ) (ws : List ℕ) (i d : ℕ) → i < length ws → word_decls frame offset (drop i ws) ≡ decls.Word frame offset (get_or ws i d) ∷ word_decls frame (offset + 4) (drop (i + 1) ws)
unfolding word_decls
words_cut frame offset ws i d h = ap (λ (x : List ℕ). word_decls frame offset x) (cut ws i d h)

pub words_none : (frame : Frame) (offset : ℕ) (ws : List ℕ) (i : ℕ) → length ws ≤ i → word_decls frame offset (drop i ws) ≡ []
unfolding word_decls
words_none frame offset ws i h = ap (λ (x : List ℕ). word_decls frame offset x) (drop_all i ws h)

field_first : (fs : List (List ℕ)) (f : List ℕ) (more : List (List ℕ)) → first_of fs ≡ Some (f, more) → fs ≡ f ∷ more
field_first [] f more e = absurd (none-some _ e)
field_first (x ∷ xs) f more e = ap (λ (p : List ℕ × List (List ℕ)). p.0 ∷ p.1) (same_Some _ _ e)

field_none : (fs : List (List ℕ)) → first_of fs ≡ None → fs ≡ []
field_none [] e = refl
field_none (x ∷ xs) e = absurd cc

pub fields_cut : (frame : Frame) (offset : ℕ) (fs : List (List ℕ)) (f : List ℕ) (more : List (List ℕ)) (value : ℕ) → first_of fs ≡ Some (f, more) → value ≡ word_value f → word_decls frame offset (map word_value fs) ≡ decls.Word frame offset value ∷ word_decls frame (offset + 4) (map word_value more)
unfolding word_decls
fields_cut frame offset fs f more value e is =
    ap (λ (x : List (List ℕ)). word_decls frame offset (map word_value x)) (field_first fs f more e) ∙ ap (λ (v : ℕ). decls.Word frame offset v ∷ word_decls frame (offset + 4) (map word_value more)) (sym is)

pub fields_none : (frame : Frame) (offset : ℕ) (fs : List (List ℕ)) → first_of fs ≡ None → word_decls frame offset (map word_value fs) ≡ []
unfolding word_decls
fields_none frame offset fs e = ap (λ (x : List (List ℕ)). word_decls frame offset (map word_value x)) (field_none fs e)

-- ---- the offset of a word that is declared

unless_ok : (o : Option ℕ) (r n m : Reading) → unless o r n ≡ Ok m → o ≡ None
unless_ok None r n m e = refl
unless_ok (Some rule) r n m e = absurd cc

or_right : (a b : Bool) → (a || b) ≡ false → b ≡ false
or_right true b e = absurd cc
or_right false b e = e

fits_machine : (m : Option Machine) (s : FlatState) (frame : Frame) (offset value : ℕ) → rule_by_machine m s (decls.Word frame offset value) ≡ None → offset ≤ 4092
fits_machine None s frame offset value e = absurd (none-some _ (sym e))
fits_machine (Some m) s frame offset value e =
    let a = unbroken (not (has_frame s frame)) 13 _ e in
    let b = unbroken (not (eqb (offset % 4) 0) || ltb 4092 offset) 15 None a.1 in
    ltb-false 4092 offset (or_right (not (eqb (offset % 4) 0)) (ltb 4092 offset) b.0)

pub word_fits : (r next : Reading) (frame : Frame) (offset value : ℕ) → declare r (decls.Word frame offset value) ≡ Ok next → offset ≤ 4092
unfolding declare broken_rule
word_fits r next frame offset value e = fits_machine r.flat.machine r.flat frame offset value (unless_ok (broken_rule r.flat (decls.Word frame offset value)) r _ next e)

-- ---- lines

pub line_more : (number : ℕ) (r next : Reading) (line : List ℕ) (ls more : List (List ℕ)) (meant : Result (List Decl) ScenarioFault) → reads number r ls ≡ meant → ls ≡ line ∷ more → step number r line ≡ Ok next → reads (number + 1) next more ≡ meant
unfolding reads
line_more number r next line ls more meant so_far is e =
    let goes : reads number r (line ∷ more) ≡ reads (number + 1) next more = rw e refl in
    sym goes ∙ sym (ap (λ (x : List (List ℕ)). reads number r x) is) ∙ so_far

pub line_last : (number : ℕ) (r next : Reading) (line : List ℕ) (ls : List (List ℕ)) (meant : Result (List Decl) ScenarioFault) → reads number r ls ≡ meant → ls ≡ line ∷ [] → step number r line ≡ Ok next → finish next ≡ meant
unfolding reads
line_last number r next line ls meant so_far is e = line_more number r next line ls [] meant so_far is e

pub line_fails : (number : ℕ) (r : Reading) (line : List ℕ) (ls more : List (List ℕ)) (meant : Result (List Decl) ScenarioFault) (e : ScenarioFault) → reads number r ls ≡ meant → ls ≡ line ∷ more → (e ≡ NoMemory) ⊎ (step number r line ≡ Err e) → (e ≡ NoMemory) ⊎ (meant ≡ Err e)
unfolding reads
line_fails number r line ls more meant e so_far is (inl none) = inl none
line_fails number r line ls more meant e so_far is (inr failed) =
    let stops : reads number r (line ∷ more) ≡ Err e = rw failed refl in
    inr (sym so_far ∙ ap (λ (x : List (List ℕ)). reads number r x) is ∙ stops)

pub begins : (r : Reading) (text : List ℕ) → r ≡ start → reads 1 r (lines text) ≡ scenario text
unfolding scenario
begins r text e = ap (λ (x : Reading). reads 1 x (lines text)) e

abbrev pub FirstLine : List (List ℕ) → List ℕ → Option (Bor (List ℕ)) → Type 0
FirstLine ls line o = MatchOption o (ls ≡ line ∷ []) (λ r. ls ≡ line ∷ lines r.now)

pub some_more : (ls : List (List ℕ)) (line : List ℕ) (o : Option (Bor (List ℕ))) → FirstLine ls line o → (more : List (List ℕ)) × (ls ≡ line ∷ more)
some_more ls line None h = ([], h)
some_more ls line (Some r) h = (lines r.now, h)

pub at_some : (ls : List (List ℕ)) (line : List ℕ) (o : Option (Bor (List ℕ))) (r : Bor (List ℕ)) → FirstLine ls line o → o ≡ Some r → ls ≡ line ∷ lines r.now
at_some ls line o r h e = subst (FirstLine ls line) e h

pub at_none : (ls : List (List ℕ)) (line : List ℕ) (o : Option (Bor (List ℕ))) → FirstLine ls line o → o ≡ None → ls ≡ line ∷ []
at_none ls line o h e = subst (FirstLine ls line) e h

pub shorter_at : (rest : List ℕ) (o : Option (Bor (List ℕ))) (r : Bor (List ℕ)) → IfSome o (λ x. length x.now < length rest) → o ≡ Some r → length r.now < length rest
shorter_at rest o r h e = subst (λ (x : Option (Bor (List ℕ))). IfSome x (λ y. length y.now < length rest)) e h
