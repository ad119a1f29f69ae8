-- Openings fit, begin with the machine, and are read as scenarios are.
use Rattle.std.proofs.Common.{◌≡◌, ℕ, ◌+◌, Bool, true, false, cond, List, [], ◌∷◌, length, Some, None, Result, Ok, Err, refl, sym, ap, subst, ◌∙◌, arith, inl, inr, ◌⊎◌}
use Rattle.std.specs.Prelude.{◌==◌, IfOk}
use Rattle.std.proofs.lemmas.Option.{none-some}
use Rattle.flat_machine.specs.flat_state.specs.declared.events.TheConstants.{GREATEST_CAPS}
use Rattle.flat_machine.specs.flat_state.specs.declared.events.Decl.{Decl}
use Rattle.flat_machine.specs.flat_state.specs.declared.events.Decl.TheVariants as decls
use Rattle.flat_machine.specs.flat_state.specs.declared.events.Machine.{Machine}
use Rattle.flat_machine.specs.flat_state.specs.State.{nothing_declared}
use Rattle.flat_machine.specs.flat_state.specs.Declaration.{broken_rule, rule_of_early}
use Rattle.flat_machine.specs.flat_state.specs.Events.{AllFit}
use Rattle.text_fields.specs.Lines.{lines}
use Rattle.scenario_lines.specs.Forms.{Line}
use Rattle.scenario_lines.specs.Forms as forms
use Rattle.scenario_lines.specs.Lines.{line_of}
use Rattle.scenario_reader.specs.declared.fault.ScenarioFault.{ScenarioFault}
use Rattle.scenario_reader.specs.declared.fault.ScenarioFault.TheVariants as faults
use Rattle.scenario_reader.specs.Readings.{◌>>=◌, Place, Start, Memory, Body, Code, Image, Ended, Reading, start, declare, in_place, broken, Answers}
use Rattle.scenario_reader.specs.Scenarios.{at_place, by_form, ends, in_body, behind_memory, numbered, step, finish, reads, scenario}
use Rattle.scenario_reader.specs.Openings.{ends_it, ends_behind_memory, at_place_of_opening, step_of_opening, reads_opening, opening, WantsNoKernel}
use Rattle.scenario_reader.proofs.Whole.{Fits, Firm, HasSome, Stands, IsWhole, followed, declare_fits, place_keeps, whole_at}

-- ---- they fit

either : (b : Bool) (x y : Result Reading ScenarioFault) → IfOk x Stands → IfOk y Stands → IfOk (cond b x y) Stands
either true x y first second = first
either false x y first second = second

memory_ends : (r : Reading) (groups : ℕ) → Fits r → IfOk (ends_behind_memory r groups) Stands
memory_ends r groups h =
    followed Firm Stands (declare (in_place r Body) (decls.Machine (record { groups = groups; caps = GREATEST_CAPS }))) (λ next. Ok (in_place next Ended))
    (declare_fits (in_place r Body) (decls.Machine (record { groups = groups; caps = GREATEST_CAPS })) h) (λ next firm. firm)

opening_stays : (p : Place) (r : Reading) (line : List ℕ) → Stands r → HasSome p (length r.decls) → IfOk (at_place_of_opening p r line) Stands
opening_stays Start r line h some = place_keeps Start r line h some
opening_stays (Memory groups) r line h some = either (ends_it (line_of line)) (ends_behind_memory r groups) (at_place (Memory groups) r line) (memory_ends r groups h.0) (place_keeps (Memory groups) r line h some)
opening_stays Body r line h some = either (ends_it (line_of line)) (Ok (in_place r Ended)) (at_place Body r line) (h.0, some) (place_keeps Body r line h some)
opening_stays (Code frame offset) r line h some = place_keeps (Code frame offset) r line h some
opening_stays (Image space frame thread) r line h some = place_keeps (Image space frame thread) r line h some
opening_stays Ended r line h some = place_keeps Ended r line h some

step_stays : (number : ℕ) (r : Reading) (line : List ℕ) → Stands r → IfOk (step_of_opening number r line) Stands
unfolding step_of_opening
step_stays number r line h = opening_stays r.place (numbered r number) line h h.1

reads_fit : (number : ℕ) (r : Reading) (ls : List (List ℕ)) → Stands r → IfOk (reads_opening number r ls) IsWhole
unfolding reads_opening finish
reads_fit number r [] h = whole_at r.place r h.0 h.1
reads_fit number r (l ∷ ls) h = followed Stands IsWhole (step_of_opening number r l) (λ next. reads_opening (number + 1) next ls) (step_stays number r l h) (λ next stands. reads_fit (number + 1) next ls stands)

opening_fits : (text : List ℕ) → IfOk (opening text) IsWhole
unfolding opening
opening_fits text = reads_fit 1 start (lines text) ((tt, refl), tt)

-- ---- the machine comes first

abbrev pub BeginsWithMachine : List Decl → Type 0
BeginsWithMachine ds = (machine : Machine) × (rest : List Decl) × (ds ≡ decls.Machine machine ∷ rest)

late : (d : Decl) (P : Type 0) → Some (rule_of_early d) ≡ None → P
late d P e = absurd (none-some _ (sym e))

machine_first : (ds : List Decl) → IsWhole ds → BeginsWithMachine ds
unfolding broken_rule
machine_first [] h = absurd (omega arith)
machine_first (decls.Machine machine ∷ rest) h = (machine, rest, refl)
machine_first (decls.Kernel number limits ∷ rest) h = late (decls.Kernel number limits) _ h.0.0
machine_first (decls.Right kernel group read write ∷ rest) h = late (decls.Right kernel group read write) _ h.0.0
machine_first (decls.Space number kernel ∷ rest) h = late (decls.Space number kernel) _ h.0.0
machine_first (decls.Thread number space pc priority a0 a1 ∷ rest) h = late (decls.Thread number space pc priority a0 a1) _ h.0.0
machine_first (decls.Map space vpn frame flags receiver ∷ rest) h = late (decls.Map space vpn frame flags receiver) _ h.0.0
machine_first (decls.Word frame offset value ∷ rest) h = late (decls.Word frame offset value) _ h.0.0

with_machine : (result : Result (List Decl) ScenarioFault) → IfOk result IsWhole → IfOk result (λ ds. AllFit nothing_declared ds × BeginsWithMachine ds)
with_machine (Ok ds) h = (h.0, machine_first ds h)
with_machine (Err e) h = tt

-- what is read as an opening is meant has declarations that fit, and the machine's before all
pub answer_begins : (text : List ℕ) (result : Result (List Decl) ScenarioFault) → Answers (λ s. s) result (opening text) → IfOk result (λ ds. AllFit nothing_declared ds × BeginsWithMachine ds)
answer_begins text (Ok ds) meant = subst (λ (m : Result (List Decl) ScenarioFault). IfOk m (λ ds. AllFit nothing_declared ds × BeginsWithMachine ds)) meant (with_machine (opening text) (opening_fits text))
answer_begins text (Err e) meant = tt

pub fit_of : (result : Result (List Decl) ScenarioFault) → IfOk result (λ ds. AllFit nothing_declared ds × BeginsWithMachine ds) → IfOk result (λ ds. AllFit nothing_declared ds)
fit_of (Ok ds) h = h.0
fit_of (Err e) h = tt

pub machine_of : (result : Result (List Decl) ScenarioFault) → IfOk result (λ ds. AllFit nothing_declared ds × BeginsWithMachine ds) → IfOk result BeginsWithMachine
machine_of (Ok ds) h = h.1
machine_of (Err e) h = tt

-- ---- they are read as scenarios are

-- where the end is reached, or its fault isn't that one, both readings are one
bare_ends : (b : Bool) (r : Reading) → WantsNoKernel (cond b (broken {A = Reading} r 25) (Ok (in_place r Ended))) → Ok (in_place r Ended) ≡ cond b (broken {A = Reading} r 25) (Ok (in_place r Ended))
bare_ends true r h = absurd (h refl)
bare_ends false r h = refl

body_alike : (x : Result Line ℕ) (r : Reading) → WantsNoKernel (by_form in_body r x) → cond (ends_it x) (Ok (in_place r Ended)) (by_form in_body r x) ≡ by_form in_body r x
unfolding in_body
body_alike (Err rule) r h = refl
body_alike (Ok forms.Blank) r h = refl
body_alike (Ok (forms.Memory groups)) r h = refl
body_alike (Ok (forms.Capacities caps)) r h = refl
body_alike (Ok (forms.Declares decl)) r h = refl
body_alike (Ok (forms.Words frame offset words)) r h = refl
body_alike (Ok (forms.Code frame offset)) r h = refl
body_alike (Ok forms.EndCode) r h = refl
body_alike (Ok (forms.Image space frame thread)) r h = refl
body_alike (Ok forms.EndImage) r h = refl
body_alike (Ok forms.End) r h = bare_ends (length r.flat.kernels == 0) r h

declared_ends : (x : Result Reading ScenarioFault) → WantsNoKernel (x >>= ends) → (x >>= λ next. Ok (in_place next Ended)) ≡ (x >>= ends)
declared_ends (Ok r) h = bare_ends (length r.flat.kernels == 0) r h
declared_ends (Err e) h = refl

memory_alike : (x : Result Line ℕ) (r : Reading) (groups : ℕ) → WantsNoKernel (by_form (λ s. behind_memory s groups) r x) → cond (ends_it x) (ends_behind_memory r groups) (by_form (λ s. behind_memory s groups) r x) ≡ by_form (λ s. behind_memory s groups) r x
unfolding behind_memory in_body
memory_alike (Err rule) r groups h = refl
memory_alike (Ok forms.Blank) r groups h = refl
memory_alike (Ok (forms.Memory more)) r groups h = refl
memory_alike (Ok (forms.Capacities caps)) r groups h = refl
memory_alike (Ok (forms.Declares decl)) r groups h = refl
memory_alike (Ok (forms.Words frame offset words)) r groups h = refl
memory_alike (Ok (forms.Code frame offset)) r groups h = refl
memory_alike (Ok forms.EndCode) r groups h = refl
memory_alike (Ok (forms.Image space frame thread)) r groups h = refl
memory_alike (Ok forms.EndImage) r groups h = refl
memory_alike (Ok forms.End) r groups h = declared_ends (declare (in_place r Body) (decls.Machine (record { groups = groups; caps = GREATEST_CAPS }))) h

place_alike : (p : Place) (r : Reading) (line : List ℕ) → WantsNoKernel (at_place p r line) → at_place_of_opening p r line ≡ at_place p r line
place_alike Start r line h = refl
place_alike (Memory groups) r line h = memory_alike (line_of line) r groups h
place_alike Body r line h = body_alike (line_of line) r h
place_alike (Code frame offset) r line h = refl
place_alike (Image space frame thread) r line h = refl
place_alike Ended r line h = refl

step_alike : (number : ℕ) (r : Reading) (line : List ℕ) → WantsNoKernel (step number r line) → step_of_opening number r line ≡ step number r line
unfolding step step_of_opening
step_alike number r line h = place_alike r.place (numbered r number) line h

follows_alike : {B : Type 0} (x y : Result Reading ScenarioFault) (f g : Reading → Result B ScenarioFault) → (WantsNoKernel x → y ≡ x) → ((r : Reading) → WantsNoKernel (f r) → g r ≡ f r) → WantsNoKernel (x >>= f) → (y >>= g) ≡ (x >>= f)
follows_alike (Ok r) y f g here later h = rw (here tt) (later r h)
follows_alike (Err faults.NoMemory) y f g here later h = rw (here h) refl
follows_alike (Err (faults.Bad line rule)) y f g here later h = rw (here h) refl

reads_alike : (number : ℕ) (r : Reading) (ls : List (List ℕ)) → WantsNoKernel (reads number r ls) → reads_opening number r ls ≡ reads number r ls
unfolding reads reads_opening
reads_alike number r [] h = refl
reads_alike number r (l ∷ ls) h =
    follows_alike (step number r l) (step_of_opening number r l) (λ next. reads (number + 1) next ls) (λ next. reads_opening (number + 1) next ls) (step_alike number r l) (λ next later. reads_alike (number + 1) next ls later) h

-- a text that isn't refused for want of a kernel means the same as an opening
pub opening_alike : (text : List ℕ) → WantsNoKernel (scenario text) → opening text ≡ scenario text
unfolding scenario opening
opening_alike text h = reads_alike 1 start (lines text) h

-- ---- lines

pub opening_line_more : (number : ℕ) (r next : Reading) (line : List ℕ) (ls more : List (List ℕ)) (meant : Result (List Decl) ScenarioFault) → reads_opening number r ls ≡ meant → ls ≡ line ∷ more → step_of_opening number r line ≡ Ok next → reads_opening (number + 1) next more ≡ meant
unfolding reads_opening
opening_line_more number r next line ls more meant so_far is e =
    let goes : reads_opening number r (line ∷ more) ≡ reads_opening (number + 1) next more = rw e refl in
    sym goes ∙ sym (ap (λ (x : List (List ℕ)). reads_opening number r x) is) ∙ so_far

pub opening_line_last : (number : ℕ) (r next : Reading) (line : List ℕ) (ls : List (List ℕ)) (meant : Result (List Decl) ScenarioFault) → reads_opening number r ls ≡ meant → ls ≡ line ∷ [] → step_of_opening number r line ≡ Ok next → finish next ≡ meant
unfolding reads_opening
opening_line_last number r next line ls meant so_far is e = opening_line_more number r next line ls [] meant so_far is e

pub opening_line_fails : (number : ℕ) (r : Reading) (line : List ℕ) (ls more : List (List ℕ)) (meant : Result (List Decl) ScenarioFault) (e : ScenarioFault) → reads_opening number r ls ≡ meant → ls ≡ line ∷ more → (e ≡ faults.NoMemory) ⊎ (step_of_opening number r line ≡ Err e) → (e ≡ faults.NoMemory) ⊎ (meant ≡ Err e)
unfolding reads_opening
opening_line_fails number r line ls more meant e so_far is (inl none) = inl none
opening_line_fails number r line ls more meant e so_far is (inr failed) =
    let stops : reads_opening number r (line ∷ more) ≡ Err e = rw failed refl in
    inr (sym so_far ∙ ap (λ (x : List (List ℕ)). reads_opening number r x) is ∙ stops)

pub opening_begins : (r : Reading) (text : List ℕ) → r ≡ start → reads_opening 1 r (lines text) ≡ opening text
unfolding opening
opening_begins r text e = ap (λ (x : Reading). reads_opening 1 x (lines text)) e
