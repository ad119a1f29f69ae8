-- What is read so far fits, and behind the line mem there is some of it.
use Rattle.std.proofs.Common.{◌≡◌, ℕ, ◌+◌, ◌<◌, Bool, true, false, cond, List, [], ◌∷◌, ◌++◌, length, Option, Some, None, Result, Ok, Err, refl, sym, ap, subst, ◌∙◌, arith}
use Rattle.std.specs.Prelude.{◌==◌, IfOk}
use Rattle.cache_ident.specs.declared.names.SpaceNo.{SpaceNo}
use Rattle.cache_ident.specs.declared.names.ThreadNo.{ThreadNo}
use Rattle.cache_ident.specs.declared.names.Frame.{Frame}
use Rattle.flat_machine.specs.flat_state.specs.declared.events.TheConstants.{GREATEST_CAPS}
use Rattle.flat_machine.specs.flat_state.specs.declared.events.Decl.{Decl}
use Rattle.flat_machine.specs.flat_state.specs.declared.events.Decl.TheVariants as decls
use Rattle.flat_machine.specs.flat_state.specs.State.{FlatState, nothing_declared}
use Rattle.flat_machine.specs.flat_state.specs.Declaration.{broken_rule, declared}
use Rattle.flat_machine.specs.flat_state.specs.Events.{AllFit, after_declarations}
use Rattle.image_decls.specs.elf_image.specs.Elf.{executable, broken_rule as broken_image}
use Rattle.text_fields.specs.Lines.{lines}
use Rattle.scenario_lines.specs.Forms.{Line}
use Rattle.scenario_lines.specs.Forms as forms
use Rattle.scenario_lines.specs.Lines.{line_of, CodeLine, NoCode, LastCode, ImageLine, NoBytes, Bytes, LastBytes, code_line_of, image_line_of}
use Rattle.scenario_lines.specs.Lines as block_lines
use Rattle.code_blocks.specs.declared.fault.CodeFault.{CodeFault}
use Rattle.code_blocks.specs.Blocks.{block_words}
use Rattle.image_decls.specs.Declarations.{declarations}
use Rattle.scenario_reader.specs.declared.fault.ScenarioFault.{ScenarioFault}
use Rattle.scenario_reader.specs.Readings.{◌>>=◌, Place, Start, Memory, Body, Code, Image, Ended, Reading, start, unless, declare, declare_all, word_decls, rule_of_code, rule_of_image, in_place, broken, Answers}
use Rattle.scenario_reader.specs.Scenarios.{code_begins, image_begins, in_body, behind_machine, behind_memory, at_start, at_end, by_form, room, assembled, in_code, loaded, in_image, at_place, numbered, step, unended, finish_at, finish, reads, scenario}

-- the declarations fit one after another, and the machine is theirs
abbrev pub Fits : Reading → Type 0
Fits r = AllFit nothing_declared r.decls × (r.flat ≡ after_declarations nothing_declared r.decls)

-- and there are some
abbrev pub Firm : Reading → Type 0
Firm r = Fits r × (0 < length r.decls)

-- there are some from the machine's on
abbrev pub HasSome : Place → ℕ → Type 0
HasSome Start n = Unit {0}
HasSome (Memory groups) n = Unit {0}
HasSome Body n = 0 < n
HasSome (Code frame offset) n = 0 < n
HasSome (Image space frame thread) n = 0 < n
HasSome Ended n = 0 < n

abbrev pub Stands : Reading → Type 0
Stands r = Fits r × HasSome r.place (length r.decls)

abbrev pub IsWhole : List Decl → Type 0
IsWhole ds = AllFit nothing_declared ds × (0 < length ds)

-- ---- declarations

all_more : (s : FlatState) (xs : List Decl) (d : Decl) → AllFit s xs → broken_rule (after_declarations s xs) d ≡ None → AllFit s (xs ++ d ∷ [])
all_more s [] d fit fits = (fits, tt)
all_more s (x ∷ xs) d fit fits = (fit.0, all_more (declared s x) xs d fit.1 fits)

after_more : (s : FlatState) (xs : List Decl) (d : Decl) → after_declarations s (xs ++ d ∷ []) ≡ declared (after_declarations s xs) d
after_more s [] d = refl
after_more s (x ∷ xs) d = after_more (declared s x) xs d

some_more : (ds : List Decl) (d : Decl) → 0 < length (ds ++ d ∷ [])
some_more [] d = omega arith
some_more (x ∷ ds) d = omega arith

has_some : (p : Place) (n : ℕ) → 0 < n → HasSome p n
has_some Start n h = tt
has_some (Memory groups) n h = tt
has_some Body n h = h
has_some (Code frame offset) n h = h
has_some (Image space frame thread) n h = h
has_some Ended n h = h

weaker : (x : Result Reading ScenarioFault) → IfOk x Firm → IfOk x Stands
weaker (Ok r) h = (h.0, has_some r.place (length r.decls) h.1)
weaker (Err e) h = tt

pub followed : {B : Type 0} (P : Reading → Type 0) (Q : B → Type 0) (x : Result Reading ScenarioFault) (f : Reading → Result B ScenarioFault) → IfOk x P → ((r : Reading) → P r → IfOk (f r) Q) → IfOk (x >>= f) Q
followed P Q (Ok r) f h next = next r h
followed P Q (Err e) f h next = tt

pub unless_keeps : (P : Reading → Type 0) (o : Option ℕ) (r next : Reading) → P next → IfOk (unless o r next) P
unless_keeps P None r next h = h
unless_keeps P (Some rule) r next h = tt

declared_fits : (o : Option ℕ) (r : Reading) (d : Decl) → broken_rule r.flat d ≡ o → Fits r → IfOk (unless o r (record r { flat = declared r.flat d; decls = r.decls ++ d ∷ [] })) Firm
declared_fits None r d e h =
    let all : AllFit nothing_declared (r.decls ++ d ∷ []) = all_more nothing_declared r.decls d h.0 (subst (λ (s : FlatState). broken_rule s d ≡ None) h.1 e) in
    let flat : declared r.flat d ≡ after_declarations nothing_declared (r.decls ++ d ∷ []) = ap (λ (s : FlatState). declared s d) h.1 ∙ sym (after_more nothing_declared r.decls d) in
    ((all, flat), some_more r.decls d)
declared_fits (Some rule) r d e h = tt

pub declare_fits : (r : Reading) (d : Decl) → Fits r → IfOk (declare r d) Firm
unfolding declare
declare_fits r d h = declared_fits (broken_rule r.flat d) r d refl h

all_fit : (r : Reading) (ds : List Decl) → Firm r → IfOk (declare_all r ds) Firm
unfolding declare_all
all_fit r [] h = h
all_fit r (d ∷ ds) h = followed Firm Firm (declare r d) (λ next. declare_all next ds) (declare_fits r d h.0) (λ next firm. all_fit next ds firm)

-- ---- lines

end_keeps : (b : Bool) (r : Reading) → Firm r → IfOk (cond b (broken r 25) (Ok (in_place r Ended))) Firm
end_keeps true r h = tt
end_keeps false r h = h

body_keeps : (r : Reading) (line : Line) → Firm r → IfOk (in_body r line) Firm
unfolding in_body
body_keeps r forms.Blank h = h
body_keeps r (forms.Memory groups) h = tt
body_keeps r (forms.Capacities caps) h = tt
body_keeps r (forms.Declares decl) h = declare_fits r decl h.0
body_keeps r (forms.Words frame offset words) h = all_fit r (word_decls frame offset words) h
body_keeps r (forms.Code frame offset) h = unless_keeps Firm (rule_of_code r.flat frame offset) r (code_begins r frame offset) h
body_keeps r forms.EndCode h = tt
body_keeps r (forms.Image space frame thread) h = unless_keeps Firm (rule_of_image r.flat space frame thread) r (image_begins r space frame thread) h
body_keeps r forms.EndImage h = tt
body_keeps r forms.End h = end_keeps (length r.flat.kernels == 0) r h

machine_keeps : (r : Reading) (groups : ℕ) (line : Line) → Fits r → IfOk (behind_machine r groups line) Stands
machine_keeps r groups line h =
    weaker (behind_machine r groups line) (followed Firm Firm (declare (in_place r Body) (decls.Machine (record { groups = groups; caps = GREATEST_CAPS }))) (λ next. in_body next line) (declare_fits (in_place r Body) (decls.Machine (record { groups = groups; caps = GREATEST_CAPS })) h) (λ next firm. body_keeps next line firm))

memory_keeps : (r : Reading) (groups : ℕ) (line : Line) → Stands r → IfOk (behind_memory r groups line) Stands
unfolding behind_memory
memory_keeps r groups forms.Blank h = h
memory_keeps r groups (forms.Memory more) h = machine_keeps r groups (forms.Memory more) h.0
memory_keeps r groups (forms.Capacities caps) h = weaker (declare (in_place r Body) (decls.Machine (record { groups = groups; caps = caps }))) (declare_fits (in_place r Body) (decls.Machine (record { groups = groups; caps = caps })) h.0)
memory_keeps r groups (forms.Declares decl) h = machine_keeps r groups (forms.Declares decl) h.0
memory_keeps r groups (forms.Words frame offset words) h = machine_keeps r groups (forms.Words frame offset words) h.0
memory_keeps r groups (forms.Code frame offset) h = machine_keeps r groups (forms.Code frame offset) h.0
memory_keeps r groups forms.EndCode h = machine_keeps r groups forms.EndCode h.0
memory_keeps r groups (forms.Image space frame thread) h = machine_keeps r groups (forms.Image space frame thread) h.0
memory_keeps r groups forms.EndImage h = machine_keeps r groups forms.EndImage h.0
memory_keeps r groups forms.End h = machine_keeps r groups forms.End h.0

start_keeps : (r : Reading) (line : Line) → Stands r → IfOk (at_start r line) Stands
unfolding at_start
start_keeps r forms.Blank h = h
start_keeps r (forms.Memory groups) h = unless_keeps Stands (broken_rule r.flat (decls.Machine (record { groups = groups; caps = GREATEST_CAPS }))) r (in_place r (Memory groups)) (h.0, tt)
start_keeps r (forms.Capacities caps) h = tt
start_keeps r (forms.Declares decl) h = tt
start_keeps r (forms.Words frame offset words) h = tt
start_keeps r (forms.Code frame offset) h = tt
start_keeps r forms.EndCode h = tt
start_keeps r (forms.Image space frame thread) h = tt
start_keeps r forms.EndImage h = tt
start_keeps r forms.End h = tt

end_stays : (r : Reading) (line : Line) → Stands r → IfOk (at_end r line) Stands
unfolding at_end
end_stays r forms.Blank h = h
end_stays r (forms.Memory groups) h = tt
end_stays r (forms.Capacities caps) h = tt
end_stays r (forms.Declares decl) h = tt
end_stays r (forms.Words frame offset words) h = tt
end_stays r (forms.Code frame offset) h = tt
end_stays r forms.EndCode h = tt
end_stays r (forms.Image space frame thread) h = tt
end_stays r forms.EndImage h = tt
end_stays r forms.End h = tt

form_keeps : (takes : Reading → Line → Result Reading ScenarioFault) (r : Reading) (line : Result Line ℕ) → ((l : Line) → IfOk (takes r l) Stands) → IfOk (by_form takes r line) Stands
form_keeps takes r (Ok line) h = h line
form_keeps takes r (Err rule) h = tt

assembled_keeps : (r : Reading) (frame : Frame) (offset : ℕ) (words : Result (List ℕ) CodeFault) → Firm r → IfOk (assembled r frame offset words) Firm
assembled_keeps r frame offset (Ok words) h = all_fit (in_place r Body) (word_decls frame offset words) h
assembled_keeps r frame offset (Err fault) h = tt

code_keeps : (r : Reading) (frame : Frame) (offset : ℕ) (line : Result CodeLine ℕ) → Firm r → IfOk (in_code r frame offset line) Firm
unfolding in_code
code_keeps r frame offset (Err rule) h = h
code_keeps r frame offset (Ok NoCode) h = h
code_keeps r frame offset (Ok (block_lines.Code text)) h = h
code_keeps r frame offset (Ok LastCode) h = assembled_keeps r frame offset (block_words (room offset) r.block) h

loaded_keeps : (o : Option ℕ) (r : Reading) (space : SpaceNo) (frame : Frame) (thread : ThreadNo) → Firm r → IfOk (loaded o r space frame thread) Firm
loaded_keeps None r space frame thread h = all_fit (in_place r Body) (declarations r.bytes space frame.0 thread (executable r.bytes)) h
loaded_keeps (Some rule) r space frame thread h = tt

image_keeps : (r : Reading) (space : SpaceNo) (frame : Frame) (thread : ThreadNo) (line : Result ImageLine ℕ) → Firm r → IfOk (in_image r space frame thread line) Firm
unfolding in_image
image_keeps r space frame thread (Err rule) h = tt
image_keeps r space frame thread (Ok NoBytes) h = h
image_keeps r space frame thread (Ok (Bytes digits)) h = h
image_keeps r space frame thread (Ok LastBytes) h = loaded_keeps (broken_image r.bytes) r space frame thread h

pub place_keeps : (p : Place) (r : Reading) (line : List ℕ) → Stands r → HasSome p (length r.decls) → IfOk (at_place p r line) Stands
place_keeps Start r line h some = form_keeps at_start r (line_of line) (λ l. start_keeps r l h)
place_keeps (Memory groups) r line h some = form_keeps (λ s. behind_memory s groups) r (line_of line) (λ l. memory_keeps r groups l h)
place_keeps Body r line h some = form_keeps in_body r (line_of line) (λ l. weaker (in_body r l) (body_keeps r l (h.0, some)))
place_keeps (Code frame offset) r line h some = weaker (in_code r frame offset (code_line_of line)) (code_keeps r frame offset (code_line_of line) (h.0, some))
place_keeps (Image space frame thread) r line h some = weaker (in_image r space frame thread (image_line_of line)) (image_keeps r space frame thread (image_line_of line) (h.0, some))
place_keeps Ended r line h some = form_keeps at_end r (line_of line) (λ l. end_stays r l h)

pub step_keeps : (number : ℕ) (r : Reading) (line : List ℕ) → Stands r → IfOk (step number r line) Stands
unfolding step
step_keeps number r line h = place_keeps r.place (numbered r number) line h h.1

-- ---- a text

pub unended_fails : (P : List Decl → Type 0) (r : Reading) (words : Result (List ℕ) CodeFault) → IfOk (unended r words) P
unended_fails P r (Ok words) = tt
unended_fails P r (Err fault) = tt

pub whole_at : (p : Place) (r : Reading) → Fits r → HasSome p (length r.decls) → IfOk (finish_at p r) IsWhole
whole_at Ended r h some = (h.0, some)
whole_at (Code frame offset) r h some = unended_fails IsWhole r (block_words (room offset) r.block)
whole_at Start r h some = tt
whole_at (Memory groups) r h some = tt
whole_at Body r h some = tt
whole_at (Image space frame thread) r h some = tt

reads_whole : (number : ℕ) (r : Reading) (ls : List (List ℕ)) → Stands r → IfOk (reads number r ls) IsWhole
unfolding reads finish
reads_whole number r [] h = whole_at r.place r h.0 h.1
reads_whole number r (l ∷ ls) h = followed Stands IsWhole (step number r l) (λ next. reads (number + 1) next ls) (step_keeps number r l h) (λ next stands. reads_whole (number + 1) next ls stands)

scenario_whole : (text : List ℕ) → IfOk (scenario text) IsWhole
unfolding scenario
scenario_whole text = reads_whole 1 start (lines text) ((tt, refl), tt)

-- what is read as a text is meant has declarations that fit
pub answer_whole : (text : List ℕ) (result : Result (List Decl) ScenarioFault) → Answers (λ s. s) result (scenario text) → IfOk result IsWhole
answer_whole text (Ok ds) meant = subst (λ (m : Result (List Decl) ScenarioFault). IfOk m IsWhole) meant (scenario_whole text)
answer_whole text (Err e) meant = tt
