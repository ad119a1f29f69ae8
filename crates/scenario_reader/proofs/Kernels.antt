-- What is read has a kernel, since no scenario ends without one.
use Rattle.std.proofs.Common.{◌≡◌, ℕ, zero, suc, ◌+◌, ◌<◌, Bool, true, false, cond, List, [], ◌∷◌, ◌++◌, length, Option, Some, None, Result, Ok, Err, refl, sym, subst, ◌∙◌, arith}
use Rattle.std.specs.Prelude.{◌==◌, IfOk}
use Rattle.cache_ident.specs.declared.names.SpaceNo.{SpaceNo}
use Rattle.cache_ident.specs.declared.names.ThreadNo.{ThreadNo}
use Rattle.cache_ident.specs.declared.names.Frame.{Frame}
use Rattle.flat_machine.specs.flat_state.specs.declared.events.TheConstants.{GREATEST_CAPS}
use Rattle.flat_machine.specs.flat_state.specs.declared.events.Decl.{Decl}
use Rattle.flat_machine.specs.flat_state.specs.declared.events.Decl.TheVariants as decls
use Rattle.flat_machine.specs.flat_state.specs.State.{FlatState, nothing_declared}
use Rattle.flat_machine.specs.flat_state.specs.Declaration.{broken_rule, declared}
use Rattle.flat_machine.specs.flat_state.specs.Events.{after_declarations}
use Rattle.image_decls.specs.elf_image.specs.Elf.{executable, broken_rule as broken_image}
use Rattle.text_fields.specs.Lines.{lines}
use Rattle.scenario_lines.specs.Forms.{Line}
use Rattle.scenario_lines.specs.Forms as forms
use Rattle.scenario_lines.specs.Lines.{line_of, CodeLine, NoCode, LastCode, ImageLine, NoBytes, Bytes, LastBytes, code_line_of, image_line_of}
use Rattle.scenario_lines.specs.Lines as block_lines
use Rattle.code_blocks.specs.declared.fault.CodeFault.{CodeFault}
use Rattle.code_blocks.specs.Blocks.{block_words}
use Rattle.image_decls.specs.Declarations.{declarations}
use Rattle.scenario_reader.specs.declared.fault.ScenarioFault.{ScenarioFault}
use Rattle.scenario_reader.specs.Readings.{Place, Start, Memory, Body, Code, Image, Ended, Reading, start, unless, declare, declare_all, word_decls, rule_of_code, rule_of_image, in_place, broken, Answers}
use Rattle.scenario_reader.specs.Scenarios.{code_begins, image_begins, in_body, behind_machine, behind_memory, at_start, at_end, by_form, room, assembled, in_code, loaded, in_image, at_place, numbered, step, finish_at, finish, reads, scenario}
use Rattle.scenario_reader.proofs.Whole.{Fits, Stands, followed, unless_keeps, step_keeps, unended_fails}

-- where the scenario has ended, there is a kernel
abbrev Closed : Reading → Type 0
Closed r = r.place ≡ Ended → 0 < length r.flat.kernels

abbrev HasKernel : List Decl → Type 0
HasKernel ds = 0 < length (after_declarations nothing_declared ds).kernels

-- it stands at a place that isn't the end
abbrev IsAt : Place → Reading → Type 0
IsAt p r = r.place ≡ p

abbrev IsOpen : Place → Type 0
IsOpen p = p ≡ Ended → ⊥

open_closed : (p : Place) (r : Reading) → IsOpen p → IsAt p r → Closed r
open_closed p r lasting at = λ ended. absurd (lasting (sym at ∙ ended))

still_open : (p : Place) (x : Result Reading ScenarioFault) → IsOpen p → IfOk x (IsAt p) → IfOk x Closed
still_open p (Ok r) lasting at = open_closed p r lasting at
still_open p (Err e) lasting at = tt

-- ---- declarations leave the place

unless_stays : (p : Place) (o : Option ℕ) (r next : Reading) → IsAt p next → IfOk (unless o r next) (IsAt p)
unless_stays p o r next at = unless_keeps (IsAt p) o r next at

declare_stays : (p : Place) (r : Reading) (d : Decl) → IsAt p r → IfOk (declare r d) (IsAt p)
unfolding declare
declare_stays p r d at = unless_stays p (broken_rule r.flat d) r (record r { flat = declared r.flat d; decls = r.decls ++ d ∷ [] }) at

all_stay : (p : Place) (r : Reading) (ds : List Decl) → IsAt p r → IfOk (declare_all r ds) (IsAt p)
unfolding declare_all
all_stay p r [] at = at
all_stay p r (d ∷ ds) at = followed (IsAt p) (IsAt p) (declare r d) (λ next. declare_all next ds) (declare_stays p r d at) (λ next at. all_stay p next ds at)

body_open : IsOpen Body
body_open e = cc

-- ---- lines

ends_with_kernel : (b : Bool) (r : Reading) → (length r.flat.kernels == 0) ≡ b → IfOk (cond b (broken r 25) (Ok (in_place r Ended))) Closed
ends_with_kernel true r e = tt
ends_with_kernel false r e = λ ended. by (length r.flat.kernels) e
  where
    by : (n : ℕ) → (n == 0) ≡ false → 0 < n
    by zero e = absurd cc
    by (suc n) e = omega arith

body_closed : (r : Reading) (line : Line) → IsAt Body r → IfOk (in_body r line) Closed
unfolding in_body
body_closed r forms.Blank at = open_closed Body r body_open at
body_closed r (forms.Memory groups) at = tt
body_closed r (forms.Capacities caps) at = tt
body_closed r (forms.Declares decl) at = still_open Body (declare r decl) body_open (declare_stays Body r decl at)
body_closed r (forms.Words frame offset words) at = still_open Body (declare_all r (word_decls frame offset words)) body_open (all_stay Body r (word_decls frame offset words) at)
body_closed r (forms.Code frame offset) at = unless_keeps Closed (rule_of_code r.flat frame offset) r (code_begins r frame offset) (open_closed (Code frame offset) (code_begins r frame offset) (λ e. cc) refl)
body_closed r forms.EndCode at = tt
body_closed r (forms.Image space frame thread) at = unless_keeps Closed (rule_of_image r.flat space frame thread) r (image_begins r space frame thread) (open_closed (Image space frame thread) (image_begins r space frame thread) (λ e. cc) refl)
body_closed r forms.EndImage at = tt
body_closed r forms.End at = ends_with_kernel (length r.flat.kernels == 0) r refl

machine_closed : (r : Reading) (groups : ℕ) (line : Line) → IfOk (behind_machine r groups line) Closed
machine_closed r groups line =
    followed (IsAt Body) Closed (declare (in_place r Body) (decls.Machine (record { groups = groups; caps = GREATEST_CAPS }))) (λ next. in_body next line)
    (declare_stays Body (in_place r Body) (decls.Machine (record { groups = groups; caps = GREATEST_CAPS })) refl) (λ next at. body_closed next line at)

memory_closed : (r : Reading) (groups : ℕ) (line : Line) → Closed r → IfOk (behind_memory r groups line) Closed
unfolding behind_memory
memory_closed r groups forms.Blank h = h
memory_closed r groups (forms.Memory more) h = machine_closed r groups (forms.Memory more)
memory_closed r groups (forms.Capacities caps) h =
    still_open Body (declare (in_place r Body) (decls.Machine (record { groups = groups; caps = caps }))) body_open (declare_stays Body (in_place r Body) (decls.Machine (record { groups = groups; caps = caps })) refl)
memory_closed r groups (forms.Declares decl) h = machine_closed r groups (forms.Declares decl)
memory_closed r groups (forms.Words frame offset words) h = machine_closed r groups (forms.Words frame offset words)
memory_closed r groups (forms.Code frame offset) h = machine_closed r groups (forms.Code frame offset)
memory_closed r groups forms.EndCode h = machine_closed r groups forms.EndCode
memory_closed r groups (forms.Image space frame thread) h = machine_closed r groups (forms.Image space frame thread)
memory_closed r groups forms.EndImage h = machine_closed r groups forms.EndImage
memory_closed r groups forms.End h = machine_closed r groups forms.End

start_closed : (r : Reading) (line : Line) → Closed r → IfOk (at_start r line) Closed
unfolding at_start
start_closed r forms.Blank h = h
start_closed r (forms.Memory groups) h = unless_keeps Closed (broken_rule r.flat (decls.Machine (record { groups = groups; caps = GREATEST_CAPS }))) r (in_place r (Memory groups)) (open_closed (Memory groups) (in_place r (Memory groups)) (λ e. cc) refl)
start_closed r (forms.Capacities caps) h = tt
start_closed r (forms.Declares decl) h = tt
start_closed r (forms.Words frame offset words) h = tt
start_closed r (forms.Code frame offset) h = tt
start_closed r forms.EndCode h = tt
start_closed r (forms.Image space frame thread) h = tt
start_closed r forms.EndImage h = tt
start_closed r forms.End h = tt

end_closed : (r : Reading) (line : Line) → Closed r → IfOk (at_end r line) Closed
unfolding at_end
end_closed r forms.Blank h = h
end_closed r (forms.Memory groups) h = tt
end_closed r (forms.Capacities caps) h = tt
end_closed r (forms.Declares decl) h = tt
end_closed r (forms.Words frame offset words) h = tt
end_closed r (forms.Code frame offset) h = tt
end_closed r forms.EndCode h = tt
end_closed r (forms.Image space frame thread) h = tt
end_closed r forms.EndImage h = tt
end_closed r forms.End h = tt

form_closed : (takes : Reading → Line → Result Reading ScenarioFault) (r : Reading) (line : Result Line ℕ) → ((l : Line) → IfOk (takes r l) Closed) → IfOk (by_form takes r line) Closed
form_closed takes r (Ok line) h = h line
form_closed takes r (Err rule) h = tt

assembled_closed : (r : Reading) (frame : Frame) (offset : ℕ) (words : Result (List ℕ) CodeFault) → IfOk (assembled r frame offset words) Closed
assembled_closed r frame offset (Ok words) = still_open Body (declare_all (in_place r Body) (word_decls frame offset words)) body_open (all_stay Body (in_place r Body) (word_decls frame offset words) refl)
assembled_closed r frame offset (Err fault) = tt

code_closed : (r : Reading) (frame : Frame) (offset : ℕ) (line : Result CodeLine ℕ) → Closed r → IfOk (in_code r frame offset line) Closed
unfolding in_code
code_closed r frame offset (Err rule) h = h
code_closed r frame offset (Ok NoCode) h = h
code_closed r frame offset (Ok (block_lines.Code text)) h = h
code_closed r frame offset (Ok LastCode) h = assembled_closed r frame offset (block_words (room offset) r.block)

loaded_closed : (o : Option ℕ) (r : Reading) (space : SpaceNo) (frame : Frame) (thread : ThreadNo) → IfOk (loaded o r space frame thread) Closed
loaded_closed None r space frame thread =
    still_open Body (declare_all (in_place r Body) (declarations r.bytes space frame.0 thread (executable r.bytes))) body_open (all_stay Body (in_place r Body) (declarations r.bytes space frame.0 thread (executable r.bytes)) refl)
loaded_closed (Some rule) r space frame thread = tt

image_closed : (r : Reading) (space : SpaceNo) (frame : Frame) (thread : ThreadNo) (line : Result ImageLine ℕ) → Closed r → IfOk (in_image r space frame thread line) Closed
unfolding in_image
image_closed r space frame thread (Err rule) h = tt
image_closed r space frame thread (Ok NoBytes) h = h
image_closed r space frame thread (Ok (Bytes digits)) h = h
image_closed r space frame thread (Ok LastBytes) h = loaded_closed (broken_image r.bytes) r space frame thread

place_closed : (p : Place) (r : Reading) (line : List ℕ) → IsAt p r → Closed r → IfOk (at_place p r line) Closed
place_closed Start r line at h = form_closed at_start r (line_of line) (λ l. start_closed r l h)
place_closed (Memory groups) r line at h = form_closed (λ s. behind_memory s groups) r (line_of line) (λ l. memory_closed r groups l h)
place_closed Body r line at h = form_closed in_body r (line_of line) (λ l. body_closed r l at)
place_closed (Code frame offset) r line at h = code_closed r frame offset (code_line_of line) h
place_closed (Image space frame thread) r line at h = image_closed r space frame thread (image_line_of line) h
place_closed Ended r line at h = form_closed at_end r (line_of line) (λ l. end_closed r l h)

step_closed : (number : ℕ) (r : Reading) (line : List ℕ) → Closed r → IfOk (step number r line) Closed
unfolding step
step_closed number r line h = place_closed r.place (numbered r number) line refl h

-- ---- a text

both : (x : Result Reading ScenarioFault) → IfOk x Stands → IfOk x Closed → IfOk x (λ r. Stands r × Closed r)
both (Ok r) stands closed = (stands, closed)
both (Err e) stands closed = tt

kernel_at : (p : Place) (r : Reading) → IsAt p r → Fits r → Closed r → IfOk (finish_at p r) HasKernel
kernel_at Ended r at fits closed = subst (λ (s : FlatState). 0 < length s.kernels) fits.1 (closed at)
kernel_at (Code frame offset) r at fits closed = unended_fails HasKernel r (block_words (room offset) r.block)
kernel_at Start r at fits closed = tt
kernel_at (Memory groups) r at fits closed = tt
kernel_at Body r at fits closed = tt
kernel_at (Image space frame thread) r at fits closed = tt

reads_kernel : (number : ℕ) (r : Reading) (ls : List (List ℕ)) → Stands r → Closed r → IfOk (reads number r ls) HasKernel
unfolding reads finish
reads_kernel number r [] stands closed = kernel_at r.place r refl stands.0 closed
reads_kernel number r (l ∷ ls) stands closed =
    followed (λ r. Stands r × Closed r) HasKernel (step number r l) (λ next. reads (number + 1) next ls)
    (both (step number r l) (step_keeps number r l stands) (step_closed number r l closed)) (λ next h. reads_kernel (number + 1) next ls h.0 h.1)

scenario_kernel : (text : List ℕ) → IfOk (scenario text) HasKernel
unfolding scenario
scenario_kernel text = reads_kernel 1 start (lines text) ((tt, refl), tt) (λ e. cc)

-- what is read as a text is meant has a kernel
pub answer_kernel : (text : List ℕ) (result : Result (List Decl) ScenarioFault) → Answers (λ s. s) result (scenario text) → IfOk result HasKernel
answer_kernel text (Ok ds) meant = subst (λ (m : Result (List Decl) ScenarioFault). IfOk m HasKernel) meant (scenario_kernel text)
answer_kernel text (Err e) meant = tt
