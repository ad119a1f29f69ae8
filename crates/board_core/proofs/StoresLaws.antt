-- A step changes no bytes but those of the frame that its data goes through.
use Rattle.std.proofs.Common.{◌≡◌, ℕ, ◌/◌, ◌%◌, Bool, true, false, List, map, Option, Some, None, refl, ap, sym, ◌∙◌, eqb-true}
use Rattle.std.specs.Prelude.{if◌then◌else◌, ◌==◌}
use Rattle.std.specs.Option.{option_map, option_and_then}
use Rattle.std.proofs.lemmas.List.{map-id}
use Rattle.std.proofs.lemmas.Simd.{map-map}
use Rattle.rv32_isa.specs.declared.forms.Instr.{Instr}
use Rattle.rv32_isa.specs.Table.{instruction_of}
use Rattle.rv32_ma.specs.declared.atomics.AmoOp.{AmoOp}
use Rattle.rv32_ma.specs.Atomics.{amo_of}
use Rattle.rv32_exec.specs.declared.contexts.Context.{Context}
use Rattle.rv32_exec.specs.declared.statuses.Access.{Access}
use Rattle.rv32_exec.specs.declared.statuses.Access.TheVariants.{Fetch, Read, Write}
use Rattle.rv32_exec.specs.declared.statuses.Misaligned.TheVariants as misaligned
use Rattle.rv32_exec.specs.declared.statuses.Reason.TheVariants.{Misaligned}
use Rattle.rv32_exec.specs.declared.spaces.Width.{Width}
use Rattle.rv32_exec.specs.declared.spaces.Width.TheVariants.{Word}
use Rattle.rv32_exec.specs.declared.actions.Action.{Action}
use Rattle.rv32_exec.specs.declared.actions.Action.TheVariants as actions
use Rattle.rv32_exec.specs.declared.steps.Stepped.TheVariants.{Next}
use Rattle.rv32_exec.specs.Actions.{action_of}
use Rattle.rv32_exec.specs.Pages.{Page, fetched, loaded, mark, mark_page, put_bytes, put_in_frame, size_of, stored, stored_through, touched_at, translates, translation}
use Rattle.rv32_exec.specs.Registers.{with_register, next_of}
use Rattle.rv32_exec.specs.Steps.{After, after_action, after_decoding, after_fetch, after_step as after_instruction, ended, load_found, read_found, store_found, write_found}

-- ---- pages

-- the pages after, each of which has its frame still, and its bytes unless its frame is that one
pub record AreBut (changing : Option ℕ) (ps qs : List Page) : Type 0 where
  pub by : Page → Page
  pub is : qs ≡ map by ps
  pub frame : (p : Page) → (by p).frame ≡ p.frame
  pub bytes : (p : Page) → (changing ≡ Some p.frame → ⊥) → (by p).bytes ≡ p.bytes

marks_keep : (access : Access) (p : Page) → ((mark access p).frame ≡ p.frame) × ((mark access p).bytes ≡ p.bytes)
marks_keep Fetch p = (refl, refl)
marks_keep Read p = (refl, refl)
marks_keep Write p = (refl, refl)

marks_keep_if : (access : Access) (p : Page) (b : Bool) → ((if b then mark access p else p).frame ≡ p.frame) × ((if b then mark access p else p).bytes ≡ p.bytes)
marks_keep_if access p true = marks_keep access p
marks_keep_if access p false = (refl, refl)

module _ (changing : Option ℕ) (ps : List Page) where
  as_they_were : AreBut changing ps ps
  as_they_were = record { by = λ p. p; is = sym (map-id ps); frame = λ p. refl; bytes = λ p other. refl }

  when_touched : (qs : List Page) (va : ℕ) (access : Access) → AreBut changing ps qs → AreBut changing ps (touched_at qs va access)
  unfolding touched_at
  when_touched qs va access are = record {
    by = λ p. mark_page (va / 4096) access (are.by p);
    is = ap (map (mark_page (va / 4096) access)) are.is ∙ map-map (mark_page (va / 4096) access) are.by ps;
    frame = λ p. (marks_keep_if access (are.by p) ((are.by p).number == va / 4096)).0 ∙ are.frame p;
    bytes = λ p other. (marks_keep_if access (are.by p) ((are.by p).number == va / 4096)).1 ∙ are.bytes p other;
  }

abbrev pub frame_of : Option Page → Option ℕ
frame_of o = option_map (λ (p : Page). p.frame) o

put_elsewhere : (frame count at value : ℕ) (p : Page) (b : Bool) → (p.frame == frame) ≡ b → (Some frame ≡ Some p.frame → ⊥) → (if b then record p { bytes = put_bytes count p.bytes at value } else p).bytes ≡ p.bytes
put_elsewhere frame count at value p true same other = absurd (other (ap Some (sym (eqb-true p.frame frame same))))
put_elsewhere frame count at value p false same other = refl

put_frame : (count at value : ℕ) (p : Page) (b : Bool) → (if b then record p { bytes = put_bytes count p.bytes at value } else p).frame ≡ p.frame
put_frame count at value p true = refl
put_frame count at value p false = refl

when_stored_in : (ps : List Page) (va : ℕ) (width : Width) (value : ℕ) (o : Option Page) → AreBut (frame_of o) ps (stored_through o ps va width value)
when_stored_in ps va width value None = as_they_were None ps
when_stored_in ps va width value (Some page) = record {
  by = put_in_frame page.frame (size_of width) (va % 4096) value;
  is = refl;
  frame = λ p. put_frame (size_of width) (va % 4096) value p (p.frame == page.frame);
  bytes = λ p other. put_elsewhere page.frame (size_of width) (va % 4096) value p (p.frame == page.frame) refl other;
}

when_stored : (ps : List Page) (va : ℕ) (width : Width) (value : ℕ) → AreBut (frame_of (translation ps va Write)) ps (stored ps va width value)
unfolding stored
when_stored ps va width value = when_stored_in ps va width value (translation ps va Write)

-- ---- the frame that an action stores to

abbrev pub if_divides : ℕ → ℕ → Option ℕ → Option ℕ
if_divides size va frame = if va % size == 0 then frame else None

abbrev pub stores_to : List Page → Option Action → Option ℕ
stores_to ps (Some (actions.Store va width value)) = if_divides (size_of width) va (frame_of (translation ps va Write))
stores_to ps (Some (actions.Atomic rd va op operand)) = if_divides 4 va (frame_of (translation ps va Write))
stores_to ps _ = None

-- what a word that may have been fetched asks for
abbrev pub asked : Context → Option ℕ → Option Action
asked c word = option_and_then (λ w. option_map (λ instr. action_of instr c) (instruction_of w)) word

module _ (c : Context) (ps : List Page) where
  just_fetched : (changing : Option ℕ) → AreBut changing ps (touched_at ps c.pc Fetch)
  just_fetched changing = when_touched changing ps ps c.pc Fetch (as_they_were changing ps)

  after_jump_are : (changing : Option ℕ) (rd target : ℕ) (b : Bool)
      → AreBut changing ps (if b then record { context = record { regs = with_register c rd (next_of c); pc = target }; pages = touched_at ps c.pc Fetch; answer = Next } else ended c ps (Misaligned misaligned.Jump target)).pages
  after_jump_are changing rd target true = just_fetched changing
  after_jump_are changing rd target false = just_fetched changing

  after_load_are : (changing : Option ℕ) (rd va : ℕ) (width : Width) (signed : Bool) (r : Option ℕ) → AreBut changing ps (load_found c ps rd va width signed r).pages
  after_load_are changing rd va width signed None = as_they_were changing ps
  after_load_are changing rd va width signed (Some n) = when_touched changing ps (touched_at ps c.pc Fetch) va Read (just_fetched changing)

  after_store_are : (va : ℕ) (width : Width) (value : ℕ) (found : Bool) → AreBut (frame_of (translation ps va Write)) ps (store_found c ps va width value found).pages
  after_store_are va width value true =
      let f = frame_of (translation ps va Write) in
      when_touched f ps (touched_at (stored ps va width value) c.pc Fetch) va Write (when_touched f ps (stored ps va width value) c.pc Fetch (when_stored ps va width value))
  after_store_are va width value false = as_they_were (frame_of (translation ps va Write)) ps

  after_write_are : (rd va : ℕ) (op : AmoOp) (operand old : ℕ) (found : Bool) → AreBut (frame_of (translation ps va Write)) ps (write_found c ps rd va op operand old found).pages
  after_write_are rd va op operand old true =
      let f = frame_of (translation ps va Write) in
      let qs = stored ps va Word (amo_of op old operand) in
      when_touched f ps (touched_at (touched_at qs c.pc Fetch) va Read) va Write (when_touched f ps (touched_at qs c.pc Fetch) va Read (when_touched f ps qs c.pc Fetch (when_stored ps va Word (amo_of op old operand))))
  after_write_are rd va op operand old false = as_they_were (frame_of (translation ps va Write)) ps

  after_read_are : (rd va : ℕ) (op : AmoOp) (operand : ℕ) (r : Option ℕ) → AreBut (frame_of (translation ps va Write)) ps (read_found c ps rd va op operand r).pages
  after_read_are rd va op operand None = as_they_were (frame_of (translation ps va Write)) ps
  after_read_are rd va op operand (Some old) = after_write_are rd va op operand old (translates ps va Write)

  -- an access that isn't made where the width doesn't divide the address
  if_so : (b : Bool) (frame : Option ℕ) (x y : After) → AreBut frame ps x.pages → ((changing : Option ℕ) → AreBut changing ps y.pages) → AreBut (if b then frame else None) ps (if b then x else y).pages
  if_so true frame x y first second = first
  if_so false frame x y first second = second None

  either_way : (b : Bool) (changing : Option ℕ) (x y : After) → AreBut changing ps x.pages → AreBut changing ps y.pages → AreBut changing ps (if b then x else y).pages
  either_way true changing x y first second = first
  either_way false changing x y first second = second

  after_action_are : (a : Action) → AreBut (stores_to ps (Some a)) ps (after_action a c ps).pages
  unfolding after_action
  after_action_are (actions.Set rd value) = just_fetched None
  after_action_are actions.Pass = just_fetched None
  after_action_are (actions.Jump rd target) = after_jump_are None rd target (target % 4 == 0)
  after_action_are (actions.Load rd va width signed) =
      either_way (va % size_of width == 0) None (load_found c ps rd va width signed (loaded ps va width)) (ended c ps (Misaligned misaligned.Load va)) (after_load_are None rd va width signed (loaded ps va width)) (just_fetched None)
  after_action_are (actions.Store va width value) =
      if_so (va % size_of width == 0) (frame_of (translation ps va Write)) (store_found c ps va width value (translates ps va Write)) (ended c ps (Misaligned misaligned.Store va)) (after_store_are va width value (translates ps va Write)) just_fetched
  after_action_are (actions.Atomic rd va op operand) =
      if_so (va % 4 == 0) (frame_of (translation ps va Write)) (read_found c ps rd va op operand (loaded ps va Word)) (ended c ps (Misaligned misaligned.Store va)) (after_read_are rd va op operand (loaded ps va Word)) just_fetched
  after_action_are actions.Call = just_fetched None
  after_action_are actions.Break = just_fetched None

  after_decoding_are : (word : ℕ) (r : Option Instr) → AreBut (stores_to ps (option_map (λ instr. action_of instr c) r)) ps (after_decoding c ps word r).pages
  after_decoding_are word None = just_fetched None
  after_decoding_are word (Some i) = after_action_are (action_of i c)

  after_fetch_are : (r : Option ℕ) → AreBut (stores_to ps (asked c r)) ps (after_fetch c ps r).pages
  after_fetch_are None = as_they_were None ps
  after_fetch_are (Some word) = after_decoding_are word (instruction_of word)

  pub after_are : AreBut (stores_to ps (asked c (fetched ps c.pc))) ps (after_instruction c ps).pages
  unfolding after_instruction
  after_are = after_fetch_are (fetched ps c.pc)
