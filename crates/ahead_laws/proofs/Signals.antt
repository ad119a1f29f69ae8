-- A store that signals, which is the next step over copied pages, is the machine's next step.
use Rattle.std.proofs.Common.{◌≡◌, ℕ, ◌/◌, ◌%◌, Bool, true, false, not, ◌&&◌, List, map, Option, Some, None, slice_get, Contains, refl, ap, ap₂, sym, ◌∙◌}
use Rattle.std.specs.Prelude.{if◌then◌else◌, ◌==◌, is_some}
use Rattle.std.specs.Option.{option_map, option_and_then}
use Rattle.std.proofs.lemmas.Bool.{eq-eqb}
use Rattle.std.proofs.lemmas.Option.{same_Some}
use Rattle.cache_ident.specs.declared.names.SpaceNo.{SpaceNo}
use Rattle.phys_groups.specs.declared.rows.Row.{Row}
use Rattle.phys_groups.specs.Rows.{marked}
use Rattle.phys_groups.specs.Translation.{Translated, place_in, through}
use Rattle.flat_machine.specs.signal_pages.specs.Signals.{is_signalling}
use Rattle.rv32_isa.specs.declared.forms.Instr.{Instr}
use Rattle.rv32_isa.specs.Table.{instruction_of}
use Rattle.flat_machine.specs.rv32_exec.specs.declared.contexts.Context.{Context}
use Rattle.flat_machine.specs.rv32_exec.specs.declared.statuses.Access.TheVariants.{Fetch, Write}
use Rattle.flat_machine.specs.rv32_exec.specs.declared.statuses.Status.{Status}
use Rattle.flat_machine.specs.rv32_exec.specs.declared.statuses.Status.TheVariants.{Ready}
use Rattle.flat_machine.specs.rv32_exec.specs.declared.spaces.Width.TheVariants.{Word}
use Rattle.flat_machine.specs.rv32_exec.specs.declared.actions.Action.{Action}
use Rattle.flat_machine.specs.rv32_exec.specs.declared.actions.Action.TheVariants.{Store}
use Rattle.flat_machine.specs.rv32_exec.specs.declared.steps.Stepped.TheVariants as steps
use Rattle.flat_machine.specs.rv32_exec.specs.Pages.{Page, fetched, put_bytes, stored, touched_at, translates}
use Rattle.flat_machine.specs.rv32_exec.specs.Actions.{action_of}
use Rattle.flat_machine.specs.rv32_exec.specs.Registers.{next_of}
use Rattle.flat_machine.specs.rv32_exec.specs.Steps.{after_action, after_decoding, after_fetch, after_step as after_instruction}
use Rattle.flat_machine.specs.flat_state.specs.declared.records.FlatThread.{FlatThread}
use Rattle.flat_machine.specs.flat_state.specs.declared.records.Signal.{Signal}
use Rattle.flat_machine.specs.flat_state.specs.State.{FlatState, is_ready, with_thread}
use Rattle.flat_machine.specs.flat_state.specs.Declaration.{locks_granted}
use Rattle.flat_machine.specs.flat_state.specs.Translation.{reached, rights_of, row_through}
use Rattle.flat_machine.specs.flat_state.specs.Pages.{page_of, pages_of}
use Rattle.flat_machine.specs.flat_state.specs.NextSteps.{is_miss}
use Rattle.flat_machine.specs.flat_state.specs.Signals.{delivered, full_among, is_runnable, next_action, next_signal, receivers_for, receivers_of, signal_of, signal_through}
use Rattle.flat_machine.specs.flat_state.specs.Step.{after_step, outcome, step_if, step_of, stepped, written_back}
use Rattle.flat_machine.specs.flat_state.specs.WellFormed.{IsWellFormed}
use Rattle.flat_machine.specs.flat_state.proofs.Translating.{translation-pages}
use Rattle.flat_machine.specs.flat_mmu.specs.Seen.{beside}
use Rattle.flat_machine.specs.flat_mmu.proofs.MmuLaws.{store_keeps, store_pages, touch_keeps, touch_pages}
use Rattle.flat_machine.proofs.ChangeSound.{marked_sound, stored_sound}
use Rattle.flat_machine.specs.flat_events.proofs.RunLaws.{went_back}
use Rattle.quantum.specs.page_views.specs.Views.{pages_of_views, View}
use Rattle.quantum.specs.LocalRun.{Shows}
use Rattle.quantum.proofs.StepsIn.{ShowsAt, same_action}
use Rattle.quantum.proofs.Changed.{shows_at, through_parts}
use Rattle.ahead_laws.specs.Signalled.{signalled_by, stored_by}

-- the store and its marks, in memory and rows
module _ (s : FlatState) (formed : IsWellFormed s) (space : SpaceNo) (pc va value : ℕ) (row : Row) (aligned : va % 4 ≡ 0) (found : row_through (reached s Write space va) ≡ Some row) where
  abbrev u1 : FlatState
  u1 = record s { memory = put_bytes 4 s.memory (place_in row.frame va) value }

  abbrev u2 : FlatState
  u2 = record s { memory = put_bytes 4 s.memory (place_in row.frame va) value; rows = map (marked space (pc / 4096) false) s.rows }

  pages_then : pages_of (stored_by s space pc va value row) space ≡ touched_at (touched_at (stored (pages_of s space) va Word value) pc Fetch) va Write
  pages_then =
      touch_pages u2 (stored_by s space pc va value row) space va Write true refl refl
      ∙ ap (λ (ps : List Page). touched_at ps va Write) (touch_pages u1 u2 space pc Fetch false refl refl
      ∙ ap (λ (ps : List Page). touched_at ps pc Fetch) (store_pages s u1 space va Word value row (place_in row.frame va) aligned found refl refl))

  beside_then : beside (stored_by s space pc va value row) space 0 ≡ beside s space 0
  beside_then =
      touch_keeps u2 (stored_by s space pc va value row) space va Write true refl refl 0
      ∙ touch_keeps u1 u2 space pc Fetch false refl refl 0
      ∙ store_keeps s u1 space va Word value row (place_in row.frame va) aligned found refl refl 0

  formed_then : IsWellFormed (stored_by s space pc va value row)
  formed_then =
      let granted = locks_granted s.kernels in
      let first = stored_sound s granted (record { formed = formed; sums = refl }) 4 (place_in row.frame va) value in
      let second = marked_sound u1 granted first space (pc / 4096) false in
      (marked_sound u2 granted second space (va / 4096) true).formed

  pub back : written_back s space (touched_at (touched_at (stored (pages_of s space) va Word value) pc Fetch) va Write) ≡ stored_by s space pc va value row
  back = ap (written_back s space) (sym pages_then) ∙ sym (went_back s (stored_by s space pc va value row) formed formed_then space 0 beside_then)

-- a step does what the next action says
after_next : (c : Context) (ps : List Page) (action : Action) → next_action c ps ≡ Some action → after_instruction c ps ≡ after_action action c ps
unfolding next_action after_instruction
after_next c ps action is = by_word (fetched ps c.pc) is
  where
    by_instr : (word : ℕ) (o : Option Instr) → option_map (λ instr. action_of instr c) o ≡ Some action → after_decoding c ps word o ≡ after_action action c ps
    by_instr word None e = absurd (cc)
    by_instr word (Some instr) e = ap (λ (a : Action). after_action a c ps) (same_Some (action_of instr c) action e)

    by_word : (o : Option ℕ) → option_and_then (λ word. option_map (λ instr. action_of instr c) (instruction_of word)) o ≡ Some action → after_fetch c ps o ≡ after_action action c ps
    by_word None e = absurd (cc)
    by_word (Some word) e = by_instr word (instruction_of word) e

stored_word : (c : Context) (ps : List Page) (va value : ℕ) → (va % 4 == 0) ≡ true → translates ps va Write ≡ true
    → after_action (Store va Word value) c ps ≡ record { context = record c { pc = next_of c }; pages = touched_at (touched_at (stored ps va Word value) c.pc Fetch) va Write; answer = steps.Next }
unfolding after_action
stored_word c ps va value aligned found = rw (aligned, found) refl

translated_by : (s : FlatState) (space : SpaceNo) (va : ℕ) (row : Row) → row_through (reached s Write space va) ≡ Some row → translates (pages_of s space) va Write ≡ true
unfolding translates
translated_by s space va row found = ap is_some (translation-pages (rights_of s space) s.memory s.rows space va Write ∙ ap (option_map (page_of (rights_of s space) s.memory)) found)

signal_by : (va : ℕ) (row : Row) (r : Translated) → r ≡ through row → (row.flags.m && is_signalling (va % 4096)) ≡ true → signal_through va r ≡ Some (record { frame = row.frame; offset = va % 4096 })
signal_by va row r is signals = ap (signal_through va) is ∙ ap (λ (b : Bool). if b then Some (record { frame = row.frame; offset = va % 4096 }) else None) signals

pub signal_step : (s : FlatState) (n : ℕ) (t : FlatThread) (vs : List View) (va value : ℕ) (row : Row) → IsWellFormed s → slice_get s.threads n ≡ Some t → t.status ≡ Ready → ((v : View) → Contains vs v → Shows s t.space v v.present)
    → next_action t.context (pages_of_views vs) ≡ Some (Store va Word value) → is_miss (after_instruction t.context (pages_of_views vs)).answer ≡ false → va % 4 ≡ 0 → reached s Write t.space va ≡ through row → (row.flags.m && is_signalling (va % 4096)) ≡ true
    → full_among s.threads (map (λ r. r.0) (receivers_of s row.frame)) ≡ None → after_step s n ≡ Some (signalled_by s n t va value row)
unfolding after_step next_signal
signal_step s n t vs va value row formed here ready views asks went aligned reaches signals room =
    let ps = pages_of_views vs in
    let fetches : ShowsAt ps (pages_of s t.space) Fetch t.context.pc = shows_at s t.space vs Fetch t.context.pc (λ v found. views v (through_parts vs Fetch t.context.pc v found).0) in
    let action : next_action t.context (pages_of s t.space) ≡ Some (Store va Word value) = same_action ps (pages_of s t.space) t.context went fetches ∙ asks in
    let found : row_through (reached s Write t.space va) ≡ Some row = ap row_through reaches in
    let c : Context = record t.context { pc = next_of t.context } in
    let same : outcome s t ≡ record { context = c; pages = touched_at (touched_at (stored (pages_of s t.space) va Word value) t.context.pc Fetch) va Write; answer = steps.Next } =
    after_next t.context (pages_of s t.space) (Store va Word value) action ∙ stored_word t.context (pages_of s t.space) va value (eq-eqb (va % 4) 0 aligned) (translated_by s t.space va row found) in
    let signal : Signal = record { frame = row.frame; offset = va % 4096 } in
    let sends : next_signal s t ≡ Some signal = ap (signal_of s t) action ∙ signal_by va row (reached s Write t.space va) reaches signals in
    let fits : is_runnable s t ≡ true = ap₂ (λ (a : Status) (g : Option Signal). is_ready a && not (is_some (full_among s.threads (map (λ receiver. receiver.0) (receivers_for s g))))) ready sends ∙ ap (λ o. not (is_some o)) room in
    ap (step_of s n) here ∙ (ap (λ (runnable : Bool). step_if runnable s n t) fits ∙ ap (λ (u : FlatState). Some u) (ap (stepped s n t) same
    ∙ ap₂ (λ (u : FlatState) (g : Option Signal). let w = with_thread u n (record t { context = c; status = Ready }) in record w { threads = delivered w.threads g (receivers_for s g) }) (back s formed t.space t.context.pc va value row aligned found) sends))
