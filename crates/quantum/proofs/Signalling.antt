-- The store that signals before which a run pauses.
use Rattle.std.proofs.Common.{◌≡◌, ℕ, ◌+◌, ◌*◌, ◌/◌, ◌%◌, Bool, true, false, List, Option, Some, None, is_some, refl, ap, sym, ◌∙◌, subst, arith}
use Rattle.std.specs.Prelude.{◌==◌, if◌then◌else◌, nat_le, IfSome}
use Rattle.std.specs.Option.{option_map, option_and_then, option_or}
use Rattle.std.proofs.lemmas.Bool.{and_parts, eqb-true, eq-eqb}
use Rattle.std.proofs.lemmas.Option.{same_Some}
use Rattle.signal_pages.specs.Signals.{is_signalling}
use Rattle.rv32_isa.specs.declared.forms.Instr.{Instr}
use Rattle.rv32_isa.specs.Table.{instruction_of}
use Rattle.rv32_exec.specs.declared.contexts.Context.{Context}
use Rattle.rv32_exec.specs.declared.statuses.Access.TheVariants.{Fetch, Write}
use Rattle.rv32_exec.specs.declared.spaces.Width.{Width}
use Rattle.rv32_exec.specs.declared.spaces.Width.TheVariants.{Byte, Half, Word}
use Rattle.rv32_exec.specs.declared.actions.Action.{Action}
use Rattle.rv32_exec.specs.declared.actions.Action.TheVariants.{Set, Pass, Jump, Load, Store, Atomic}
use Rattle.rv32_exec.specs.declared.actions.Action.TheVariants as actions
use Rattle.rv32_exec.specs.declared.steps.Stepped.TheVariants as steps
use Rattle.rv32_exec.specs.Actions.{action_of}
use Rattle.rv32_exec.specs.Pages.{Page, fetched, stored, touched_at, translates}
use Rattle.rv32_exec.specs.Registers.{next_of}
use Rattle.rv32_exec.specs.Steps.{After, after_action, after_decoding, after_fetch, after_step}
use Rattle.flat_laws.specs.flat_state.specs.Signals.{next_action}
use Rattle.page_views.specs.Views.{pages_of_views, view_through, View}
use Rattle.page_views.proofs.Tables.{translates_is}
use Rattle.quantum.specs.declared.paused.Paused.{Paused}
use Rattle.quantum.specs.declared.paused.Paused.TheVariants as pauses
use Rattle.quantum.specs.declared.paused.SignalStore.{SignalStore}
use Rattle.quantum.specs.Ahead.{at_limit, further, is_signal, outcome, pause_at, pause_before, pause_if_missed, signal_store, signals_by, signals_next, signals_through, standing, store_by, store_if, Ahead, IsRun, IsStoreAhead}

-- a step does what the next action says
after_next : (c : Context) (ps : List Page) (action : Action) → next_action c ps ≡ Some action → after_step c ps ≡ after_action action c ps
unfolding next_action after_step
after_next c ps action is = by_word (fetched ps c.pc) is
  where
    by_instr : (word : ℕ) (o : Option Instr) → option_map (λ instr. action_of instr c) o ≡ Some action → after_decoding c ps word o ≡ after_action action c ps
    by_instr word None e = absurd (cc)
    by_instr word (Some instr) e = ap (λ (a : Action). after_action a c ps) (same_Some (action_of instr c) action e)

    by_word : (o : Option ℕ) → option_and_then (λ word. option_map (λ instr. action_of instr c) (instruction_of word)) o ≡ Some action → after_fetch c ps o ≡ after_action action c ps
    by_word None e = absurd (cc)
    by_word (Some word) e = by_instr word (instruction_of word) e

-- a store of a word that is found
stored_word : (c : Context) (ps : List Page) (va value : ℕ) → (va % 4 == 0) ≡ true → translates ps va Write ≡ true
    → after_action (Store va Word value) c ps ≡ record { context = record c { pc = next_of c }; pages = touched_at (touched_at (stored ps va Word value) c.pc Fetch) va Write; answer = steps.Next }
unfolding after_action
stored_word c ps va value aligned found = rw (aligned, found) refl

-- whether a store signals
pub store_told : (c : Context) (vs : List View) (o : Option Action) → is_some (store_by c vs o) ≡ signals_by vs o
store_told c vs None = refl
store_told c vs (Some (Set rd value)) = refl
store_told c vs (Some Pass) = refl
store_told c vs (Some (Jump rd target)) = refl
store_told c vs (Some (Load rd va width signed)) = refl
store_told c vs (Some (Store va Byte value)) = refl
store_told c vs (Some (Store va Half value)) = refl
store_told c vs (Some (Store va Word value)) = by (signals_through va (view_through vs Write va))
  where
    by : (b : Bool) → is_some (store_if c va value b) ≡ b
    by true = refl
    by false = refl
store_told c vs (Some (Atomic rd va op operand)) = refl
store_told c vs (Some actions.Call) = refl
store_told c vs (Some actions.Break) = refl

pub store_so : (c : Context) (vs : List View) (va : ℕ) (width : Width) (value : ℕ) → signals_by vs (Some (Store va width value)) ≡ true → store_if c va value true ≡ store_by c vs (Some (Store va width value))
store_so c vs va Byte value signals = absurd (cc)
store_so c vs va Half value signals = absurd (cc)
store_so c vs va Word value signals = ap (store_if c va value) (sym signals)

-- a store that is one is a word's, and signals
record IsStoreOf (c : Context) (vs : List View) (o : Option Action) (store : SignalStore) : Type 0 where
  va : ℕ
  value : ℕ
  its : o ≡ Some (Store va Word value)
  signals : signals_through va (view_through vs Write va) ≡ true
  is : store ≡ record { vpn = record { 0 = va / 4096 }; offset = va % 4096; word = value; context = record c { pc = next_of c } }

store_is : (c : Context) (vs : List View) (o : Option Action) (store : SignalStore) → store_by c vs o ≡ Some store → IsStoreOf c vs o store
store_is c vs None store is = absurd (cc)
store_is c vs (Some (Set rd value)) store is = absurd (cc)
store_is c vs (Some Pass) store is = absurd (cc)
store_is c vs (Some (Jump rd target)) store is = absurd (cc)
store_is c vs (Some (Load rd va width signed)) store is = absurd (cc)
store_is c vs (Some (Store va Byte value)) store is = absurd (cc)
store_is c vs (Some (Store va Half value)) store is = absurd (cc)
store_is c vs (Some (Store va Word value)) store is = by (signals_through va (view_through vs Write va)) refl is
  where
    by : (b : Bool) → signals_through va (view_through vs Write va) ≡ b → store_if c va value b ≡ Some store → IsStoreOf c vs (Some (Store va Word value)) store
    by false quiet is = absurd (cc)
    by true signals is = record { va = va; value = value; its = refl; signals = signals; is = sym (same_Some _ store is) }
store_is c vs (Some (Atomic rd va op operand)) store is = absurd (cc)
store_is c vs (Some actions.Call) store is = absurd (cc)
store_is c vs (Some actions.Break) store is = absurd (cc)

reaches : (va : ℕ) (o : Option View) → signals_through va o ≡ true → (is_some o ≡ true) × (is_signalling (va % 4096) ≡ true)
reaches va None signals = absurd (cc)
reaches va (Some v) signals = (refl, (and_parts v.flags.m (is_signalling (va % 4096)) signals).1)

aligned_by : (va : ℕ) → is_signalling (va % 4096) ≡ true → (va % 4 == 0) ≡ true
aligned_by va signals =
    let last : va % 4096 % 64 ≡ 60 = eqb-true (va % 4096 % 64) 60 signals in
    eq-eqb (va % 4) 0 (omega (arith, last))

-- it is the next step
effect_of : (a : Ahead) (store : SignalStore) → IsStoreOf a.context a.views (next_action a.context (pages_of_views a.views)) store → IsStoreAhead a store
effect_of a store of =
    let ps = pages_of_views a.views in
    let parts = reaches of.va (view_through a.views Write of.va) of.signals in
    let after : outcome a ≡ record { context = record a.context { pc = next_of a.context }; pages = touched_at (touched_at (stored ps of.va Word of.value) a.context.pc Fetch) of.va Write; answer = steps.Next } =
    after_next a.context ps (Store of.va Word of.value) of.its
    ∙ stored_word a.context ps of.va of.value (aligned_by of.va parts.1) (translates_is a.views Write of.va ∙ parts.0) in
    let whole : of.va ≡ 4096 * (of.va / 4096) + of.va % 4096 = omega arith in
    subst (IsStoreAhead a) (sym of.is) (record {
      signals = ap (signals_by a.views) of.its ∙ of.signals;
      goes_on = ap (λ (x : After). x.answer) after;
      context = ap (λ (x : After). x.context) after;
      pages = ap (λ (x : After). x.pages) after ∙ ap (λ (va : ℕ). touched_at (touched_at (stored ps va Word of.value) a.context.pc Fetch) va Write) whole;
    })

pub store_ahead : (a : Ahead) (store : SignalStore) → signal_store a ≡ Some store → IsStoreAhead a store
store_ahead a store is = by (is_signal a.paused) is
  where
    by : (b : Bool) → (if b then store_by a.context a.views (next_action a.context (pages_of_views a.views)) else None) ≡ Some store → IsStoreAhead a store
    by false is = absurd (cc)
    by true is = effect_of a store (store_is a.context a.views (next_action a.context (pages_of_views a.views)) store is)

pub effect_if : (a : Ahead) (o : Option SignalStore) → o ≡ signal_store a → IfSome o (IsStoreAhead a)
effect_if a None is = tt
effect_if a (Some store) is = store_ahead a store (sym is)

-- ---- where a run pauses

-- a pause before a store that signals stands before one
pub signal_stands : (limit : ℕ) (a : Ahead) (p : Paused) → pause_at limit a ≡ Some p → is_signal (Some p) ≡ true → signals_next a ≡ true
signal_stands limit a p stands signal = by_standing a.paused stands
  where
    by_answer : (b : Bool) → (if b then Some pauses.Signal else pause_if_missed (outcome a).answer) ≡ Some p → b ≡ true
    by_answer true e = refl
    by_answer false e = missed (outcome a).answer e
      where
        missed : (answer : _) → pause_if_missed answer ≡ Some p → false ≡ true
        missed steps.Next e = absurd (cc)
        missed steps.Call e = absurd (cc)
        missed (steps.Stop reason) e = absurd (cc)
        missed (steps.Miss va access) e = absurd (cc (ap is_signal e, signal))

    by_limit : (b : Bool) → option_or (if b then Some pauses.Limit else None) (pause_before a) ≡ Some p → signals_next a ≡ true
    by_limit true e = absurd (cc (ap is_signal e, signal))
    by_limit false e = by_answer (signals_next a) e

    by_standing : (o : Option Paused) → option_or (standing o) (option_or (at_limit limit a.steps) (pause_before a)) ≡ Some p → signals_next a ≡ true
    by_standing None e = by_limit (nat_le limit a.steps) e
    by_standing (Some pauses.Limit) e = by_limit (nat_le limit a.steps) e
    by_standing (Some pauses.Call) e = absurd (cc (ap is_signal e, signal))
    by_standing (Some (pauses.Stopped reason)) e = absurd (cc (ap is_signal e, signal))
    by_standing (Some (pauses.Miss va access)) e = by_limit (nat_le limit a.steps) e
    by_standing (Some pauses.Signal) e = by_limit (nat_le limit a.steps) e

-- what a run comes to tells of the store exactly where it pauses before one
pub store_where : (limit : ℕ) (before after : Ahead) (answer : Paused) → IsRun limit before after answer → is_some (signal_store after) ≡ is_signal (Some answer)
store_where limit before after answer ran =
    let last = further ran.count before in
    ap (λ (a : Ahead). is_some (signal_store a)) ran.took ∙ by (is_signal (Some answer)) refl last ran.stands
  where
    by : (b : Bool) → is_signal (Some answer) ≡ b → (last : Ahead) → pause_at limit last ≡ Some answer
        → is_some (if b then store_by last.context last.views (next_action last.context (pages_of_views last.views)) else None) ≡ b
    by false other last stands = refl
    by true signal last stands = store_told last.context last.views (next_action last.context (pages_of_views last.views)) ∙ signal_stands limit last answer stands signal
