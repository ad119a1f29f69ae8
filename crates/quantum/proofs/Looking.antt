-- What a space's answers say of the views.
use Rattle.std.proofs.Common.{◌≡◌, ℕ, ◌/◌, ◌%◌, Bool, true, false, cond, List, [], ◌∷◌, Option, Some, None, refl, ap, sym, ◌∙◌}
use Rattle.std.specs.Prelude.{◌&&◌, ◌||◌, if◌then◌else◌}
use Rattle.std.specs.List.{find}
use Rattle.std.specs.Option.{option_map, option_and_then}
use Rattle.rv32_isa.specs.declared.forms.Instr.{Instr}
use Rattle.rv32_isa.specs.Table.{instruction_of}
use Rattle.rv32_exec.specs.declared.contexts.Context.{Context}
use Rattle.rv32_exec.specs.Pages.{Page, fetched}
use Rattle.rv32_exec.specs.Actions.{action_of}
use Rattle.rv32_exec.specs.declared.actions.Action.{Action}
use Rattle.rv32_exec.specs.declared.actions.Action.TheVariants.{Set, Pass, Jump, Load, Store, Atomic}
use Rattle.rv32_exec.specs.declared.actions.Action.TheVariants as actions
use Rattle.rv32_exec.specs.declared.spaces.Width.TheVariants.{Byte, Half, Word}
use Rattle.rv32_exec.specs.declared.statuses.Access.TheVariants.{Write}
use Rattle.signal_pages.specs.Signals.{is_signalling}
use Rattle.page_views.specs.Views.{View, has_message, is_of_page, where_flagged}
use Rattle.quantum.specs.Ahead.{signals_by, signals_through}
use Rattle.flat_laws.specs.flat_state.specs.Signals.{next_action}

pub no_action : (c : Context) (ps : List Page) → fetched ps c.pc ≡ None → next_action c ps ≡ None
unfolding next_action
no_action c ps e = ap (option_and_then (λ word. option_map (λ instr. action_of instr c) (instruction_of word))) e

pub action_at : (c : Context) (ps : List Page) (word : ℕ) → fetched ps c.pc ≡ Some word → (o : Option Instr) → o ≡ instruction_of word → next_action c ps ≡ option_map (λ (instr : Instr). action_of instr c) o
unfolding next_action
action_at c ps word e o is =
    ap (option_and_then (λ word. option_map (λ instr. action_of instr c) (instruction_of word))) e ∙ ap (option_map (λ (instr : Instr). action_of instr c)) (sym is)

-- no store signals where no view has the message flag
quiet_view : (p : View → Bool) (va : ℕ) (vs : List View) → has_message vs ≡ false → signals_through va (where_flagged Write (find p vs)) ≡ false
quiet_view p va [] quiet = refl
quiet_view p va (v ∷ vs) quiet = by (p v) (both v.flags.m (has_message vs) quiet) (quiet_view p va vs)
  where
    both : (a b : Bool) → (a || b) ≡ false → (a ≡ false) × (b ≡ false)
    both false b e = (refl, e)
    both true b e = cc

    by_flag : (w : Bool) → v.flags.m ≡ false → signals_through va (if w then Some v else None) ≡ false
    by_flag true e = ap (λ (m : Bool). m && is_signalling (va % 4096)) e
    by_flag false e = refl

    by : (b : Bool) → (v.flags.m ≡ false) × (has_message vs ≡ false) → (has_message vs ≡ false → signals_through va (where_flagged Write (find p vs)) ≡ false)
        → signals_through va (where_flagged Write (cond b (Some v) (find p vs))) ≡ false
    by true parts later = by_flag v.flags.w parts.0
    by false parts later = later parts.1

pub quiet_action : (vs : List View) → has_message vs ≡ false → (o : Option Action) → signals_by vs o ≡ false
quiet_action vs quiet None = refl
quiet_action vs quiet (Some (Set rd value)) = refl
quiet_action vs quiet (Some Pass) = refl
quiet_action vs quiet (Some (Jump rd target)) = refl
quiet_action vs quiet (Some (Load rd va width signed)) = refl
quiet_action vs quiet (Some (Store va Byte value)) = refl
quiet_action vs quiet (Some (Store va Half value)) = refl
quiet_action vs quiet (Some (Store va Word value)) = quiet_view (is_of_page (record { 0 = va / 4096 })) va vs quiet
quiet_action vs quiet (Some (Atomic rd va op operand)) = refl
quiet_action vs quiet (Some actions.Call) = refl
quiet_action vs quiet (Some actions.Break) = refl
