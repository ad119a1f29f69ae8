-- What the parts of a step and of a completion leave.
use Rattle.std.specs.Prelude.{◌≡◌, ℕ, ◌<◌, Bool, not, if◌then◌else◌, List, Option}
use Rattle.cache_ident.specs.declared.names.SpaceNo.{SpaceNo}
use Rattle.cache_ident.specs.declared.names.ThreadNo.{ThreadNo}
use Rattle.cache_ident.specs.declared.names.Vpn.{Vpn}
use Rattle.rv32_exec.specs.declared.contexts.Context.{Context}
use Rattle.rv32_exec.specs.declared.statuses.Reason.TheVariants.{Fault}
use Rattle.rv32_exec.specs.declared.statuses.Status.{Status}
use Rattle.rv32_exec.specs.declared.statuses.Status.TheVariants.{Ready, Trapped, Ended}
use Rattle.rv32_exec.specs.declared.steps.Stepped.{Stepped}
use Rattle.rv32_exec.specs.declared.steps.Stepped.TheVariants.{Next, Call, Stop, Miss}
use Rattle.rv32_exec.specs.Steps.{After, after_step as after_instruction}
use Rattle.flat_state.specs.declared.events.Decl.{Decl}
use Rattle.flat_state.specs.declared.records.FlatThread.{FlatThread}
use Rattle.flat_state.specs.declared.records.Signal.{Signal}
use Rattle.flat_state.specs.State.{FlatState}
use Rattle.flat_state.specs.Translation.{reached, fault_kind}
use Rattle.flat_state.specs.Declaration.{breaks, broken_rule}
use Rattle.flat_state.specs.Pages.{pages_of}
use Rattle.flat_state.specs.Signals.{delivered}
use Rattle.flat_state.specs.Step.{outcome, written_back, moved, faulted}

-- the number is that of a rule of a declaration
abbrev pub IsRule : ℕ → Type 0
IsRule rule = (0 < rule) × (rule < 20)

-- the rule that a call's declaration breaks first, where its bits may lack the form of a field
abbrev pub rule_if_formed : FlatState → Decl → Bool → Option ℕ
rule_if_formed s d formed = breaks (not formed) 4 (broken_rule s d)

-- one step in the pages of a space was taken: of this context, which became that one, with that answer
pub record RanIn (old : FlatState) (space : SpaceNo) (before : Context) (new : FlatState) (after : Context) (answer : Stepped) : Type 0 where
  pub context : after ≡ (after_instruction before (pages_of old space)).context
  pub answered : answer ≡ (after_instruction before (pages_of old space)).answer
  pub state : new ≡ written_back old space (after_instruction before (pages_of old space)).pages

-- what a thread does after a step that came to that
abbrev pub status_so : FlatState → FlatThread → Stepped → Status
status_so s t Next = Ready
status_so s t Call = Trapped
status_so s t (Stop reason) = Ended reason
status_so s t (Miss va access) = Ended (Fault (fault_kind (reached s access t.space va)) access va)

-- a step that missed sends nothing
abbrev pub delivered_unless : Bool → List FlatThread → Option Signal → List (ThreadNo × Vpn) → List FlatThread
delivered_unless missed threads signal receivers = if missed then threads else delivered threads signal receivers

-- the state after the step of a thread whose signals aren't delivered yet
abbrev pub unsignalled_so : FlatState → ℕ → FlatThread → After → Stepped → FlatState
unsignalled_so s n t after Next = moved s n t after Ready
unsignalled_so s n t after Call = moved s n t after Trapped
unsignalled_so s n t after (Stop reason) = moved s n t after (Ended reason)
unsignalled_so s n t after (Miss va access) = faulted s n t va access

abbrev pub unsignalled : FlatState → ℕ → FlatThread → FlatState
unsignalled s n t = unsignalled_so s n t (outcome s t) (outcome s t).answer
