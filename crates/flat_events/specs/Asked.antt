-- What the call that a thread is in asks for, beyond that thread, and what comes of it.
use Rattle.std.specs.Prelude.{◌≡◌, ℕ, true, if◌then◌else◌, is_some, length, Option, Some, None, slice_get}
use Rattle.phys_groups.specs.Translation.{row_of, without}
use Rattle.fault_forward.specs.declared.effects.Effect.{Effect}
use Rattle.fault_forward.specs.declared.effects.Effect.TheVariants as effects
use Rattle.flat_state.specs.declared.events.Decl.{Decl}
use Rattle.flat_state.specs.declared.records.FlatThread.{FlatThread}
use Rattle.flat_state.specs.State.{FlatState, with_thread}
use Rattle.flat_state.specs.Declaration.{broken_rule, declared}
use Rattle.flat_state.specs.Call.{answered, granting, is_first, mapping, refusal, rule_of_granting, rule_of_mapping, spawning}
use Rattle.flat_thread.specs.Calls.{call_of, own_part}
use Rattle.flat_events.specs.declared.asked.Asked.{Asked}
use Rattle.flat_events.specs.declared.asked.Asked.TheVariants.{Nothing, Refused, Declares, Unmaps}
use Rattle.flat_events.specs.Readings.{IsRule}

-- a declaration, unless it breaks a rule
abbrev pub asks_if : Option ℕ → Decl → ℕ → Asked
asks_if None d answer = Declares d answer
asks_if (Some rule) d answer = Refused rule

-- what a call of the thread with that effect asks for
abbrev pub asked_so : FlatState → FlatThread → Effect → Asked
asked_so s t effects.Ready = Nothing
asked_so s t (effects.Put byte) = Nothing
asked_so s t (effects.Decimal number) = Nothing
asked_so s t (effects.End reason) = Nothing
asked_so s t (effects.Map vpn frame flags receiver) =
    asks_if (rule_of_mapping s (mapping t vpn frame flags receiver) flags) (mapping t vpn frame flags receiver) 0
asked_so s t (effects.Unmap vpn) =
    if is_some (row_of s.rows t.space vpn) then Unmaps t.space (record { 0 = vpn }) else Refused 1
asked_so s t (effects.Spawn pc a0 priority) =
    asks_if (broken_rule s (spawning s t pc a0 priority)) (spawning s t pc a0 priority) (length s.threads)
asked_so s t (effects.Grant kernel group bits) =
    if is_first (slice_get s.spaces t.space.0) then asks_if (rule_of_granting s (granting kernel group bits) bits) (granting kernel group bits) 0 else Refused 1

-- what the call that the thread is in asks for
abbrev pub asked_of : FlatState → FlatThread → Asked
asked_of s t = asked_so s t (call_of t).effect

-- a declaration that is asked for breaks no rule, a row that is to go is there, and a refusal names a rule
abbrev pub CanBeDone : FlatState → Asked → Type 0
CanBeDone s Nothing = Unit {0}
CanBeDone s (Refused rule) = IsRule rule
CanBeDone s (Declares decl answer) = broken_rule s decl ≡ None
CanBeDone s (Unmaps space vpn) = is_some (row_of s.rows space vpn.0) ≡ true

-- The state after that is done for the thread: what is the thread's own affair, or what it asks for and then its answer.
abbrev pub after_asked : FlatState → ℕ → FlatThread → Asked → FlatState
after_asked s n t Nothing = with_thread s n (own_part t)
after_asked s n t (Refused rule) = with_thread s n (answered t (refusal rule))
after_asked s n t (Declares decl answer) = with_thread (declared s decl) n (answered t answer)
after_asked s n t (Unmaps space vpn) = with_thread (record s { rows = without space vpn.0 s.rows }) n (answered t 0)
