-- What an event makes of the machine, and a list of them.
use Rattle.std.specs.Prelude.{◌≡◌, ℕ, List, [], ◌∷◌, Option, Some, None, unwrap_or}
use Rattle.flat_state.specs.declared.events.Decl.{Decl}
use Rattle.flat_state.specs.declared.events.Event.{Event}
use Rattle.flat_state.specs.declared.events.Event.TheVariants.{Declare, Step, Complete}
use Rattle.flat_state.specs.State.{FlatState, nothing_declared}
use Rattle.flat_state.specs.Declaration.{broken_rule, declared}
use Rattle.flat_state.specs.Step.{after_step}
use Rattle.flat_state.specs.Call.{after_completion}

abbrev pub declared_unless : Option ℕ → FlatState → Decl → Option FlatState
declared_unless None s d = Some (declared s d)
declared_unless (Some rule) s d = None

-- The state after an event; none where the event doesn't fit. A declaration fits where it breaks no rule, a step
-- where its thread is runnable, and a completion where its thread's call can be completed.
abbrev pub after_event : FlatState → Event → Option FlatState
after_event s (Declare d) = declared_unless (broken_rule s d) s d
after_event s (Step thread) = after_step s thread.0
after_event s (Complete thread) = after_completion s thread.0

-- an event that doesn't fit leaves the state
abbrev pub applied : FlatState → Event → FlatState
applied s e = unwrap_or (after_event s e) s

-- the events one after another
abbrev pub after_events : FlatState → List Event → FlatState
after_events s [] = s
after_events s (e ∷ es) = after_events (applied s e) es

-- the state that a list of events makes from nothing
abbrev pub flat : List Event → FlatState
flat es = after_events nothing_declared es

-- each declaration breaks no rule of the state that those before it make
abbrev pub AllFit : FlatState → List Decl → Type 0
AllFit s [] = Unit {0}
AllFit s (d ∷ ds) = (broken_rule s d ≡ None) × AllFit (declared s d) ds

-- the state after declarations that all fit
abbrev pub after_declarations : FlatState → List Decl → FlatState
after_declarations s [] = s
after_declarations s (d ∷ ds) = after_declarations (declared s d) ds
