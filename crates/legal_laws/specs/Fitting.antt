-- When each event of a list fits where it stands.
use Rattle.std.specs.Prelude.{◌≡◌, ℕ, List, take, Some, IsSome, slice_get}
use Rattle.group_laws.specs.flat_state.specs.declared.events.Event.{Event}
use Rattle.group_laws.specs.flat_state.specs.Events.{after_event, flat}

-- the event at each place fits the state that the events before it make
abbrev pub EachFits : List Event → Type 0
EachFits es = (at : ℕ) (e : Event) → slice_get es at ≡ Some e → IsSome (after_event (flat (take at es)) e)
