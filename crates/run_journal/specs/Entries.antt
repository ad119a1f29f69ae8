-- What happened to a machine, and the events that are left of it.
use Rattle.std.specs.Prelude.{ℕ, Bool, true, false, List, [], ◌∷◌, replicate, count_by}
use Rattle.std.specs.List.{flat_map}
use Rattle.flat_state.specs.declared.events.Event.{Event}
use Rattle.flat_state.specs.declared.events.Event.TheVariants.{Declare, Step, Complete}
use Rattle.run_journal.specs.declared.entries.Entry.{Entry}
use Rattle.run_journal.specs.declared.entries.Entry.TheVariants.{Declared, Sealed, Loaded, WrittenBack, Locked, Unlocked, Ran, Ended, Completed}

-- what a journal shows: its entries, and how many more fit without memory
pub record Written : Type 0 where
  pub entries : List Entry
  pub spare : ℕ

-- the events of one entry
abbrev pub events_of : Entry → List Event
events_of (Declared d) = Declare d ∷ []
events_of Sealed = []
events_of (Loaded ident name cpu) = []
events_of (WrittenBack ident cause cpu) = []
events_of (Locked ident cpu) = []
events_of (Unlocked ident cpu) = []
events_of (Ran thread steps cpu) = replicate steps (Step thread)
events_of (Ended thread cpu) = Step thread ∷ []
events_of (Completed thread cpu) = Complete thread ∷ []

-- the events of a journal: what the machine with unlimited tables sees of it
abbrev pub erase : List Entry → List Event
erase j = flat_map events_of j

abbrev pub is_step : Event → Bool
is_step (Declare d) = false
is_step (Step thread) = true
is_step (Complete thread) = false

-- how many steps were taken
abbrev pub steps_in : List Entry → ℕ
steps_in j = count_by is_step (erase j)

-- the processor that made an entry
abbrev pub maker_of : Entry → ℕ
maker_of (Declared d) = 0
maker_of Sealed = 0
maker_of (Loaded ident name cpu) = cpu
maker_of (WrittenBack ident cause cpu) = cpu
maker_of (Locked ident cpu) = cpu
maker_of (Unlocked ident cpu) = cpu
maker_of (Ran thread steps cpu) = cpu
maker_of (Ended thread cpu) = cpu
maker_of (Completed thread cpu) = cpu
