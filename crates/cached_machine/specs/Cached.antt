-- What a machine with caches is, and what holds of it.
use Rattle.std.specs.Prelude.{◌≡◌, ℕ, Bool, List, Some}
use Rattle.std.specs.List.{list_any}
use Rattle.cache_ident.specs.declared.names.Caps.{Caps}
use Rattle.cache_ident.specs.declared.names.Name.{Name}
use Rattle.cache_ident.specs.Residents.{Resident}
use Rattle.flat_state.specs.declared.events.Machine.{Machine}
use Rattle.flat_state.specs.Declaration.{locks_granted}
use Rattle.flat_state.specs.State.{FlatState}
use Rattle.flat_state.specs.WellFormed.{IsWellFormed}
use Rattle.thread_sets.specs.kind_store.specs.Changes.{is_name}
use Rattle.board_laws.specs.desc_stores.specs.Contents.{residents_of, Contents}
use Rattle.board_laws.specs.shown_state.specs.Shown.{shown}
use Rattle.thread_sets.specs.Sets.{Sets}
use Rattle.thread_sets.specs.SetsOf.{AreSetsOf}
use Rattle.board_laws.specs.desc_tables.specs.Tables.{Held}

-- which machine it is, its memory, its descriptors, and which threads can go on
pub record Cached : Type 0 where
  pub machine : Machine
  pub memory : List ℕ
  pub held : Held
  pub sets : Sets

-- the machine with unlimited tables that it shows
abbrev pub state_of : Cached → FlatState
state_of m = shown (Some m.machine) m.memory m.held.contents

-- whether the name is loaded
abbrev pub is_loaded : Contents → Name → Bool
is_loaded c name = list_any (λ (r : Resident). is_name name r.name) (residents_of c)

-- The state that is shown is well-formed, and the sets are those of its threads. The capacities are those of the machine, and
-- the lock limits are summed.
pub record IsSoundMachine (m : Cached) (granted : Caps) : Type 0 where
  pub formed : IsWellFormed (state_of m)
  pub sets : AreSetsOf (state_of m).threads m.sets
  pub caps : m.held.caps ≡ m.machine.caps
  pub sums : granted ≡ locks_granted (state_of m).kernels
