-- What the next step of a thread goes through, and all that it wants.
use Rattle.std.specs.Prelude.{ℕ, ◌%◌, Bool, true, false, ◌==◌, if◌then◌else◌, List, ◌∷◌, ◌++◌, map, Option, Some, None, option_to_list, slice_get}
use Rattle.std.specs.Option.{option_map}
use Rattle.cache_ident.specs.declared.names.Name.{Name}
use Rattle.cache_ident.specs.declared.names.Name.TheVariants.{Thread}
use Rattle.phys_groups.specs.declared.rows.Row.{Row}
use Rattle.phys_groups.specs.Rows.{row_name}
use Rattle.rv32_exec.specs.declared.statuses.Access.{Access}
use Rattle.rv32_exec.specs.declared.statuses.Access.TheVariants.{Fetch, Read, Write}
use Rattle.rv32_exec.specs.declared.actions.Action.{Action}
use Rattle.rv32_exec.specs.declared.actions.Action.TheVariants as actions
use Rattle.rv32_exec.specs.declared.steps.Stepped.{Stepped}
use Rattle.rv32_exec.specs.declared.steps.Stepped.TheVariants.{Next, Call, Stop, Miss}
use Rattle.rv32_exec.specs.Pages.{size_of}
use Rattle.flat_state.specs.declared.records.FlatThread.{FlatThread}
use Rattle.flat_state.specs.declared.records.NextStep.{NextStep}
use Rattle.flat_state.specs.declared.records.DataAccess.{DataAccess}
use Rattle.flat_state.specs.State.{FlatState, is_ready}
use Rattle.flat_state.specs.Translation.{reached, row_through}
use Rattle.flat_state.specs.Pages.{pages_of}
use Rattle.flat_state.specs.Signals.{next_action, is_runnable}
use Rattle.flat_state.specs.Step.{outcome}
use Rattle.flat_state.specs.Dependence.{up}

abbrev pub if_aligned : ℕ → Access → ℕ → Option DataAccess
if_aligned size access va = if va % size == 0 then Some (record { access = access; va = va }) else None

-- The first data access of an action. An atomic one reads before it writes. Where the width doesn't divide the address
-- there is none.
abbrev pub data_access : Action → Option DataAccess
data_access (actions.Load rd va width signed) = if_aligned (size_of width) Read va
data_access (actions.Store va width value) = if_aligned (size_of width) Write va
data_access (actions.Atomic rd va op operand) = if_aligned 4 Read va
data_access (actions.Set rd value) = None
data_access actions.Pass = None
data_access (actions.Jump rd target) = None
data_access actions.Call = None
data_access actions.Break = None

-- a store and an atomic action store
abbrev pub stores : Option Action → Bool
stores (Some (actions.Store va width value)) = true
stores (Some (actions.Atomic rd va op operand)) = true
stores _ = false

-- the row that the next step's fetch goes through
abbrev pub fetch_row : FlatState → FlatThread → Option Row
fetch_row s t = row_through (reached s Fetch t.space t.context.pc)

abbrev pub row_of_access : FlatState → FlatThread → Option DataAccess → Option Row
row_of_access s t None = None
row_of_access s t (Some a) = row_through (reached s a.access t.space a.va)

abbrev pub row_of_action : FlatState → FlatThread → Option Action → Option Row
row_of_action s t None = None
row_of_action s t (Some action) = row_of_access s t (data_access action)

-- the row that its data access goes through
abbrev pub data_row : FlatState → FlatThread → Option Row
data_row s t = row_of_action s t (next_action t.context (pages_of s t.space))

abbrev pub is_miss : Stepped → Bool
is_miss Next = false
is_miss Call = false
is_miss (Stop reason) = false
is_miss (Miss va access) = true

-- the next step of a ready thread ends it because an access doesn't translate
abbrev pub faults : FlatState → FlatThread → Bool
faults s t = is_miss (outcome s t).answer

-- nothing can be said of a thread that isn't ready
abbrev pub next_step_if : Bool → FlatState → FlatThread → NextStep
next_step_if false s t = record { runnable = false; faults = false; fetch_row = None; data_row = None }
next_step_if true s t =
    record {
      runnable = is_runnable s t;
      faults = faults s t;
      fetch_row = option_map row_name (fetch_row s t);
      data_row = option_map row_name (data_row s t);
    }

abbrev pub next_step_of : FlatState → FlatThread → NextStep
next_step_of s t = next_step_if (is_ready t.status) s t

-- what can be said of a thread's next step; nothing where there is no such thread
unfoldable pub next_step : FlatState → ℕ → Option NextStep
next_step s n = option_map (next_step_of s) (slice_get s.threads n)

-- The chain of a thread's next step: the thread, the rows that its fetch and its data access go through, and all that
-- these depend on, which takes four steps at most.
unfoldable pub chain : FlatState → FlatThread → List Name
chain s t =
    up 4 s (Thread t.no ∷ (map row_name (option_to_list (fetch_row s t)) ++ map row_name (option_to_list (data_row s t))))
