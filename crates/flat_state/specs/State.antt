-- The machine with unlimited tables, as plain lists in declared order.
use Rattle.std.specs.Prelude.{ℕ, Bool, true, false, List, [], Option, Some, None, slice_set}
use Rattle.cache_ident.specs.declared.names.KernelNo.{KernelNo}
use Rattle.phys_groups.specs.declared.rows.Row.{Row}
use Rattle.rv32_exec.specs.declared.statuses.Status.{Status}
use Rattle.rv32_exec.specs.declared.statuses.Status.TheVariants.{Ready, Trapped, Ended}
use Rattle.flat_state.specs.declared.events.Machine.{Machine}
use Rattle.flat_state.specs.declared.records.FlatKernel.{FlatKernel}
use Rattle.flat_state.specs.declared.records.FlatThread.{FlatThread}

-- all that there is
pub record FlatState : Type 0 where
  -- the machine, if it was declared
  pub machine : Option Machine
  -- memory, byte by byte
  pub memory : List ℕ
  pub kernels : List FlatKernel
  -- for each space, its kernel
  pub spaces : List KernelNo
  pub rows : List Row
  pub threads : List FlatThread

-- before any declaration
abbrev pub nothing_declared : FlatState
nothing_declared = record { machine = None; memory = []; kernels = []; spaces = []; rows = []; threads = [] }

-- the page groups of the machine
abbrev pub groups_of : Option Machine → ℕ
groups_of None = 0
groups_of (Some m) = m.groups

-- what a thread is doing
abbrev pub is_ready : Status → Bool
is_ready Ready = true
is_ready Trapped = false
is_ready (Ended reason) = false

abbrev pub is_trapped : Status → Bool
is_trapped Ready = false
is_trapped Trapped = true
is_trapped (Ended reason) = false

abbrev pub is_ended : Status → Bool
is_ended Ready = false
is_ended Trapped = false
is_ended (Ended reason) = true

-- the state with a thread in the place of the one of that number
abbrev pub with_thread : FlatState → ℕ → FlatThread → FlatState
with_thread s n t = record s { threads = slice_set s.threads n t }
