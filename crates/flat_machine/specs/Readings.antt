-- What the program keeps.
use Rattle.std.specs.Prelude.{◌≡◌, ℕ, List, Option}
use Rattle.cache_ident.specs.declared.names.Caps.{Caps}
use Rattle.cache_ident.specs.declared.names.KernelNo.{KernelNo}
use Rattle.phys_groups.specs.declared.rows.Row.{Row}
use Rattle.flat_state.specs.declared.events.Machine.{Machine}
use Rattle.flat_state.specs.declared.records.FlatKernel.{FlatKernel}
use Rattle.flat_state.specs.declared.records.FlatThread.{FlatThread}
use Rattle.flat_state.specs.Declaration.{locks_granted}
use Rattle.flat_state.specs.WellFormed.{IsWellFormed}

-- the state is well-formed, and the sums are those of the lock limits
pub record IsSound (machine : Option Machine) (memory : List ℕ) (kernels : List FlatKernel) (granted : Caps) (spaces : List KernelNo) (rows : List Row) (threads : List FlatThread) : Type 0 where
  pub formed : IsWellFormed (record { machine = machine; memory = memory; kernels = kernels; spaces = spaces; rows = rows; threads = threads })
  pub sums : granted ≡ locks_granted kernels
