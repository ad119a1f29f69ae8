-- How an address of a space translates: by the rows and the rights that there are at that moment.
use Rattle.std.specs.Prelude.{ℕ, Bool, List, [], Option, Some, None, slice_get}
use Rattle.cache_ident.specs.declared.names.KernelNo.{KernelNo}
use Rattle.cache_ident.specs.declared.names.SpaceNo.{SpaceNo}
use Rattle.phys_groups.specs.declared.rows.Flags.{Flags}
use Rattle.phys_groups.specs.declared.rows.Row.{Row}
use Rattle.phys_groups.specs.Translation.{Translated, through, no_row, no_flag, no_right, translated, is_fit, allows_fetch, allows_read, allows_write}
use Rattle.rv32_exec.specs.declared.statuses.Access.{Access}
use Rattle.rv32_exec.specs.declared.statuses.Access.TheVariants.{Fetch, Read, Write}
use Rattle.rv32_exec.specs.declared.statuses.FaultKind.{FaultKind}
use Rattle.rv32_exec.specs.declared.statuses.FaultKind.TheVariants as kinds
use Rattle.flat_state.specs.declared.records.FlatKernel.{FlatKernel}
use Rattle.flat_state.specs.State.{FlatState}

abbrev pub rights_in : Option FlatKernel → List (Bool × Bool)
rights_in None = []
rights_in (Some kernel) = kernel.rights

abbrev pub kernel_rights : List FlatKernel → Option KernelNo → List (Bool × Bool)
kernel_rights kernels None = []
kernel_rights kernels (Some kernel) = rights_in (slice_get kernels kernel.0)

-- the rights of the kernel that owns a space
abbrev pub rights_over : List FlatKernel → List KernelNo → SpaceNo → List (Bool × Bool)
rights_over kernels spaces space = kernel_rights kernels (slice_get spaces space.0)

abbrev pub rights_of : FlatState → SpaceNo → List (Bool × Bool)
rights_of s space = rights_over s.kernels s.spaces space

-- a row is fit where the rights of the kernel that owns its space cover its flags on its frame
abbrev pub is_fit_row : FlatState → Row → Bool
is_fit_row s row = is_fit (rights_of s row.space) row

-- the flag that an access asks for: x for a fetch, r for a load, w for a store
abbrev pub wants : Access → Flags → Bool
wants Fetch = allows_fetch
wants Read = allows_read
wants Write = allows_write

-- what comes of an access at an address of a space
abbrev pub reached : FlatState → Access → SpaceNo → ℕ → Translated
reached s access space va = translated (rights_of s space) s.rows (wants access) space va

-- the row that an access goes through
abbrev pub row_through : Translated → Option Row
row_through (through row) = Some row
row_through no_row = None
row_through no_flag = None
row_through no_right = None

-- why an access doesn't translate; one that does has no such reason, and Rights stands there for none
abbrev pub fault_kind : Translated → FaultKind
fault_kind no_row = kinds.Page
fault_kind no_flag = kinds.Flags
fault_kind no_right = kinds.Rights
fault_kind (through row) = kinds.Rights
