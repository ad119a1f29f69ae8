-- What rows rely on, and what is kept of it for what is resident.
use Rattle.std.specs.Prelude.{◌↔◌, ◌/◌, ◌%◌, ◌||◌, if◌then◌else◌, List, [], ◌∷◌, ◌++◌, Contains, Option, Some, None, option_to_list, slice_get}
use Rattle.std.specs.Option.{option_map}
use Rattle.cache_ident.specs.declared.names.KernelNo.{KernelNo}
use Rattle.cache_ident.specs.declared.names.Name.{Name}
use Rattle.cache_ident.specs.declared.names.Name.TheVariants.{Kernel, Space, Thread, Mapping}
use Rattle.cache_ident.specs.Residents.{Resident, IsNameResident}
use Rattle.phys_groups.specs.declared.rows.Row.{Row}
use Rattle.phys_groups.specs.Translation.{row_of}
use Rattle.flat_state.specs.State.{FlatState}
use Rattle.residents.specs.declared.relying.Reliance.{Reliance}
use Rattle.residents.specs.declared.relying.Reliance.TheVariants.{Signals, Rights}
use Rattle.residents.specs.declared.relying.RelyingRows.{RelyingRows}
use Rattle.residents.specs.Relying.{IsRelying}

-- a row relies on the rights of the kernel that owns its space, as far as it asks for them
abbrev pub rights_asked : Row → KernelNo → Reliance
rights_asked row kernel = Rights kernel (row.frame.0 / 128) (row.flags.r || row.flags.x) row.flags.w

-- .. and a message row on the signal rows of its frame
abbrev pub signals_asked : Row → List Reliance
signals_asked row = if row.flags.m then Signals (row.frame.0 / 128) (row.frame.0 % 128) ∷ [] else []

abbrev pub relied_on : FlatState → Option Row → List Reliance
relied_on s None = []
relied_on s (Some row) = option_to_list (option_map (rights_asked row) (slice_get s.spaces row.space.0)) ++ signals_asked row

-- what a name relies on, which is nothing where it isn't that of a row
abbrev pub reliances_of : FlatState → Name → List Reliance
reliances_of s (Kernel kernel) = []
reliances_of s (Space space) = []
reliances_of s (Thread thread) = []
reliances_of s (Mapping space vpn) = relied_on s (row_of s.rows space vpn.0)

-- each resident row relies on what it does in the state, and nothing else relies on anything
abbrev pub AreRelyingOn : RelyingRows → FlatState → List Resident → Type 0
AreRelyingOn rows s rs = (reliance : Reliance) (name : Name) → IsRelying rows reliance name ↔ (IsNameResident rs name × Contains (reliances_of s name) reliance)
