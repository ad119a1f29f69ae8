-- What a name is in a state: whether it stands there, its class, and whether it is fit.
use Rattle.std.specs.Prelude.{Bool, true, false, is_some, Option, Some, None, slice_get}
use Rattle.cache_ident.specs.declared.names.Name.{Name}
use Rattle.cache_ident.specs.declared.names.Name.TheVariants.{Kernel, Space, Thread, Mapping}
use Rattle.phys_groups.specs.declared.rows.Row.{Row}
use Rattle.phys_groups.specs.Translation.{row_of}
use Rattle.cache_ident.specs.declared.classes.Class.{Class}
use Rattle.cache_ident.specs.declared.classes.Class.TheVariants as classes
use Rattle.flat_state.specs.State.{FlatState}
use Rattle.flat_state.specs.Translation.{is_fit_row}

-- there is a descriptor of that name
unfoldable pub stands : FlatState → Name → Bool
stands s (Kernel kernel) = is_some (slice_get s.kernels kernel.0)
stands s (Space space) = is_some (slice_get s.spaces space.0)
stands s (Thread thread) = is_some (slice_get s.threads thread.0)
stands s (Mapping space vpn) = is_some (row_of s.rows space vpn.0)

-- a row with flag m is a message row, one with a receiver a signal row
abbrev pub class_by : Bool → Bool → Class
class_by true receives = classes.MessageRow
class_by false true = classes.SignalRow
class_by false false = classes.OtherRow

abbrev pub class_of_row : Option Row → Class
class_of_row None = classes.OtherRow
class_of_row (Some row) = class_by row.flags.m (is_some row.receiver)

-- the class of a name, by which descriptors leave one after another
unfoldable pub class_of : FlatState → Name → Class
class_of s (Kernel kernel) = classes.Kernel
class_of s (Space space) = classes.Space
class_of s (Thread thread) = classes.Thread
class_of s (Mapping space vpn) = class_of_row (row_of s.rows space vpn.0)

abbrev pub is_fit_found : FlatState → Option Row → Bool
is_fit_found s None = false
is_fit_found s (Some row) = is_fit_row s row

-- a row is fit where there is one of that name whose flags the rights cover; every other name is
unfoldable pub is_fit_name : FlatState → Name → Bool
is_fit_name s (Kernel kernel) = true
is_fit_name s (Space space) = true
is_fit_name s (Thread thread) = true
is_fit_name s (Mapping space vpn) = is_fit_found s (row_of s.rows space vpn.0)
