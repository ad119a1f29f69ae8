-- The kind and the text of a name, and the amount for a kind.
use Rattle.std.specs.Prelude.{ℕ, List, ◌++◌, codes, decimal}
use Rattle.cache_ident.specs.declared.names.Name.{Name}
use Rattle.cache_ident.specs.declared.names.Name.TheVariants as name
use Rattle.cache_ident.specs.declared.names.Caps.{Caps}
use Rattle.cache_ident.specs.declared.idents.Kind.{Kind}
use Rattle.cache_ident.specs.declared.idents.Kind.TheVariants as kind

-- the name of the first kernel
abbrev pub first_name : Name
first_name = name.Kernel (record { 0 = 0 })

-- the kind of what has the name
abbrev pub kind_of : Name → Kind
kind_of (name.Kernel kernel) = kind.Kernel
kind_of (name.Space space) = kind.Space
kind_of (name.Thread thread) = kind.Thread
kind_of (name.Mapping space vpn) = kind.Mapping

-- `kernel 1`, `space 1`, `thread 1`, or the space and the page of a row
abbrev pub name_text : Name → List ℕ
name_text (name.Kernel kernel) = codes "kernel " ++ decimal kernel.0
name_text (name.Space space) = codes "space " ++ decimal space.0
name_text (name.Thread thread) = codes "thread " ++ decimal thread.0
name_text (name.Mapping space vpn) = codes "row " ++ decimal space.0 ++ codes " " ++ decimal vpn.0

-- the amount for a kind
abbrev pub amount_of : Caps → Kind → ℕ
amount_of caps kind.Kernel = caps.kernels
amount_of caps kind.Space = caps.spaces
amount_of caps kind.Thread = caps.threads
amount_of caps kind.Mapping = caps.mappings
