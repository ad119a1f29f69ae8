-- Who owns what, from one state to another.
use Rattle.std.specs.Prelude.{◌≡◌, ◌≢◌, if◌then◌else◌, nat_lt, Option, Some, None, IsSome}
use Rattle.std.specs.Option.{option_and_then}
use Rattle.cache_ident.specs.declared.names.KernelNo.{KernelNo}
use Rattle.cache_ident.specs.declared.names.Name.{Name}
use Rattle.cache_ident.specs.declared.names.Name.TheVariants as name
use Rattle.cache_ident.specs.declared.names.SpaceNo.{SpaceNo}
use Rattle.phys_groups.specs.declared.rows.Row.{Row}
use Rattle.flat_state.specs.declared.records.FlatThread.{FlatThread}
use Rattle.flat_state.specs.Dependence.{owner}
use Rattle.flat_state.specs.State.{FlatState}
use Rattle.desc_stores.specs.Contents.{content_of, Contents}
use Rattle.shown_state.specs.Shown.{row_of_item, space_of, thread_of}

-- who owns a descriptor in the one state owns it in the other
abbrev pub OwnersStay : FlatState → FlatState → Type 0
OwnersStay s t = (name : Name) (kernel : KernelNo) → owner s name ≡ Some kernel → owner t name ≡ Some kernel

-- the same but for one name
abbrev pub OtherOwnersStay : Name → FlatState → FlatState → Type 0
OtherOwnersStay but s t = (name : Name) (kernel : KernelNo) → name ≢ but → owner s name ≡ Some kernel → owner t name ≡ Some kernel

-- of what has a content, whoever owns it by the one owns it by the other
abbrev pub OwnsAlike : Contents → (Name → Option KernelNo) → (Name → Option KernelNo) → Type 0
OwnsAlike c before after = (name : Name) (kernel : KernelNo) → IsSome (content_of c name) → before name ≡ Some kernel → after name ≡ Some kernel

-- the kernel of a space
abbrev pub kernel_in : Contents → SpaceNo → Option KernelNo
kernel_in c space = space_of (content_of c (name.Space space))

-- the kernel that owns a descriptor, by what the contents show
abbrev pub owner_in : Contents → Name → Option KernelNo
owner_in c (name.Kernel kernel) = if nat_lt kernel.0 c.kernel_count then Some (record { 0 = 0 }) else None
owner_in c (name.Space space) = kernel_in c space
owner_in c (name.Thread thread) = option_and_then (λ (t : FlatThread). kernel_in c t.space) (thread_of (content_of c (name.Thread thread)))
owner_in c (name.Mapping space vpn) = option_and_then (λ (row : Row). kernel_in c row.space) (row_of_item (content_of c (name.Mapping space vpn)))
