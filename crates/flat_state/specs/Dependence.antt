-- What a descriptor depends on, and who owns it.
use Rattle.std.specs.Prelude.{ℕ, zero, suc, ◌&&◌, nat_lt, if◌then◌else◌, List, [], ◌∷◌, ◌++◌, length, map, filter, Contains, Option, Some, None, option_to_list, slice_get}
use Rattle.std.specs.List.{flat_map}
use Rattle.std.specs.Option.{option_map}
use Rattle.cache_ident.specs.declared.names.KernelNo.{KernelNo}
use Rattle.cache_ident.specs.declared.names.Name.{Name}
use Rattle.cache_ident.specs.declared.names.Name.TheVariants.{Kernel, Space, Thread, Mapping}
use Rattle.phys_groups.specs.declared.rows.Row.{Row}
use Rattle.phys_groups.specs.Rows.{row_name}
use Rattle.phys_groups.specs.Translation.{row_of}
use Rattle.signal_pages.specs.Signals.{is_signal_row_of}
use Rattle.flat_state.specs.declared.records.FlatThread.{FlatThread}
use Rattle.flat_state.specs.State.{FlatState}
use Rattle.flat_state.specs.Translation.{is_fit_row}

-- the fit signal rows of a message row's frame; none for any other row
abbrev pub signal_rows_of : FlatState → Row → List Row
signal_rows_of s row =
    if row.flags.m then filter (λ other. is_signal_row_of row.frame other && is_fit_row s other) s.rows else []

-- a row depends on its space, on its receiver, and a message row on every fit signal row of its frame
abbrev pub parents_of_row : FlatState → Row → List Name
parents_of_row s row =
    Space row.space ∷ (option_to_list (option_map Thread row.receiver) ++ map row_name (signal_rows_of s row))

abbrev pub parents_of_found : FlatState → Option Row → List Name
parents_of_found s None = []
parents_of_found s (Some row) = parents_of_row s row

-- what a descriptor depends on: a space on its kernel, a thread on its space, and a row as above
unfoldable pub parents : FlatState → Name → List Name
parents s (Kernel kernel) = []
parents s (Space space) = option_to_list (option_map Kernel (slice_get s.spaces space.0))
parents s (Thread thread) = option_to_list (option_map (λ t. Space t.space) (slice_get s.threads thread.0))
parents s (Mapping space vpn) = parents_of_found s (row_of s.rows space vpn.0)

abbrev pub Depends : FlatState → Name → Name → Type 0
Depends s child parent = Contains (parents s child) parent

-- the names, and what they depend on over at most so many steps
abbrev pub up : ℕ → FlatState → List Name → List Name
up zero s names = names
up (suc n) s names = names ++ up n s (flat_map (parents s) names)

-- All that a name depends on, over any number of steps. No dependence is longer than four: from a message row over a
-- signal row, a thread and a space to a kernel. What is reached in two ways may stand twice.
unfoldable pub all_parents : FlatState → Name → List Name
all_parents s name = up 3 s (parents s name)

-- the child depends on the name over any number of steps
pub data DependsFar (s : FlatState) (child : Name) : Name → Type 0 where
  directly : {parent : Name} → Depends s child parent → DependsFar s child parent
  further : {between parent : Name} → DependsFar s child between → Depends s between parent → DependsFar s child parent

abbrev pub owner_of_thread : FlatState → Option FlatThread → Option KernelNo
owner_of_thread s None = None
owner_of_thread s (Some t) = slice_get s.spaces t.space.0

abbrev pub owner_of_row : FlatState → Option Row → Option KernelNo
owner_of_row s None = None
owner_of_row s (Some row) = slice_get s.spaces row.space.0

-- the kernel that owns a descriptor: the first one owns kernels, a kernel its spaces and what is in them
unfoldable pub owner : FlatState → Name → Option KernelNo
owner s (Kernel kernel) = if nat_lt kernel.0 (length s.kernels) then Some (record { 0 = 0 }) else None
owner s (Space space) = slice_get s.spaces space.0
owner s (Thread thread) = owner_of_thread s (slice_get s.threads thread.0)
owner s (Mapping space vpn) = owner_of_row s (row_of s.rows space vpn.0)
