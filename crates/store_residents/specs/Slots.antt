-- The slots of each kind, and what stands in them.
use Rattle.std.specs.Prelude.{◌≡◌, ℕ, length, Option}
use Rattle.std.specs.Option.{option_map}
use Rattle.cache_ident.specs.declared.idents.Kind.{Kind}
use Rattle.cache_ident.specs.declared.idents.Kind.TheVariants as kind
use Rattle.cache_ident.specs.declared.names.Caps.{Caps}
use Rattle.cache_ident.specs.Names.{amount_of}
use Rattle.cache_ident.specs.Residents.{Resident}
use Rattle.desc_stores.specs.slot_cache.specs.Cells.{cell_at}
use Rattle.desc_stores.specs.slot_cache.specs.Rows.{row_name}
use Rattle.desc_stores.specs.kernel_cache.specs.Kernels as kernel_rec
use Rattle.desc_stores.specs.space_cache.specs.Spaces as space_rec
use Rattle.desc_stores.specs.thread_cache.specs.Threads as thread_rec
use Rattle.desc_stores.specs.Contents.{resident_of, Contents}

-- how many slots of a kind there are
abbrev pub slots_of : Contents → Kind → ℕ
slots_of c kind.Kernel = length c.kernels.cells
slots_of c kind.Space = length c.spaces.cells
slots_of c kind.Thread = length c.threads.cells
slots_of c kind.Mapping = length c.rows.kept.cells

-- what stands in a slot of a kind, but for its content
abbrev pub resident_at : Contents → Kind → ℕ → Option Resident
resident_at c kind.Kernel slot = option_map (resident_of kernel_rec.name_of) (cell_at c.kernels.cells slot)
resident_at c kind.Space slot = option_map (resident_of space_rec.name_of) (cell_at c.spaces.cells slot)
resident_at c kind.Thread slot = option_map (resident_of thread_rec.name_of) (cell_at c.threads.cells slot)
resident_at c kind.Mapping slot = option_map (resident_of row_name) (cell_at c.rows.kept.cells slot)

-- of each kind there are as many slots as the capacities say
abbrev pub HasSlots : Caps → Contents → Type 0
HasSlots caps c = (kind : Kind) → slots_of c kind ≡ amount_of caps kind

-- of each kind there are as many slots as before
abbrev pub KeepsSlots : Contents → Contents → Type 0
KeepsSlots old new = (kind : Kind) → slots_of new kind ≡ slots_of old kind
