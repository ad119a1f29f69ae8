-- What a contract sees of the tables, and what holds of them.
use Rattle.std.specs.Prelude.{◌≡◌, ◌+◌, ◌<◌, ◌≤◌, List, length, Contains, Some}
use Rattle.cache_ident.specs.declared.idents.Ident.{Ident}
use Rattle.cache_ident.specs.declared.idents.Kind.{Kind}
use Rattle.cache_ident.specs.declared.names.Caps.{Caps}
use Rattle.cache_ident.specs.declared.names.KernelNo.{KernelNo}
use Rattle.cache_ident.specs.declared.names.Name.{Name}
use Rattle.cache_ident.specs.Names.{amount_of}
use Rattle.depend_lists.specs.declared.nodes.Node.{Node}
use Rattle.phys_groups.specs.declared.rows.Row.{Row}
use Rattle.desc_groups.specs.flat_state.specs.Declaration.{locks_granted}
use Rattle.desc_groups.specs.flat_state.specs.State.{FlatState}
use Rattle.kernel_cache.specs.declared.KernelRec.{KernelRec}
use Rattle.desc_groups.specs.desc_stores.specs.declared.items.Item.TheVariants as item
use Rattle.desc_groups.specs.desc_stores.specs.Contents.{content_of, Contents}
use Rattle.desc_groups.specs.desc_parents.specs.Seen.{seen}
use Rattle.desc_groups.specs.declared.departures.Gone.{Gone}
use Rattle.desc_groups.specs.Whole.{AreWhole}
use Rattle.desc_tables.specs.May.{wanted_of}

-- the capacities, where each descriptor stands and with which content, and what left at the last load or unload, with the name
-- of each
pub record Held : Type 0 where
  pub caps : Caps
  pub contents : Contents
  pub gone : List Gone
  pub left : List Name

-- beside all that kernels may lock, each cache has room for what is wanted
abbrev pub LeavesRoom : Caps → Contents → Type 0
LeavesRoom caps c = 0 < length (seen c).kernels → (of : Kind) → amount_of (locks_granted (seen c).kernels) of + wanted_of of ≤ amount_of caps of

-- no kernel has locked more than it may
abbrev pub IsLimited : Contents → Type 0
IsLimited c = (name : Name) (kernel : KernelRec) → content_of c name ≡ Some (item.Kernel kernel) → (of : Kind) → amount_of kernel.locked of ≤ amount_of kernel.limits of

-- each space is of a kernel that stands, and each row in a space that does
pub record ArePlaced (s : FlatState) : Type 0 where
  pub spaces : (kernel : KernelNo) → Contains s.spaces kernel → kernel.0 < length s.kernels
  pub rows : (row : Row) → Contains s.rows row → row.space.0 < length s.spaces

-- what holds of the tables with the pairs of what depends on what
pub record AreSound (held : Held) (pairs : List (Ident × Node)) : Type 0 where
  pub whole : AreWhole held.caps held.contents pairs
  pub room : LeavesRoom held.caps held.contents
  pub limited : IsLimited held.contents
  pub placed : ArePlaced (seen held.contents)
