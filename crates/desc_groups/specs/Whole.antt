-- What holds of all descriptors, and of what depends on what among those that are loaded.
use Rattle.std.specs.Prelude.{◌≡◌, List, Some}
use Rattle.cache_ident.specs.declared.idents.Ident.{Ident}
use Rattle.cache_ident.specs.declared.idents.Kind.{Kind}
use Rattle.cache_ident.specs.declared.names.Caps.{Caps}
use Rattle.cache_ident.specs.declared.names.Name.{Name}
use Rattle.cache_ident.specs.Names.{amount_of}
use Rattle.depend_lists.specs.declared.nodes.Node.{Node}
use Rattle.desc_parents.specs.flat_state.specs.Dependence.{owner}
use Rattle.desc_parents.specs.run_journal.specs.Groups.{ArePairsOf}
use Rattle.desc_parents.specs.run_journal.specs.Legal.{locked_by, AreGood}
use Rattle.desc_parents.specs.kernel_cache.specs.declared.KernelRec.{KernelRec}
use Rattle.desc_parents.specs.desc_stores.specs.declared.items.Item.TheVariants as item
use Rattle.desc_parents.specs.desc_stores.specs.Contents.{content_of, residents_of, Contents}
use Rattle.desc_parents.specs.desc_stores.specs.Sound.{AreOwned, IsExactlyOne}
use Rattle.desc_parents.specs.store_residents.specs.Slots.{HasSlots}
use Rattle.desc_parents.specs.Seen.{seen, HasPlainRows}

-- a kernel's counts are those of its descriptors that are locked
abbrev pub HasCounts : Contents → KernelRec → Type 0
HasCounts c kernel = (kind : Kind) → amount_of kernel.locked kind ≡ locked_by (seen c) (residents_of c) kernel.no kind

-- Each name is in one place, on the shelf under its owner. Rows are as they can be declared. There are as many slots as the capacities say. The pairs are
-- those of what depends on what among what is loaded. What is loaded is fit, and has all that it depends on. Each kernel's
-- counts of locks are right.
pub record AreWhole (caps : Caps) (c : Contents) (pairs : List (Ident × Node)) : Type 0 where
  pub one : IsExactlyOne c
  pub sized : HasSlots caps c
  pub rows : HasPlainRows (seen c)
  pub pairs_are : ArePairsOf (seen c) (residents_of c) pairs
  pub good : AreGood (seen c) (residents_of c)
  pub owned : AreOwned (owner (seen c)) c
  pub counted : (name : Name) (kernel : KernelRec) → content_of c name ≡ Some (item.Kernel kernel) → HasCounts c kernel

-- contents that are whole with some pairs, and stay so with these
abbrev pub IsWhole : Contents → Type 0
IsWhole c = (caps : Caps) × (pairs : List (Ident × Node)) × AreWhole caps c pairs

abbrev pub StaysWhole : Contents → Contents → Type 0
StaysWhole old new = (caps : Caps) (pairs : List (Ident × Node)) → AreWhole caps old pairs → AreWhole caps new pairs
