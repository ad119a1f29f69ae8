-- What holds of all contents together.
use Rattle.std.specs.Prelude.{◌≡◌, ℕ, ◌<◌, List, Option, IsSome}
use Rattle.cache_ident.specs.declared.idents.Kind.{Kind}
use Rattle.cache_ident.specs.declared.idents.Kind.TheVariants as kind
use Rattle.cache_ident.specs.declared.rolls.Issued.{Issued}
use Rattle.cache_ident.specs.declared.names.KernelNo.{KernelNo}
use Rattle.cache_ident.specs.declared.names.Name.{Name}
use Rattle.cache_ident.specs.declared.names.Name.TheVariants as name
use Rattle.cache_ident.specs.Rolls.{IsNumberedFrom}
use Rattle.slot_cache.specs.declared.loaded.Loaded.{Loaded}
use Rattle.slot_cache.specs.Rows.{row_name}
use Rattle.slot_cache.specs.Table.{IsPlaced}
use Rattle.kernel_cache.specs.Kernels as kernel_rec
use Rattle.space_cache.specs.Spaces as space_rec
use Rattle.thread_cache.specs.Threads as thread_rec
use Rattle.kind_store.specs.Kept as stored
use Rattle.kind_store.specs.Rolls.{AreEnrolled}
use Rattle.row_store.specs.Kept.{AreNamed}
use Rattle.desc_stores.specs.Contents.{Contents}

-- the names by number
abbrev pub kernel_named : ℕ → Name
kernel_named number = name.Kernel (record { 0 = number })

abbrev pub space_named : ℕ → Name
space_named number = name.Space (record { 0 = number })

abbrev pub thread_named : ℕ → Name
thread_named number = name.Thread (record { 0 = number })

-- exactly the names with a number below the count stand
pub record IsNumbered {T : Type 0} (called : T → Name) (named : ℕ → Name) (store : stored.Kept T) (count : ℕ) : Type 0 where
  pub stands : (number : ℕ) → number < count → IsSome (stored.content_of called store (named number))
  pub only : (other : Name) → IsSome (stored.content_of called store other) → (number : ℕ) × (number < count) × (other ≡ named number)

-- of a kind those that are live are those that are loaded, each in the slot of its identifier, which is of the kind
pub record IsListed {T : Type 0} (of_kind : Kind) (issued : List Issued) (cells : List (Option (Loaded T))) : Type 0 where
  pub enrolled : AreEnrolled of_kind issued cells
  pub placed : IsPlaced of_kind cells

-- Identifiers have the numbers of their places in the roll. Of each kind those that are live are those that are loaded,
-- and the names of the numbered kinds are those below their count.
pub record AreSound (c : Contents) : Type 0 where
  pub numbered : IsNumberedFrom 0 c.issued
  pub kernels : IsListed kind.Kernel c.issued c.kernels.cells
  pub spaces : IsListed kind.Space c.issued c.spaces.cells
  pub threads : IsListed kind.Thread c.issued c.threads.cells
  pub rows : IsListed kind.Mapping c.issued c.rows.kept.cells
  pub kernel_names : IsNumbered kernel_rec.name_of kernel_named c.kernels c.kernel_count
  pub space_names : IsNumbered space_rec.name_of space_named c.spaces c.space_count
  pub thread_names : IsNumbered thread_rec.name_of thread_named c.threads c.thread_count

-- each name stands in one place at most, in one slot of the cache of its kind or in one row of a shelf, and the names
-- that stand are those that were declared and not retracted
pub record IsExactlyOne (c : Contents) : Type 0 where
  pub kernels : stored.IsExactlyOne kernel_rec.name_of kind.Kernel c.kernels
  pub spaces : stored.IsExactlyOne space_rec.name_of kind.Space c.spaces
  pub threads : stored.IsExactlyOne thread_rec.name_of kind.Thread c.threads
  pub rows : stored.IsExactlyOne row_name kind.Mapping c.rows.kept
  pub row_names : AreNamed c.rows
  pub sound : AreSound c

-- each row of a shelf stands under the kernel that owns its content
pub record AreOwned (owner_of : Name → Option KernelNo) (c : Contents) : Type 0 where
  pub kernels : stored.AreOwned kernel_rec.name_of owner_of c.kernels.rows
  pub spaces : stored.AreOwned space_rec.name_of owner_of c.spaces.rows
  pub threads : stored.AreOwned thread_rec.name_of owner_of c.threads.rows
  pub rows : stored.AreOwned row_name owner_of c.rows.kept.rows
