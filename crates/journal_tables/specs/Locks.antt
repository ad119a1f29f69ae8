-- How many are locked.
use Rattle.std.specs.Prelude.{◌≡◌, ◌≢◌, ℕ, ◌-◌, Bool, true, false, Option, Some, None, unwrap_or}
use Rattle.std.specs.Ordering.{ordering_then}
use Rattle.std.specs.declared.cmp.Ordering.{Ordering}
use Rattle.std.specs.BTreeMap.{get}
use Rattle.cache_ident.specs.declared.idents.Kind.{Kind}
use Rattle.cache_ident.specs.declared.names.KernelNo.{KernelNo}
use Rattle.cache_ident.specs.contracts.idents.KindOrd.TheImpl as kind_order
use Rattle.cache_ident.specs.contracts.names.KernelNoOrd.TheImpl as kernel_order
use Rattle.journal_tables.specs.declared.locks.Locks.{Locks}

-- by kernel, and then by kind
abbrev pub owned_cmp : KernelNo × Kind → KernelNo × Kind → Ordering
owned_cmp a b = ordering_then ((kernel_order.ghosts).cmp a.0 b.0) ((kind_order.ghosts).cmp a.1 b.1)

-- how many of a kernel's descriptors of a kind are locked
abbrev pub lock_count : Locks → KernelNo → Kind → ℕ
lock_count locks kernel kind = unwrap_or (get owned_cmp locks.counts (kernel, kind)) 0

-- so many of that kernel and kind are locked now, and of each other as many as before
pub record Recounts (old new : Locks) (kernel : KernelNo) (kind : Kind) (count : ℕ) : Type 0 where
  pub here : lock_count new kernel kind ≡ count
  pub other : (other : KernelNo × Kind) → other ≢ (kernel, kind) → lock_count new other.0 other.1 ≡ lock_count old other.0 other.1

-- one fewer is locked of what that kernel owns, if there is one
abbrev pub RecountsFor : Locks → Locks → Option KernelNo → Kind → Type 0
RecountsFor old new None kind = new ≡ old
RecountsFor old new (Some kernel) kind = Recounts old new kernel kind (lock_count old kernel kind - 1)

-- .. if that one was locked
abbrev pub RecountsIf : Bool → Locks → Locks → Option KernelNo → Kind → Type 0
RecountsIf true old new owner kind = RecountsFor old new owner kind
RecountsIf false old new owner kind = new ≡ old
