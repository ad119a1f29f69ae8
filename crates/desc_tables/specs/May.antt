-- When a descriptor may be declared, and when it may be loaded.
use Rattle.std.specs.Prelude.{◌≡◌, ℕ, ◌+◌, ◌<◌, ◌≤◌, true, if◌then◌else◌, is_some, List, count_by, Contains, Some, None, IsSome}
use Rattle.cache_ident.specs.declared.idents.Ident.{Ident}
use Rattle.cache_ident.specs.declared.idents.Kind.{Kind}
use Rattle.cache_ident.specs.declared.idents.Kind.TheVariants as kind
use Rattle.cache_ident.specs.declared.names.Caps.{Caps}
use Rattle.cache_ident.specs.declared.names.Name.{Name}
use Rattle.cache_ident.specs.declared.names.Name.TheVariants as name
use Rattle.cache_ident.specs.Names.{amount_of, kind_of}
use Rattle.cache_ident.specs.Residents.{Resident}
use Rattle.phys_groups.specs.declared.rows.Row.{Row}
use Rattle.row_store.specs.signal_pages.specs.Signals.{is_signal_row_of}
use Rattle.desc_groups.specs.flat_state.specs.Declaration.{agree, is_receiver_in, locks_granted}
use Rattle.desc_groups.specs.flat_state.specs.Dependence.{Depends}
use Rattle.desc_groups.specs.flat_state.specs.Names.{is_fit_name}
use Rattle.desc_groups.specs.flat_state.specs.Translation.{is_fit_row}
use Rattle.desc_groups.specs.run_journal.specs.Groups.{HasParents}
use Rattle.desc_groups.specs.run_journal.specs.Legal.{is_kind}
use Rattle.kernel_cache.specs.declared.KernelRec.{KernelRec}
use Rattle.desc_groups.specs.desc_stores.specs.declared.items.Item.{Item}
use Rattle.desc_groups.specs.desc_stores.specs.declared.items.Item.TheVariants as item
use Rattle.desc_groups.specs.desc_stores.specs.Changes.{IsNext}
use Rattle.desc_groups.specs.desc_stores.specs.Contents.{content_of, residents_of, IsShelved, Contents}
use Rattle.desc_groups.specs.desc_stores.specs.Items.{name_of}
use Rattle.desc_groups.specs.desc_parents.specs.Seen.{seen}

-- of each kind so many are wanted at most by one step of a thread, a new one among them
abbrev pub wanted_of : Kind → ℕ
wanted_of kind.Kernel = 5
wanted_of kind.Space = 5
wanted_of kind.Thread = 5
wanted_of kind.Mapping = 6

-- ---- what is declared

abbrev pub no_locks : Caps
no_locks = record { kernels = 0; spaces = 0; threads = 0; mappings = 0 }

-- a kernel has locked nothing, and its limits leave room beside those of the others
pub record IsNewKernel (caps : Caps) (c : Contents) (kernel : KernelRec) : Type 0 where
  pub none_locked : kernel.locked ≡ no_locks
  pub room : (of : Kind) → amount_of (locks_granted (seen c).kernels) of + (amount_of kernel.limits of + wanted_of of) ≤ amount_of caps of

-- no row of the frame that is loaded has flag m
abbrev pub HasNoMessages : Contents → Row → Type 0
HasNoMessages c row = (r : Resident) (other : Row) → Contains (residents_of c) r → content_of c r.name ≡ Some (item.Mapping other) → other.flags.m ≡ true → other.frame ≡ row.frame → ⊥

-- A row is of a space that stands and of a frame that a memory can have; its flags agree with its receiver, which is a thread
-- of the space; beside a signal row its frame has at most three; and of the frame of a fit signal row no message row is loaded.
pub record IsNewRow (c : Contents) (row : Row) : Type 0 where
  pub space : IsSome (content_of c (name.Space row.space))
  pub frame : row.frame.0 < 2048
  pub flags : agree row.flags (is_some row.receiver) ≡ true
  pub receiver : is_receiver_in row.space (seen c).threads row.receiver ≡ true
  pub few : is_some row.receiver ≡ true → count_by (is_signal_row_of row.frame) (seen c).rows < 4
  pub alone : is_some row.receiver ≡ true → is_fit_row (seen c) row ≡ true → HasNoMessages c row

abbrev pub IsNewItem : Caps → Contents → Item → Type 0
IsNewItem caps c (item.Kernel kernel) = IsNewKernel caps c kernel
IsNewItem caps c (item.Space space) = IsSome (content_of c (name.Kernel space.kernel))
IsNewItem caps c (item.Thread thread) = IsSome (content_of c (name.Space thread.space))
IsNewItem caps c (item.Mapping row) = IsNewRow c row

-- the item may be declared: its name doesn't stand and is the next, and what it is of does
pub record MayBeDeclared (caps : Caps) (c : Contents) (new : Item) : Type 0 where
  pub absent : content_of c (name_of new) ≡ None
  pub next : IsNext c new
  pub its : IsNewItem caps c new

-- ---- what is loaded

-- how many identifiers of a kind are kept
abbrev pub kept_of : List Ident → Kind → ℕ
kept_of keep of = count_by (λ ident. is_kind ident.kind of) keep

-- All that a name depends on is loaded and kept, and so is all that what is kept depends on. With the name itself no more are
-- kept of a kind than are wanted at most.
pub record IsKeptFor (c : Contents) (loading : Name) (keep : List Ident) : Type 0 where
  pub has : HasParents (seen c) (residents_of c) loading
  pub direct : (r : Resident) → Contains (residents_of c) r → Depends (seen c) loading r.name → Contains keep r.ident
  pub closed : (r parent : Resident) → Contains (residents_of c) r → Contains keep r.ident → Contains (residents_of c) parent → Depends (seen c) r.name parent.name → Contains keep parent.ident
  pub few : (of : Kind) → kept_of keep of + (if is_kind (kind_of loading) of then 1 else 0) ≤ wanted_of of

-- a name may be loaded: it stands on the shelf, is fit, and what it depends on is loaded and kept
pub record MayBeLoaded (c : Contents) (loading : Name) (keep : List Ident) : Type 0 where
  pub shelved : IsShelved c loading
  pub fit : is_fit_name (seen c) loading ≡ true
  pub kept : IsKeptFor c loading keep
