-- What holds of every state that events can reach.
use Rattle.std.specs.Prelude.{◌≡◌, ℕ, ◌+◌, ◌*◌, ◌%◌, ◌<◌, ◌≤◌, true, false, is_some, List, length, count_by, Contains, Option, Some, slice_get}
use Rattle.cache_ident.specs.declared.names.Caps.{Caps}
use Rattle.cache_ident.specs.declared.names.Frame.{Frame}
use Rattle.cache_ident.specs.declared.names.KernelNo.{KernelNo}
use Rattle.phys_groups.specs.declared.rows.Row.{Row}
use Rattle.phys_groups.specs.Rows.{HasOneRowAPage}
use Rattle.signal_pages.specs.Signals.{is_signal_row_of}
use Rattle.flat_state.specs.declared.events.Machine.{Machine}
use Rattle.flat_state.specs.declared.events.TheConstants.{GREATEST_CAPS, MOST_DECLARED}
use Rattle.flat_state.specs.declared.records.FlatKernel.{FlatKernel}
use Rattle.flat_state.specs.declared.records.FlatThread.{FlatThread}
use Rattle.flat_state.specs.State.{FlatState, groups_of}
use Rattle.flat_state.specs.Declaration.{agree, has_no_flag, is_receiver_in, locks_granted, caps_of, may_lock_kernels}

-- no capacity is above its greatest
pub record AreWithin (caps : Caps) : Type 0 where
  pub kernels : caps.kernels ≤ GREATEST_CAPS.kernels
  pub spaces : caps.spaces ≤ GREATEST_CAPS.spaces
  pub threads : caps.threads ≤ GREATEST_CAPS.threads
  pub mappings : caps.mappings ≤ GREATEST_CAPS.mappings

-- memory has the size of its groups, of which there are at most 16, and the capacities are bounded
pub record IsSized (machine : Option Machine) (memory : List ℕ) : Type 0 where
  pub groups : groups_of machine ≤ 16
  pub caps : AreWithin (caps_of machine)
  pub size : length memory ≡ 524288 * groups_of machine

-- there are at most 1,024 kernels, of which the first alone may lock kernels, and the locks that they are granted leave
-- room in the caches
pub record AreKernels (machine : Option Machine) (kernels : List FlatKernel) : Type 0 where
  pub few : length kernels ≤ MOST_DECLARED.kernels
  pub locking : (n : ℕ) (k : FlatKernel) → slice_get kernels n ≡ Some k → may_lock_kernels n k.limits ≡ true
  pub locks : 0 < length kernels → ((locks_granted kernels).kernels + 5 ≤ (caps_of machine).kernels) × ((locks_granted kernels).spaces + 5 ≤ (caps_of machine).spaces) × ((locks_granted kernels).threads + 5 ≤ (caps_of machine).threads) × ((locks_granted kernels).mappings + 6 ≤ (caps_of machine).mappings)

-- there are at most 4,096 spaces, each of a kernel that is declared
pub record AreSpaces (kernels : List FlatKernel) (spaces : List KernelNo) : Type 0 where
  pub few : length spaces ≤ MOST_DECLARED.spaces
  pub owned : (n : ℕ) (kernel : KernelNo) → slice_get spaces n ≡ Some kernel → kernel.0 < length kernels

-- a thread has its place as its number, a space that is declared, an aligned pc, one of 32 priorities, and a queue that
-- isn't longer than it may be
pub record IsThread (spaces : List KernelNo) (n : ℕ) (t : FlatThread) : Type 0 where
  pub number : t.no.0 ≡ n
  pub space : t.space.0 < length spaces
  pub aligned : t.context.pc % 4 ≡ 0
  pub priority : t.priority ≤ 31
  pub queued : length t.queue.items ≤ 64

pub record AreThreads (spaces : List KernelNo) (threads : List FlatThread) : Type 0 where
  pub few : length threads ≤ MOST_DECLARED.threads
  pub each : (n : ℕ) (t : FlatThread) → slice_get threads n ≡ Some t → IsThread spaces n t

-- a row is one that could be declared
pub record IsRow (machine : Option Machine) (spaces : List KernelNo) (threads : List FlatThread) (row : Row) : Type 0 where
  pub space : row.space.0 < length spaces
  pub page : row.vpn.0 ≤ 1048575
  pub frame : row.frame.0 < 128 * groups_of machine
  pub some : has_no_flag row.flags ≡ false
  pub flags : agree row.flags (is_some row.receiver) ≡ true
  pub receiver : is_receiver_in row.space threads row.receiver ≡ true

-- no page has two rows, and no frame more than four signal rows
pub record AreRows (machine : Option Machine) (spaces : List KernelNo) (threads : List FlatThread) (rows : List Row) : Type 0 where
  pub few : length rows ≤ MOST_DECLARED.mappings
  pub each : (row : Row) → Contains rows row → IsRow machine spaces threads row
  pub single : HasOneRowAPage rows
  pub signals : (frame : Frame) → count_by (is_signal_row_of frame) rows ≤ 4

pub record IsWellFormed (s : FlatState) : Type 0 where
  pub memory : IsSized s.machine s.memory
  pub kernels : AreKernels s.machine s.kernels
  pub spaces : AreSpaces s.kernels s.spaces
  pub threads : AreThreads s.spaces s.threads
  pub rows : AreRows s.machine s.spaces s.threads s.rows
