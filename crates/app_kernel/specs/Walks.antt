-- What a walk leaves of a board and of its owners, where it didn't help yet.
use Rattle.std.specs.Prelude.{◌≡◌, ◌⊎◌, Option, Some, None, Result, Ok, Err, IfSome, slice_get}
use Rattle.cache_ident.specs.declared.idents.Ident.{Ident}
use Rattle.cache_ident.specs.declared.names.KernelNo.{KernelNo}
use Rattle.cache_ident.specs.declared.names.Name.{Name}
use Rattle.cache_ident.specs.declared.names.Name.TheVariants.{Kernel, Thread}
use Rattle.cache_ident.specs.declared.names.SpaceNo.{SpaceNo}
use Rattle.cache_ident.specs.declared.names.ThreadNo.{ThreadNo}
use Rattle.cache_ident.specs.declared.names.Vpn.{Vpn}
use Rattle.cache_ident.specs.Residents.{IsResident}
use Rattle.page_laws.specs.board_ops.specs.declared.refusals.Refused.{Refused}
use Rattle.page_laws.specs.board_ops.specs.declared.refusals.Refused.TheVariants.{NoMemory, WrongParent}
use Rattle.page_laws.specs.desc_stores.specs.Contents.{residents_of}
use Rattle.page_laws.specs.cached_machine.specs.Cached.{state_of}
use Rattle.page_laws.specs.board_core.specs.Core.{contents_of, Recorded}
use Rattle.owner_ports.specs.Boards.{OnTold}
use Rattle.owners.specs.Known.{ident_of, IsNoted, IsReceiverLearnt, Known}
use Rattle.owners.specs.Owning.{IsThreadOf}
use Rattle.page_laws.specs.owner_laws.specs.Passing.{thread_named}
use Rattle.page_laws.specs.reach_laws.specs.Reaching.{kernel_ident, IsOwned, IsReached}
use Rattle.page_laws.specs.reach_laws.specs.Searching.{space_told, IsNearer}
use Rattle.app_kernel.specs.declared.walk.Trust.{Trust}
use Rattle.app_kernel.specs.declared.walk.Trust.TheVariants.{Noted, Nothing}

-- the identifier noted for a name, where that is trusted
abbrev pub trusted_ident : Trust → Known → Name → Option Ident
trusted_ident Noted o name = ident_of o name
trusted_ident Nothing o name = None

-- Who owned the board that was owns the one that came of it. The machine shows what it showed, and no step was taken.
pub record IsWalked (old new : Recorded) (o p : Known) : Type 0 where
  pub owned : IsOwned old o → IsOwned new p
  pub state : state_of new.machine ≡ state_of old.machine
  pub steps : IsOwned old o → new.steps ≡ old.steps
  pub limit : new.limit ≡ old.limit

-- the same, where the board is told
pub record AreWalked (old new : Option Recorded) (o p : Known) : Type 0 where
  pub told : OnTold old new (λ b c. IsWalked b c o p)

-- nothing was asked for: it is the identifier that owners had
pub record IsHad (old new : Option Recorded) (o p : Known) (ident : Ident) (result : Result Ident Refused) : Type 0 where
  pub its : result ≡ Ok ident
  pub board : new ≡ old
  pub owners : p ≡ o

-- ---- what is reached, or memory is wanted

-- the kernel is loaded, with the identifier that owners have for it
abbrev pub IsKernelGot : Recorded → Known → KernelNo → Result Ident Refused → Type 0
IsKernelGot b o kernel (Ok ident) = (kernel_ident o kernel ≡ Some ident) × IsResident (residents_of (contents_of b)) ident (Kernel kernel)
IsKernelGot b o kernel (Err why) = why ≡ NoMemory

-- the space and its kernel are
abbrev pub IsSpaceGot : Recorded → Known → SpaceNo → Result Ident Refused → Type 0
IsSpaceGot b o space (Ok ident) = IsReached b o space
IsSpaceGot b o space (Err why) = why ≡ NoMemory

-- the thread is, and the space by which it was asked for
pub record IsThreadReached (b : Recorded) (o : Known) (space : SpaceNo) (thread : ThreadNo) : Type 0 where
  pub reached : IsReached b o space
  pub ident : Ident
  pub known : ident_of o (Thread thread) ≡ Some ident
  pub live : IsResident (residents_of (contents_of b)) ident (Thread thread)

-- why a thread isn't reached by a space: memory is wanted, or where it is one of another space, a nearer one is told
pub record IsTurnedAway (o : Known) (its space : SpaceNo) (why : Refused) : Type 0 where
  pub mine : its ≡ space → why ≡ NoMemory
  pub nearer : (why ≡ NoMemory) ⊎ ((next : SpaceNo) × (space_told o why ≡ Some next) × IsNearer o its space next)

abbrev pub IsThreadGot : Recorded → Known → SpaceNo → SpaceNo → ThreadNo → Result Ident Refused → Type 0
IsThreadGot b o its space thread (Ok ident) = (its ≡ space) × IsThreadReached b o space thread
IsThreadGot b o its space thread (Err why) = IsTurnedAway o its space why

abbrev pub AreBothGot : Recorded → Known → SpaceNo → SpaceNo → ThreadNo → Result (Unit {0}) Refused → Type 0
AreBothGot b o its space thread (Ok done) = (its ≡ space) × IsThreadReached b o space thread
AreBothGot b o its space thread (Err why) = IsTurnedAway o its space why

-- the same of a space that is tried
abbrev pub IsSpaceTried : Recorded → Known → SpaceNo → SpaceNo → ThreadNo → Result (Option SpaceNo) Refused → Type 0
IsSpaceTried b o its space thread (Ok None) = (its ≡ space) × IsThreadReached b o space thread
IsSpaceTried b o its space thread (Ok (Some next)) = IsNearer o its space next
IsSpaceTried b o its space thread (Err why) = why ≡ NoMemory

-- the thread is, and its space, which is told
abbrev pub IsFound : Recorded → Known → SpaceNo → ThreadNo → Result SpaceNo Refused → Type 0
IsFound b o its thread (Ok space) = (space ≡ its) × IsThreadReached b o space thread
IsFound b o its thread (Err why) = why ≡ NoMemory

-- where another receiver is told of a row than was given, it is one of the space, if there is one
abbrev pub IsReceiverTold : Recorded → SpaceNo → Result Ident Refused → Type 0
IsReceiverTold b space (Err (WrongParent given declared)) = IfSome (thread_named declared) (IsThreadOf (state_of b.machine) space)
IsReceiverTold b space _ = Unit {0}

-- .. and it is learnt
abbrev pub IsLearntSo : SpaceNo × Vpn → Result Ident Refused → Known → Known → Type 0
IsLearntSo page (Err (WrongParent given declared)) old new = IsReceiverLearnt page (thread_named declared) old new
IsLearntSo page _ old new = new ≡ old

-- what was got is noted for the name, if it was
abbrev pub IsNotedSo : Name → Result Ident Refused → Known → Known → Type 0
IsNotedSo name (Ok ident) old new = IsNoted name ident old new
IsNotedSo name (Err why) old new = new ≡ old

-- ---- what each walk does for owners of a board

-- a walk that asks for each load reaches the kernel of a space
abbrev pub KernelReaches : Known → Known → SpaceNo → Trust → Result Ident Refused → Recorded → Recorded → Type 0
KernelReaches o p space trust result old new = IsOwned old o → (its : KernelNo) → slice_get (state_of old.machine).spaces space.0 ≡ Some its → trust ≡ Nothing → IsKernelGot new p its result

-- .. the space
abbrev pub SpaceReaches : Known → Known → SpaceNo → Trust → Result Ident Refused → Recorded → Recorded → Type 0
SpaceReaches o p space trust result old new = IsOwned old o → (its : KernelNo) → slice_get (state_of old.machine).spaces space.0 ≡ Some its → trust ≡ Nothing → IsSpaceGot new p space result

-- .. a thread, by a space that is reached
abbrev pub ThreadReaches : Known → Known → SpaceNo → ThreadNo → Trust → Result Ident Refused → Recorded → Recorded → Type 0
ThreadReaches o p space thread trust result old new = IsOwned old o → IsReached old o space → (its : SpaceNo) → IsThreadOf (state_of old.machine) its thread → trust ≡ Nothing → IsThreadGot new p its space thread result

-- .. and where its load passes it is of the space
abbrev pub ThreadPasses : Known → SpaceNo → ThreadNo → Trust → Recorded → Recorded → Type 0
ThreadPasses o space thread trust old new = IsOwned old o → trust ≡ Nothing → IsThreadOf (state_of new.machine) space thread

-- .. the thread with the space
abbrev pub BothReach : Known → Known → SpaceNo → ThreadNo → Trust → Result (Unit {0}) Refused → Recorded → Recorded → Type 0
BothReach o p space thread trust result old new = IsOwned old o → (its : SpaceNo) (kernel : KernelNo) → IsThreadOf (state_of old.machine) its thread → slice_get (state_of old.machine).spaces space.0 ≡ Some kernel → trust ≡ Nothing → AreBothGot new p its space thread result

-- .. or a nearer space
abbrev pub SpaceTries : Known → Known → SpaceNo → ThreadNo → Trust → Result (Option SpaceNo) Refused → Recorded → Recorded → Type 0
SpaceTries o p space thread trust result old new = IsOwned old o → (its : SpaceNo) (kernel : KernelNo) → IsThreadOf (state_of old.machine) its thread → slice_get (state_of old.machine).spaces space.0 ≡ Some kernel → trust ≡ Nothing → IsSpaceTried new p its space thread result

-- .. and so the thread with its space
abbrev pub Finds : Known → Known → ThreadNo → Trust → Result SpaceNo Refused → Recorded → Recorded → Type 0
Finds o p thread trust result old new = IsOwned old o → (its : SpaceNo) → IsThreadOf (state_of old.machine) its thread → trust ≡ Nothing → IsFound new p its thread result
