-- What walks leave of the rows of pages, and of threads whose next step faults.
use Rattle.std.specs.Prelude.{◌≡◌, ◌⊎◌, ℕ, ◌+◌, ◌<◌, true, List, [], ◌∷◌, ◌++◌, Option, Some, None, Result, Ok, Err, IfErr, IfOk, slice_get}
use Rattle.std.specs.Option.{option_map}
use Rattle.cache_ident.specs.declared.idents.Ident.{Ident}
use Rattle.cache_ident.specs.declared.names.Name.{Name}
use Rattle.cache_ident.specs.declared.names.Name.TheVariants.{Mapping, Thread}
use Rattle.cache_ident.specs.declared.names.SpaceNo.{SpaceNo}
use Rattle.cache_ident.specs.declared.names.ThreadNo.{ThreadNo}
use Rattle.cache_ident.specs.declared.names.Vpn.{Vpn}
use Rattle.cache_ident.specs.Residents.{IsNameResident}
use Rattle.phys_groups.specs.declared.rows.Row.{Row}
use Rattle.phys_groups.specs.Translation.{row_of}
use Rattle.owners.specs.flat_state.specs.declared.events.Event.TheVariants.{Step}
use Rattle.owners.specs.flat_state.specs.declared.records.FlatThread.{FlatThread}
use Rattle.owners.specs.flat_state.specs.Events.{applied}
use Rattle.owners.specs.flat_state.specs.NextSteps.{faults, fetch_row}
use Rattle.owners.specs.flat_state.specs.State.{is_ready}
use Rattle.owners.specs.run_journal.specs.declared.entries.Entry.{Entry}
use Rattle.owners.specs.run_journal.specs.declared.entries.Entry.TheVariants.{Ended}
use Rattle.page_laws.specs.board_ops.specs.declared.refusals.Refused.{Refused}
use Rattle.page_laws.specs.board_ops.specs.declared.refusals.Refused.TheVariants.{NoMemory, ReceiversAbsent, WrongParent}
use Rattle.page_laws.specs.desc_stores.specs.Contents.{residents_of}
use Rattle.page_laws.specs.cached_machine.specs.Cached.{state_of}
use Rattle.page_laws.specs.cached_machine.specs.Posts.{mark_of}
use Rattle.page_laws.specs.board_core.specs.Core.{contents_of, Recorded}
use Rattle.owner_ports.specs.Boards.{OnTold}
use Rattle.page_laws.specs.answer_laws.specs.Given.{IsGiven}
use Rattle.owners.specs.Known.{receiver_of, space_of, Known}
use Rattle.page_laws.specs.Keeping.{KeepsRows}
use Rattle.page_laws.specs.reach_laws.specs.Filling.{IsElse, IsFillable, IsNothingToLoad, IsUnfillable}
use Rattle.page_laws.specs.reach_laws.specs.Reaching.{IsOwned, IsReached}
use Rattle.app_kernel.specs.declared.serving.Served.{Served}
use Rattle.app_kernel.specs.declared.serving.Served.TheVariants as served
use Rattle.app_kernel.specs.declared.walk.Trust.{Trust}
use Rattle.app_kernel.specs.declared.walk.Trust.TheVariants.{Nothing}
use Rattle.app_kernel.specs.Walks.{IsWalked}

-- ---- walks by kernels, spaces and threads

-- A walk that brought no row, gave no thread a processor, and left each row of the space loaded that was and has neither receiver
-- nor flag m.
pub record IsGentle (space : SpaceNo) (old new : Recorded) (o p : Known) : Type 0 where
  pub walked : IsWalked old new o p
  pub marks : (no : ThreadNo) (cpu : ℕ) → mark_of (contents_of new) no ≡ Some cpu → mark_of (contents_of old) no ≡ Some cpu
  pub keeps : IsOwned old o → KeepsRows space old new

-- the same, where the board is told
pub record AreGentle (space : SpaceNo) (old new : Option Recorded) (o p : Known) : Type 0 where
  pub told : OnTold old new (λ b c. IsGentle space b c o p)

-- ---- rows that are asked for

-- the row of the page has the receiver that owners believe, or none if they believe none
abbrev pub IsBelieved : Recorded → Known → SpaceNo → Vpn → Type 0
IsBelieved b o space vpn = (row : Row) → row_of (state_of b.machine).rows space vpn.0 ≡ Some row → receiver_of o (space, vpn) ≡ row.receiver

-- the receiver of the row is told, as another one was given
pub record IsAnotherTold (b : Recorded) (space : SpaceNo) (vpn : Vpn) (w : Refused) : Type 0 where
  pub row : Row
  pub here : row_of (state_of b.machine).rows space vpn.0 ≡ Some row
  pub given : Option Name
  pub is : w ≡ WrongParent given (option_map Thread row.receiver)

-- the thread that is believed to receive a row's signals is loaded with the identifier that was got, if one is believed; and the space
-- is reached
abbrev pub IsReceiverGot : Recorded → Known → SpaceNo → Option ThreadNo → Result (Option Ident) Refused → Type 0
IsReceiverGot b o space named (Ok receiver) = IsReached b o space × IsGiven (contents_of b) receiver named
IsReceiverGot b o space named (Err why) = why ≡ NoMemory

-- A row was asked for by what is reached: that still is, and the row is loaded, or refused for a reason that may be, or memory is
-- wanted.
abbrev pub IsAnswered : (Refused → Type 0) → Recorded → Known → SpaceNo → Result (Result Ident Refused) Refused → Type 0
IsAnswered may b o space (Ok (Ok ident)) = IsReached b o space
IsAnswered may b o space (Ok (Err why)) = IsReached b o space × ((why ≡ NoMemory) ⊎ may why)
IsAnswered may b o space (Err why) = why ≡ NoMemory

-- A row that is to be loaded was asked for: it is loaded, or is to be loaded still, or memory is wanted. No signal row was missing.
abbrev pub IsFilling : Recorded → SpaceNo → Vpn → Result (Result Ident Refused) Refused → Type 0
IsFilling b space vpn (Ok (Ok ident)) = IsNameResident (residents_of (contents_of b)) (Mapping space vpn)
IsFilling b space vpn (Ok (Err why)) = IsFillable b space vpn × IsElse why
IsFilling b space vpn (Err why) = (why ≡ NoMemory) ⊎ IsFillable b space vpn

-- a row was asked for, and refused for another reason than that signal rows are missing
abbrev pub IsRefusedSo : Result Ident Refused → Type 0
IsRefusedSo (Ok ident) = ⊥
IsRefusedSo (Err (ReceiversAbsent space vpn)) = ⊥
IsRefusedSo (Err why) = Unit {0}

-- what comes of asking once for a row that is to be loaded
pub record IsAskedToFill (space : SpaceNo) (vpn : Vpn) (trust : Trust) (o p : Known) (result : Result (Result Ident Refused) Refused) (old new : Recorded) : Type 0 where
  pub any : IsFilling new space vpn result
  pub believed : trust ≡ Nothing → IsReached old o space → IsBelieved old o space vpn → IsAnswered (λ why. ⊥) new p space result
  pub other : trust ≡ Nothing → IsReached old o space → IsAnswered (IsAnotherTold new space vpn) new p space result

-- .. and of asking with the receiver that is told
pub record IsFilledIn (space : SpaceNo) (vpn : Vpn) (trust : Trust) (o p : Known) (result : Result (Result Ident Refused) Refused) (old new : Recorded) : Type 0 where
  pub any : IsFilling new space vpn result
  pub reached : trust ≡ Nothing → IsReached old o space → IsAnswered (λ why. ⊥) new p space result

-- what comes of asking once for the row of a page of which nothing is to be loaded
pub record IsAskedInVain (space : SpaceNo) (vpn : Vpn) (trust : Trust) (o p : Known) (result : Result (Result Ident Refused) Refused) (old new : Recorded) : Type 0 where
  pub gentle : IsGentle space old new o p
  pub any : IfOk result IsRefusedSo
  pub believed : trust ≡ Nothing → IsReached old o space → IsBelieved old o space vpn → IsAnswered IsNothingToLoad new p space result
  pub other : trust ≡ Nothing → IsReached old o space → IsAnswered (λ why. IsNothingToLoad why ⊎ IsAnotherTold new space vpn why) new p space result

-- .. and of asking with the receiver that is told
pub record IsVain (space : SpaceNo) (vpn : Vpn) (trust : Trust) (o p : Known) (result : Result (Result Ident Refused) Refused) (old new : Recorded) : Type 0 where
  pub gentle : IsGentle space old new o p
  pub any : IfOk result IsRefusedSo
  pub reached : trust ≡ Nothing → IsReached old o space → IsAnswered IsNothingToLoad new p space result

abbrev pub AskFills : SpaceNo → Vpn → Trust → Known → Known → Result (Result Ident Refused) Refused → Recorded → Recorded → Type 0
AskFills space vpn trust o p result old new = IsOwned old o → IsFillable old space vpn → IsAskedToFill space vpn trust o p result old new

abbrev pub AskIsVain : SpaceNo → Vpn → Trust → Known → Known → Result (Result Ident Refused) Refused → Recorded → Recorded → Type 0
AskIsVain space vpn trust o p result old new = IsOwned old o → IsUnfillable old space vpn → IsAskedInVain space vpn trust o p result old new

abbrev pub RowFills : SpaceNo → Vpn → Trust → Known → Known → Result (Result Ident Refused) Refused → Recorded → Recorded → Type 0
RowFills space vpn trust o p result old new = IsOwned old o → IsFillable old space vpn → IsFilledIn space vpn trust o p result old new

abbrev pub RowIsVain : SpaceNo → Vpn → Trust → Known → Known → Result (Result Ident Refused) Refused → Recorded → Recorded → Type 0
RowIsVain space vpn trust o p result old new = IsOwned old o → IsUnfillable old space vpn → IsVain space vpn trust o p result old new

-- an answer by which no signal row is missing
abbrev pub IsNoneMissing : Result Ident Refused → Type 0
IsNoneMissing (Ok ident) = Unit {0}
IsNoneMissing (Err (ReceiversAbsent space vpn)) = ⊥
IsNoneMissing (Err why) = Unit {0}

-- nothing was asked for: it is the answer that there was
pub record IsPassedOn (old new : Option Recorded) (o p : Known) (answer : Result Ident Refused) (result : Result (Result Ident Refused) Refused) : Type 0 where
  pub its : result ≡ Ok answer
  pub board : new ≡ old
  pub owners : p ≡ o

-- ---- pages that are filled

-- the thread goes on, and the row of the page is loaded
pub record IsFilled (b : Recorded) (space : SpaceNo) (vpn : Vpn) (answer : Served) : Type 0 where
  pub resumed : answer ≡ served.Resumed
  pub loaded : IsNameResident (residents_of (contents_of b)) (Mapping space vpn)

-- .. or the walk was refused, and it is to be loaded still, or memory is wanted
abbrev pub IsFilledOr : Recorded → SpaceNo → Vpn → Result Served Refused → Type 0
IsFilledOr b space vpn (Ok answer) = IsFilled b space vpn answer
IsFilledOr b space vpn (Err why) = (why ≡ NoMemory) ⊎ IsFillable b space vpn

-- ---- faults that are confirmed

-- The next step of the thread, which is of the space, faults and may be taken. Its fetch doesn't translate, or goes through a row that
-- is loaded.
pub record IsFaulted (b : Recorded) (space : SpaceNo) (thread : ThreadNo) : Type 0 where
  pub found : FlatThread
  pub there : slice_get (state_of b.machine).threads thread.0 ≡ Some found
  pub its : found.space ≡ space
  pub ready : is_ready found.status ≡ true
  pub faulty : faults (state_of b.machine) found ≡ true
  pub fetch : (row : Row) → fetch_row (state_of b.machine) found ≡ Some row → IsNameResident (residents_of (contents_of b)) (Mapping space row.vpn)
  pub free : mark_of (contents_of b) thread ≡ None
  pub left : b.steps < b.limit

-- The thread's next step was taken, which is the last entry, and nothing else changed of the machine.
pub record IsFaultTaken (thread : ThreadNo) (old new : Recorded) : Type 0 where
  pub state : state_of new.machine ≡ applied (state_of old.machine) (Step thread)
  pub before : List Entry
  pub entries : new.journal.entries ≡ before ++ Ended thread 0 ∷ []
  pub steps : new.steps ≡ old.steps + 1
  pub limit : new.limit ≡ old.limit

-- the thread's fault was confirmed
pub record IsConfirmed (thread : ThreadNo) (old new : Recorded) (answer : Served) : Type 0 where
  pub ended : answer ≡ served.Ended
  pub taken : IsFaultTaken thread old new

-- .. or the walk was refused, and left it as it was
abbrev pub IsConfirmedOr : SpaceNo → ThreadNo → Known → Known → Recorded → Recorded → Result Served Refused → Type 0
IsConfirmedOr space thread o p old new (Ok answer) = IsConfirmed thread old new answer
IsConfirmedOr space thread o p old new (Err why) = IsGentle space old new o p

-- only memory is wanted
abbrev pub IsWanting : Result Served Refused → Type 0
IsWanting result = IfErr result (λ why. why ≡ NoMemory)

-- what each walk does: a row that is to be loaded is, or memory is wanted where the walk asks for each load by what is reached
pub record IsFilledBy (space : SpaceNo) (vpn : Vpn) (trust : Trust) (o : Known) (result : Result Served Refused) (old new : Recorded) : Type 0 where
  pub any : IsFilledOr new space vpn result
  pub reached : trust ≡ Nothing → IsReached old o space → IsWanting result

-- .. and a fault of a page of which nothing is to be loaded is confirmed
pub record IsConfirmedBy (space : SpaceNo) (thread : ThreadNo) (trust : Trust) (o p : Known) (result : Result Served Refused) (old new : Recorded) : Type 0 where
  pub any : IsConfirmedOr space thread o p old new result
  pub reached : trust ≡ Nothing → IsReached old o space → IsWanting result

abbrev pub Fills : SpaceNo → Vpn → Trust → Known → Result Served Refused → Recorded → Recorded → Type 0
Fills space vpn trust o result old new = IsOwned old o → IsFillable old space vpn → IsFilledBy space vpn trust o result old new

abbrev pub Confirms : SpaceNo → ThreadNo → Trust → Known → Known → Result Served Refused → Recorded → Recorded → Type 0
Confirms space thread trust o p result old new = IsOwned old o → IsFaulted old space thread → IsConfirmedBy space thread trust o p result old new

-- the same of a walk that reaches the thread before
pub record IsFilledThen (space : SpaceNo) (vpn : Vpn) (trust : Trust) (result : Result Served Refused) (new : Recorded) : Type 0 where
  pub any : IsFilledOr new space vpn result
  pub wanting : trust ≡ Nothing → IsWanting result

pub record IsConfirmedThen (space : SpaceNo) (thread : ThreadNo) (trust : Trust) (o p : Known) (result : Result Served Refused) (old new : Recorded) : Type 0 where
  pub any : IsConfirmedOr space thread o p old new result
  pub wanting : trust ≡ Nothing → IsWanting result

abbrev pub WalkFills : SpaceNo → ThreadNo → Vpn → Trust → Known → Result Served Refused → Recorded → Recorded → Type 0
WalkFills space thread vpn trust o result old new = space_of o thread ≡ Some space → IsOwned old o → IsFillable old space vpn → IsFilledThen space vpn trust result new

abbrev pub WalkConfirms : SpaceNo → ThreadNo → Vpn → Trust → Known → Known → Result Served Refused → Recorded → Recorded → Type 0
WalkConfirms space thread vpn trust o p result old new = space_of o thread ≡ Some space → IsOwned old o → IsFaulted old space thread → IsUnfillable old space vpn → IsConfirmedThen space thread trust o p result old new

-- a try does it, or memory is wanted
abbrev pub IsFilledUnless : Recorded → SpaceNo → Vpn → Result Served Refused → Type 0
IsFilledUnless b space vpn (Ok answer) = IsFilled b space vpn answer
IsFilledUnless b space vpn (Err why) = why ≡ NoMemory

abbrev pub IsConfirmedUnless : ThreadNo → Recorded → Recorded → Result Served Refused → Type 0
IsConfirmedUnless thread old new (Ok answer) = IsConfirmed thread old new answer
IsConfirmedUnless thread old new (Err why) = why ≡ NoMemory

abbrev pub TryFills : SpaceNo → ThreadNo → Vpn → Known → Result Served Refused → Recorded → Recorded → Type 0
TryFills space thread vpn o result old new = space_of o thread ≡ Some space → IsOwned old o → IsFillable old space vpn → IsFilledUnless new space vpn result

abbrev pub TryConfirms : SpaceNo → ThreadNo → Vpn → Known → Result Served Refused → Recorded → Recorded → Type 0
TryConfirms space thread vpn o result old new = space_of o thread ≡ Some space → IsOwned old o → IsFaulted old space thread → IsUnfillable old space vpn → IsConfirmedUnless thread old new result
