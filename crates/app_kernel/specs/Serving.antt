-- What owners leave who served a thread.
use Rattle.std.specs.Prelude.{◌≡◌, ◌⊎◌, ◌↔◌, Bool, true, List, [], ◌∷◌, ◌++◌, Some, slice_get}
use Rattle.cache_ident.specs.declared.names.SpaceNo.{SpaceNo}
use Rattle.cache_ident.specs.declared.names.ThreadNo.{ThreadNo}
use Rattle.cache_ident.specs.declared.names.Vpn.{Vpn}
use Rattle.fault_forward.specs.declared.effects.Notice.{Notice}
use Rattle.fault_forward.specs.declared.effects.Notice.TheVariants.{Trap}
use Rattle.rv32_exec.specs.declared.statuses.Reason.{Reason}
use Rattle.rv32_exec.specs.declared.statuses.Status.TheVariants as statuses
use Rattle.owners.specs.flat_state.specs.declared.events.Event.TheVariants.{Complete}
use Rattle.owners.specs.flat_state.specs.declared.records.FlatThread.{FlatThread}
use Rattle.owners.specs.flat_state.specs.Call.{is_completable}
use Rattle.owners.specs.flat_state.specs.Events.{applied}
use Rattle.owners.specs.flat_state.specs.State.{FlatState}
use Rattle.owners.specs.run_journal.specs.declared.entries.Entry.{Entry}
use Rattle.owners.specs.run_journal.specs.declared.entries.Entry.TheVariants.{Completed}
use Rattle.page_laws.specs.board_ops.specs.declared.refusals.Refused.{Refused}
use Rattle.page_laws.specs.board_ops.specs.declared.refusals.Refused.TheVariants.{NoMemory}
use Rattle.page_laws.specs.cached_machine.specs.Cached.{state_of}
use Rattle.page_laws.specs.board_core.specs.Core.{IsSound, Recorded}
use Rattle.owner_ports.specs.Boards.{status_in}
use Rattle.owners.specs.Known.{space_of, Known}
use Rattle.owners.specs.Owning.{AreOwnersOf, IsThreadOf}
use Rattle.page_laws.specs.reach_laws.specs.Filling.{IsFillable, IsUnfillable}
use Rattle.page_laws.specs.reach_laws.specs.Reaching.{IsOwned}
use Rattle.app_kernel.specs.declared.serving.Served.{Served}
use Rattle.app_kernel.specs.declared.serving.Served.TheVariants as served
use Rattle.app_kernel.specs.Pages.{IsConfirmed, IsFaulted, IsFilled}
use Rattle.app_kernel.specs.Walks.{IsThreadReached}

-- the thread has ended
pub record IsEnded (b : Recorded) (thread : ThreadNo) : Type 0 where
  pub reason : Reason
  pub status : status_in b thread ≡ Some (statuses.Ended reason)

-- the thread is in a call that can be completed
pub record IsInCall (s : FlatState) (thread : ThreadNo) : Type 0 where
  pub found : FlatThread
  pub there : slice_get s.threads thread.0 ≡ Some found
  pub completable : is_completable found ≡ true

-- The thread's call was completed, which is the last entry, and nothing else changed of the machine. No step was taken.
pub record IsCallCompleted (thread : ThreadNo) (old new : Recorded) : Type 0 where
  pub state : state_of new.machine ≡ applied (state_of old.machine) (Complete thread)
  pub before : List Entry
  pub entries : new.journal.entries ≡ before ++ Completed thread 0 ∷ []
  pub steps : new.steps ≡ old.steps
  pub limit : new.limit ≡ old.limit

-- what the port tells of a thread: whether it has ended
pub record IsToldOf (thread : ThreadNo) (old new : Recorded) (answer : Bool) : Type 0 where
  pub same : new ≡ old
  pub sound : IsSound old
  pub ended : (answer ≡ true) ↔ IsEnded old thread

-- the thread goes on or has ended, and its call is completed
pub record IsGoneOn (thread : ThreadNo) (old new : Recorded) (answer : Served) : Type 0 where
  pub so : (answer ≡ served.Resumed) ⊎ (answer ≡ served.Ended)
  pub completed : IsCallCompleted thread old new

-- A walk helped the thread: owners own what came of the board, the answer is Ended exactly where the thread has ended, and for a
-- call that is completed.
pub record IsHelped (thread : ThreadNo) (notice : Notice) (old new : Recorded) (o : Known) (answer : Served) : Type 0 where
  pub owners : AreOwnersOf new.journal.entries o
  pub ended : (answer ≡ served.Ended) ↔ IsEnded new thread
  pub trap : notice ≡ Trap → IsGoneOn thread old new answer

-- it is so, or memory is wanted
abbrev pub UnlessWanting : Served → Type 0 → Type 0
UnlessWanting answer P = (answer ≡ served.Again NoMemory) ⊎ P

-- A thread was served by the owners of a sealed board, who own what came of it. The answer is Ended exactly where the thread has
-- ended. A call that can be completed is.
pub record IsServed (thread : ThreadNo) (notice : Notice) (old new : Recorded) (o : Known) (answer : Served) : Type 0 where
  pub owners : AreOwnersOf new.journal.entries o
  pub ended : (answer ≡ served.Ended) ↔ IsEnded new thread
  pub trap : notice ≡ Trap → IsInCall (state_of old.machine) thread → UnlessWanting answer (IsGoneOn thread old new answer)

-- where the thread is reached and its call can be completed, only memory can be wanted
abbrev pub FinishesAt : Known → SpaceNo → ThreadNo → Refused → Recorded → Recorded → Type 0
FinishesAt o space thread w old new = IsOwned old o → IsThreadReached old o space thread → IsThreadOf (state_of old.machine) space thread → IsInCall (state_of old.machine) thread → w ≡ NoMemory

-- a walk helps a thread that hasn't ended
abbrev pub Helps : ThreadNo → Notice → Known → Known → Served → Recorded → Recorded → Type 0
Helps thread notice o p answer old new = IsOwned old o → (IsEnded old thread → ⊥) → IsHelped thread notice old new p answer

-- a call that can be completed isn't refused, but for want of memory
abbrev pub Finishes : ThreadNo → Notice → Known → Refused → Recorded → Recorded → Type 0
Finishes thread notice o w old new = IsOwned old o → notice ≡ Trap → IsInCall (state_of old.machine) thread → w ≡ NoMemory

-- owners of a sealed board serve the thread
abbrev pub Serves : ThreadNo → Notice → Known → Known → Served → Recorded → Recorded → Type 0
Serves thread notice o p answer old new = old.sealed ≡ true → AreOwnersOf old.journal.entries o → IsServed thread notice old new p answer

-- a row of its space that is to be loaded is, and a thread that hasn't ended goes on
abbrev pub ServeFills : ThreadNo → SpaceNo → Vpn → Known → Served → Recorded → Recorded → Type 0
ServeFills thread space vpn o answer old new = space_of o thread ≡ Some space → old.sealed ≡ true → AreOwnersOf old.journal.entries o → (IsEnded old thread → ⊥) → IsFillable old space vpn → UnlessWanting answer (IsFilled new space vpn answer)

-- a fault on a page of its space of which nothing is to be loaded is confirmed
abbrev pub ServeConfirms : ThreadNo → SpaceNo → Vpn → Known → Served → Recorded → Recorded → Type 0
ServeConfirms thread space vpn o answer old new = space_of o thread ≡ Some space → old.sealed ≡ true → AreOwnersOf old.journal.entries o → IsFaulted old space thread → IsUnfillable old space vpn → UnlessWanting answer (IsConfirmed thread old new answer)
