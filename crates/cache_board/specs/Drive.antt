-- What an operation answers, and what it makes of the board and of the desk.
use Rattle.std.specs.Prelude.{◌≡◌, ◌≢◌, ℕ, ◌≤◌, Bool, true, false, min, nat_le, List, [], ◌∷◌, Option, None, Some, Result, Ok, Err, MatchOption}
use Rattle.cache_ident.specs.declared.idents.Ident.{Ident}
use Rattle.cache_ident.specs.declared.names.Name.TheVariants as name
use Rattle.cache_ident.specs.declared.names.SpaceNo.{SpaceNo}
use Rattle.cache_ident.specs.declared.names.ThreadNo.{ThreadNo}
use Rattle.cache_ident.specs.declared.names.Vpn.{Vpn}
use Rattle.board_core.specs.page_views.specs.Views.{can_fill}
use Rattle.ready_queue.specs.declared.Candidate.{Candidate}
use Rattle.board_core.specs.quantum.specs.Ahead.{begun, IsRun}
use Rattle.board_core.specs.quantum.specs.LocalRun.{IsLocalRun}
use Rattle.board_core.specs.board_ops.specs.declared.answers.Answer.{Answer}
use Rattle.board_core.specs.board_ops.specs.declared.answers.Answer.TheVariants as answers
use Rattle.board_core.specs.board_ops.specs.declared.ops.Op.{Op}
use Rattle.board_core.specs.board_ops.specs.declared.ops.Op.TheVariants as ops
use Rattle.board_core.specs.board_ops.specs.declared.refusals.Refused.{Refused}
use Rattle.board_core.specs.board_ops.specs.declared.refusals.Refused.TheVariants.{NoMemory}
use Rattle.board_commits.specs.board_checks.specs.Identifiers.{space_as}
use Rattle.board_commits.specs.board_checks.specs.Refusals.{refusal_of_complete, refusal_of_load_kernel, refusal_of_load_mapping, refusal_of_load_space, refusal_of_load_thread, refusal_of_lock, refusal_of_unload, refusal_of_unlock}
use Rattle.board_core.specs.Answers.{HasCallRoom, IsRefused}
use Rattle.board_core.specs.Core.{contents_of, IsSound, Recorded}
use Rattle.board_core.specs.Growth.{IsRoomMade}
use Rattle.board_commits.specs.board_threads.specs.declared.tickets.Ticket.{Ticket}
use Rattle.board_commits.specs.board_threads.specs.Faults.{HasEnded}
use Rattle.board_commits.specs.board_threads.specs.Posts.{HasComeBack, IsCheckedOut, IsOutWith, IsTicketFor, OnlyMarks}
use Rattle.board_commits.specs.board_threads.specs.Refusals.{refusal_of_fault}
use Rattle.board_commits.specs.board_threads.specs.Waiting.{IsChosenOf, IsWaiting}
use Rattle.board_commits.specs.Commits.{IsCommitted, IsPaged}
use Rattle.board_commits.specs.Refusals.{refusal_of_commit, refusal_of_page}
use Rattle.board_commits.specs.Tickets.{AreAllAsOf, AreOfTicket}
use Rattle.board_loads.specs.Holds.{IsLockedAs, IsUnloadedAs}
use Rattle.board_loads.specs.Loads.{IsLoadedAs}
use Rattle.board_calls.specs.Calls.{refusal_of_declare, refusal_of_seal, IsCompletion, IsDeclaring, IsSealing}
use Rattle.board_heal.specs.Healed.{IsHealed}
use Rattle.board_heal.specs.Refusals.{refusal_of_heal}
use Rattle.cache_board.specs.declared.place.Place.{Place}
use Rattle.cache_board.specs.Desks.{AtPlace, Desktop}

-- ---- the processor

-- that which an operation names, if it names one
abbrev pub processor_of : Op → Option ℕ
processor_of (ops.Declare decl) = None
processor_of ops.Seal = None
processor_of (ops.LoadKernel cpu caller kernel) = Some cpu
processor_of (ops.LoadSpace cpu caller space) = Some cpu
processor_of (ops.LoadThread cpu caller parent thread) = Some cpu
processor_of (ops.LoadMapping cpu caller parent vpn receiver) = Some cpu
processor_of (ops.Unload cpu caller ident) = Some cpu
processor_of (ops.Lock cpu caller ident) = Some cpu
processor_of (ops.Unlock cpu caller ident) = Some cpu
processor_of (ops.Checkout cpu) = Some cpu
processor_of (ops.View cpu vpn) = Some cpu
processor_of (ops.RunAhead cpu limit) = Some cpu
processor_of (ops.Commit cpu) = Some cpu
processor_of (ops.Leave cpu) = Some cpu
processor_of (ops.Complete cpu caller thread) = Some cpu
processor_of (ops.ConfirmFault cpu caller thread) = Some cpu
processor_of (ops.HealStep cpu thread) = Some cpu
processor_of (ops.Reserve n) = None

-- there are eight
abbrev pub is_beyond : Option ℕ → Bool
is_beyond None = false
is_beyond (Some cpu) = nat_le 8 cpu

-- ---- the answer of a call

abbrev pub answer_if_done : {T : Type 0} → Result T Refused → Answer
answer_if_done (Ok x) = answers.Did
answer_if_done (Err why) = answers.Refused why

abbrev pub answer_if_loaded : Result Ident Refused → Answer
answer_if_loaded (Ok ident) = answers.Loaded ident
answer_if_loaded (Err why) = answers.Refused why

abbrev pub answer_if_made : {T E : Type 0} → Result T E → Answer
answer_if_made (Ok x) = answers.Did
answer_if_made (Err e) = answers.Refused NoMemory

-- It is done, where no refusal comes, or it is refused for that one or for want of memory.
abbrev pub DoesOr : Option Refused → Type 0 → Recorded → Recorded → Answer → Type 0
DoesOr refusal done old new answers.Did = (refusal ≡ None) × done
DoesOr refusal done old new (answers.Refused why) = IsRefused refusal old new why
DoesOr refusal done old new _ = ⊥

-- The same of what gives an identifier.
abbrev pub LoadsOr : Option Refused → (Ident → Type 0) → Recorded → Recorded → Answer → Type 0
LoadsOr refusal done old new (answers.Loaded ident) = (refusal ≡ None) × done ident
LoadsOr refusal done old new (answers.Refused why) = IsRefused refusal old new why
LoadsOr refusal done old new _ = ⊥

-- no memory is wanted where there is room to spare
abbrev pub Spares : Recorded → Answer → Type 0
Spares b answer = HasCallRoom b → answer ≢ answers.Refused NoMemory

-- ---- at the place of a processor

-- The next thread is out, and its ticket lies at the place, with a quantum that begins with its context; or no thread waits,
-- and nothing changed.
abbrev pub IsCheckout : ℕ → Recorded → Place → Answer → Recorded → Place → Type 0
IsCheckout cpu b old (answers.Out (Some whom)) after new =
    (ticket : Ticket) × (ticket.no ≡ whom) × IsChosenOf b whom × IsTicketFor b cpu ticket × IsCheckedOut whom cpu b after × (new ≡ record { ticket = Some ticket; quantum = begun ticket.context old.quantum })
IsCheckout cpu b old (answers.Out None) after new = ((candidate : Candidate) → IsWaiting b candidate → ⊥) × (after ≡ b) × (new ≡ old)
IsCheckout cpu b old _ after new = ⊥

-- With the ticket, the page is in the quantum too; or the quantum has no room for a view of the page, or there is a refusal, and
-- nothing changed.
abbrev pub IsViewWith : Ticket → Recorded → Vpn → Place → Answer → Place → Type 0
IsViewWith ticket b vpn old answers.NoView new = (can_fill old.quantum.most old.quantum.views vpn ≡ false) × (new ≡ old)
IsViewWith ticket b vpn old answers.Did new =
    (can_fill old.quantum.most old.quantum.views vpn ≡ true) × (refusal_of_page (contents_of b) ticket vpn ≡ None) × (new.ticket ≡ old.ticket) × IsPaged b ticket vpn old.quantum new.quantum
    × (AreOfTicket b.journal.entries ticket.thread old.quantum → AreOfTicket b.journal.entries ticket.thread new.quantum)
    × AreAllAsOf b.journal.entries new.quantum
IsViewWith ticket b vpn old (answers.Refused why) new =
    (can_fill old.quantum.most old.quantum.views vpn ≡ true) × (refusal_of_page (contents_of b) ticket vpn ≡ Some why) × (new ≡ old)
IsViewWith ticket b vpn old _ new = ⊥

-- .. which there is, or else nothing changed
abbrev pub IsView : Recorded → Vpn → Place → Answer → Place → Type 0
IsView b vpn old answer new = MatchOption old.ticket ((answer ≡ answers.NoTicket) × (new ≡ old)) (λ ticket. IsViewWith ticket b vpn old answer new)

-- the quantum ran ahead, by steps that its thread can take
abbrev pub IsRunTo : ℕ → Place → Answer → Place → Type 0
IsRunTo limit old (answers.Paused paused) new = (new.ticket ≡ old.ticket) × IsRun limit old.quantum new.quantum paused × IsLocalRun new.quantum
IsRunTo limit old _ new = ⊥

abbrev pub IsRunAhead : ℕ → Place → Answer → Place → Type 0
IsRunAhead limit old answer new = MatchOption old.ticket ((answer ≡ answers.NoTicket) × (new ≡ old)) (λ ticket. IsRunTo limit old answer new)

-- With the ticket, the steps of the quantum happened, and the ticket is gone; or they are refused, and the place is as it was.
abbrev pub IsCommitWith : Ticket → Recorded → Place → Answer → Recorded → Place → Type 0
IsCommitWith ticket b old (answers.Stepped steps) after new =
    (refusal_of_commit b ticket old.quantum ≡ None) × (steps ≡ old.quantum.steps) × IsCommitted ticket old.quantum b after × (new ≡ record old { ticket = None })
IsCommitWith ticket b old (answers.Refused why) after new = IsRefused (refusal_of_commit b ticket old.quantum) b after why × (new ≡ old)
IsCommitWith ticket b old _ after new = ⊥

abbrev pub IsCommit : Recorded → Place → Answer → Recorded → Place → Type 0
IsCommit b old answer after new =
    MatchOption old.ticket ((answer ≡ answers.NoTicket) × (after ≡ b) × (new ≡ old)) (λ ticket. IsCommitWith ticket b old answer after new × Spares b answer)

-- With the ticket, its thread came back from its processor, if it is still there, and the ticket is gone.
pub record IsLeaveWith (ticket : Ticket) (b : Recorded) (old : Place) (answer : Answer) (after : Recorded) (new : Place) : Type 0 where
  pub did : answer ≡ answers.Did
  pub only : OnlyMarks b after
  pub back : (whom : ThreadNo) → IsOutWith b ticket whom → HasComeBack whom b after
  pub stays : ((whom : ThreadNo) → IsOutWith b ticket whom → ⊥) → after ≡ b
  pub gone : new ≡ record old { ticket = None }

abbrev pub IsLeave : Recorded → Place → Answer → Recorded → Place → Type 0
IsLeave b old answer after new =
    MatchOption old.ticket ((answer ≡ answers.NoTicket) × (after ≡ b) × (new ≡ old)) (λ ticket. IsLeaveWith ticket b old answer after new)

-- ---- an operation

-- there is room for so many entries and identifiers now, or memory is wanted for it, and as much is spare as was
abbrev pub MakesRoom : ℕ → Recorded → Answer → Recorded → Type 0
MakesRoom n b answers.Did after = IsRoomMade b after × (n ≤ after.journal.spare) × (n ≤ (contents_of after).spare)
MakesRoom n b (answers.Refused why) after =
    (why ≡ NoMemory) × IsRoomMade b after × (min after.journal.spare (contents_of after).spare ≡ min b.journal.spare (contents_of b).spare)
    × (n ≤ b.journal.spare → n ≤ (contents_of b).spare → ⊥)
MakesRoom n b _ after = ⊥

-- Which call an operation is, and on whose place: what the call answers is the answer, and board and desk are as it leaves them.
abbrev pub IsDone : Op → Recorded → Desktop → Answer → Recorded → Desktop → Type 0
IsDone (ops.Declare decl) b d answer b′ d′ = (d′ ≡ d) × DoesOr (refusal_of_declare b decl) (IsDeclaring decl b b′) b b′ answer
IsDone ops.Seal b d answer b′ d′ = (d′ ≡ d) × LoadsOr (refusal_of_seal b) (IsSealing b b′) b b′ answer × Spares b answer
IsDone (ops.LoadKernel cpu caller kernel) b d answer b′ d′ =
    (d′ ≡ d) × LoadsOr (refusal_of_load_kernel (contents_of b) caller kernel) (λ ident. IsLoadedAs cpu (name.Kernel kernel) ident b b′) b b′ answer × Spares b answer
IsDone (ops.LoadSpace cpu caller space) b d answer b′ d′ =
    (d′ ≡ d) × LoadsOr (refusal_of_load_space (contents_of b) caller space) (λ ident. IsLoadedAs cpu (name.Space space) ident b b′) b b′ answer × Spares b answer
IsDone (ops.LoadThread cpu caller parent thread) b d answer b′ d′ =
    (d′ ≡ d) × LoadsOr (refusal_of_load_thread (contents_of b) caller parent thread) (λ ident. IsLoadedAs cpu (name.Thread thread) ident b b′) b b′ answer × Spares b answer
IsDone (ops.LoadMapping cpu caller parent vpn receiver) b d answer b′ d′ =
    (d′ ≡ d)
    × LoadsOr (refusal_of_load_mapping (contents_of b) caller parent vpn receiver)
    (λ ident. (space : SpaceNo) × (space_as (contents_of b) parent ≡ Some space) × IsLoadedAs cpu (name.Mapping space vpn) ident b b′) b b′ answer
    × Spares b answer
IsDone (ops.Unload cpu caller ident) b d answer b′ d′ = (d′ ≡ d) × DoesOr (refusal_of_unload (contents_of b) caller ident) (IsUnloadedAs cpu ident b b′) b b′ answer × Spares b answer
IsDone (ops.Lock cpu caller ident) b d answer b′ d′ = (d′ ≡ d) × DoesOr (refusal_of_lock (contents_of b) caller ident) (IsLockedAs cpu ident true b b′) b b′ answer × Spares b answer
IsDone (ops.Unlock cpu caller ident) b d answer b′ d′ = (d′ ≡ d) × DoesOr (refusal_of_unlock (contents_of b) caller ident) (IsLockedAs cpu ident false b b′) b b′ answer × Spares b answer
IsDone (ops.Checkout cpu) b d answer b′ d′ = AtPlace cpu (λ old new. IsCheckout cpu b old answer b′ new) d d′
IsDone (ops.View cpu vpn) b d answer b′ d′ = (b′ ≡ b) × AtPlace cpu (λ old new. IsView b vpn old answer new) d d′
IsDone (ops.RunAhead cpu limit) b d answer b′ d′ = (b′ ≡ b) × AtPlace cpu (λ old new. IsRunAhead limit old answer new) d d′
IsDone (ops.Commit cpu) b d answer b′ d′ = AtPlace cpu (λ old new. IsCommit b old answer b′ new) d d′
IsDone (ops.Leave cpu) b d answer b′ d′ = AtPlace cpu (λ old new. IsLeave b old answer b′ new) d d′
IsDone (ops.Complete cpu caller thread) b d answer b′ d′ = (d′ ≡ d) × DoesOr (refusal_of_complete (contents_of b) caller thread) (IsCompletion cpu thread b b′) b b′ answer
IsDone (ops.ConfirmFault cpu caller thread) b d answer b′ d′ = (d′ ≡ d) × DoesOr (refusal_of_fault b caller thread) (HasEnded thread cpu b b′) b b′ answer × Spares b answer
IsDone (ops.HealStep cpu thread) b d answer b′ d′ = (d′ ≡ d) × DoesOr (refusal_of_heal b thread) (IsHealed cpu thread b b′) b b′ answer × Spares b answer
IsDone (ops.Reserve n) b d answer b′ d′ = (d′ ≡ d) × MakesRoom n b answer b′

-- Where it names a processor that there isn't, it answers so and changes nothing; else it is done. It leaves a sound board.
pub record IsAnswered (op : Op) (b : Recorded) (d : Desktop) (answer : Answer) (b′ : Recorded) (d′ : Desktop) : Type 0 where
  pub beyond : is_beyond (processor_of op) ≡ true → (answer ≡ answers.NoCpu) × (b′ ≡ b) × (d′ ≡ d)
  pub within : is_beyond (processor_of op) ≡ false → IsDone op b d answer b′ d′
  pub sound : IsSound b′

-- one answer an operation, each on the board and the desk that those before it left
abbrev pub AreAnswered : List Op → Recorded → Desktop → List Answer → Recorded → Desktop → Type 0
AreAnswered [] b d given b′ d′ = (given ≡ []) × (b′ ≡ b) × (d′ ≡ d)
AreAnswered (op ∷ later) b d [] b′ d′ = ⊥
AreAnswered (op ∷ later) b d (answer ∷ given) b′ d′ = (between : Recorded) × (lain : Desktop) × IsAnswered op b d answer between lain × AreAnswered later between lain given b′ d′
