-- Whom a look at a board finds.
use Rattle.std.specs.Prelude.{◌≡◌, ◌≢◌, ℕ, Bool, true, false, List, Some, None, slice_get}
use Rattle.cache_ident.specs.declared.names.Name.TheVariants as name
use Rattle.cache_ident.specs.declared.names.ThreadNo.{ThreadNo}
use Rattle.cache_ident.specs.declared.names.Vpn.{Vpn}
use Rattle.cache_ident.specs.Residents.{IsNameResident}
use Rattle.phys_groups.specs.declared.rows.Row.{Row}
use Rattle.phys_groups.specs.Translation.{row_of}
use Rattle.rv32_exec.specs.declared.statuses.Access.{Access}
use Rattle.flat_state.specs.Translation.{wants}
use Rattle.ready_queue.specs.declared.Candidate.{Candidate}
use Rattle.flat_state.specs.declared.records.FlatThread.{FlatThread}
use Rattle.flat_state.specs.declared.records.Settled.{Settled}
use Rattle.flat_state.specs.declared.records.Settled.TheVariants.{Running}
use Rattle.flat_state.specs.Call.{is_completable}
use Rattle.flat_state.specs.Events.{flat}
use Rattle.flat_state.specs.Settling.{settled_of}
use Rattle.flat_state.specs.Signals.{is_runnable}
use Rattle.flat_state.specs.State.{is_trapped}
use Rattle.flat_rules.specs.Readings.{OfThread}
use Rattle.cache_board.specs.run_journal.specs.declared.entries.Entry.{Entry}
use Rattle.cache_board.specs.run_journal.specs.Entries.{erase}
use Rattle.cache_board.specs.run_journal.specs.Told.{residents}
use Rattle.cache_board.specs.cached_machine.specs.Cached.{is_loaded, state_of}
use Rattle.cache_board.specs.board_core.specs.Core.{contents_of, Recorded}
use Rattle.cache_board.specs.board_threads.specs.declared.tickets.Ticket.{Ticket}
use Rattle.cache_board.specs.board_threads.specs.Posts.{IsCheckedOut, IsTicketFor}
use Rattle.cache_board.specs.board_threads.specs.Tests.{IsWanted}
use Rattle.cache_board.specs.board_threads.specs.Waiting.{IsChosenOf, IsWaiting}
use Rattle.board_turns.specs.declared.found.Found.{Found}
use Rattle.board_turns.specs.declared.found.Found.TheVariants.{Out, Wanted, Nothing, Over}

-- how the run on a board stands
abbrev pub settled_on : Recorded → Settled
settled_on b = settled_of (state_of b.machine) b.steps b.limit

-- no thread can come to a processor
abbrev pub IsNobodyWaiting : Recorded → Type 0
IsNobodyWaiting b = (c : Candidate) → IsWaiting b c → ⊥

-- the thread is in a call or not, with that pc
abbrev pub StandsAt : Recorded → ThreadNo → Bool → ℕ → Type 0
StandsAt b whom trapped pc = OfThread (state_of b.machine) whom.0 (λ t. (is_trapped t.status ≡ trapped) × (t.context.pc ≡ pc))

-- who waits for owners, and how it stands
abbrev pub IsFoundWanted : Recorded → Found → Type 0
IsFoundWanted b (Wanted whom trapped pc) = IsWanted b (Some whom) × StandsAt b whom trapped pc
IsFoundWanted b (Out ticket) = ⊥
IsFoundWanted b Nothing = ⊥
IsFoundWanted b Over = ⊥

-- A thread came to the processor, and the ticket is its. Where those that wait for their owners were asked for first, there is none.
pub record IsOut (cpu : ℕ) (want_first : Bool) (old new : Recorded) (ticket : Ticket) : Type 0 where
  pub chosen : IsChosenOf old ticket.no
  pub ticket_for : IsTicketFor old cpu ticket
  pub out : IsCheckedOut ticket.no cpu old new
  pub nobody_first : want_first ≡ true → IsWanted old None

-- One waits for its owners, and stands so; the board is as it was. Where those that can come to the processor were asked for first,
-- there is none.
pub record IsServedNext (want_first : Bool) (old new : Recorded) (whom : ThreadNo) (trapped : Bool) (pc : ℕ) : Type 0 where
  pub wanted : IsWanted old (Some whom)
  pub stands : StandsAt old whom trapped pc
  pub nobody_first : want_first ≡ false → IsNobodyWaiting old
  pub same : new ≡ old

-- nobody is there
pub record IsNobody (old new : Recorded) : Type 0 where
  pub wanted : IsWanted old None
  pub waiting : IsNobodyWaiting old
  pub same : new ≡ old

-- a look by the processor, in this order, at a board whose run isn't over found it so
abbrev pub IsFound : ℕ → Bool → Recorded → Recorded → Found → Type 0
IsFound cpu want_first old new (Out ticket) = IsOut cpu want_first old new ticket
IsFound cpu want_first old new (Wanted whom trapped pc) = IsServedNext want_first old new whom trapped pc
IsFound cpu want_first old new Nothing = IsNobody old new
IsFound cpu want_first old new Over = ⊥

-- the run is over, and nobody was looked for
pub record IsFoundOver (old new : Recorded) : Type 0 where
  pub over : settled_on old ≢ Running
  pub same : new ≡ old

-- the run goes on, and this was found
pub record IsFoundRunning (want_first : Bool) (old new : Recorded) (whom : Found) : Type 0 where
  pub running : settled_on old ≡ Running
  pub found : IsFound 0 want_first old new whom

-- a look by whoever has the board alone
abbrev pub HasLooked : Bool → Recorded → Recorded → Found → Type 0
HasLooked want_first old new Over = IsFoundOver old new
HasLooked want_first old new (Out ticket) = IsFoundRunning want_first old new (Out ticket)
HasLooked want_first old new (Wanted whom trapped pc) = IsFoundRunning want_first old new (Wanted whom trapped pc)
HasLooked want_first old new Nothing = IsFoundRunning want_first old new Nothing

-- ---- a page that no view was free for

-- the row of a page of the thread's space is loaded, and has the flag of the access
abbrev pub Allows : Recorded → ThreadNo → Vpn → Access → Type 0
Allows b whom vpn access = OfThread (state_of b.machine) whom.0 (λ t. (row : Row) × (row_of (state_of b.machine).rows t.space vpn.0 ≡ Some row)
    × (wants access row.flags ≡ true) × (is_loaded (contents_of b) (name.Mapping t.space vpn) ≡ true))

-- ---- what a look tells of a journal

-- no call can be completed in the machine with unlimited tables, and each thread that is runnable there is loaded
pub record IsIdle (j : List Entry) : Type 0 where
  pub calls : (whom : ThreadNo) (t : FlatThread) → slice_get (flat (erase j)).threads whom.0 ≡ Some t → is_completable t ≡ false
  pub loaded : (whom : ThreadNo) (t : FlatThread) → slice_get (flat (erase j)).threads whom.0 ≡ Some t → is_runnable (flat (erase j)) t ≡ true → IsNameResident (residents j) (name.Thread whom)

-- What is so where the processor of that number found this last, and has seen this journal: a ticket is its own; nobody is there, and
-- why; and this, where the run is over for it.
abbrev pub IsSoWhere : ℕ → Type 0 → List Entry → Found → Type 0
IsSoWhere cpu over j (Out ticket) = ticket.cpu ≡ cpu
IsSoWhere cpu over j (Wanted whom trapped pc) = Unit {0}
IsSoWhere cpu over j Nothing = IsIdle j
IsSoWhere cpu over j Over = over

-- what is so of the board on which whoever has it alone found this last
abbrev pub IsSoAlone : Recorded → Found → Type 0
IsSoAlone b = IsSoWhere 0 (settled_on b ≢ Running) b.journal.entries
