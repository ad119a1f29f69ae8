-- What a processor leaves of a board that it held.
use Rattle.std.specs.Prelude.{◌≡◌, ℕ, ◌<◌, Bool, true, false, List, Option, Some, None, Result, IfErr, OnOk}
use Rattle.std.specs.Result.{result_err}
use Rattle.cache_ident.specs.declared.names.ThreadNo.{ThreadNo}
use Rattle.cache_ident.specs.declared.names.Vpn.{Vpn}
use Rattle.cache_board.specs.run_journal.specs.declared.entries.Entry.{Entry}
use Rattle.cache_board.specs.board_ops.specs.declared.refusals.Refused.{Refused}
use Rattle.cache_board.specs.board_ops.specs.declared.refusals.Refused.TheVariants as why
use Rattle.quantum.specs.Ahead.{Ahead}
use Rattle.cache_board.specs.board_core.specs.Answers.{IsRefused}
use Rattle.cache_board.specs.board_core.specs.Core.{contents_of, Recorded}
use Rattle.cache_board.specs.board_core.specs.Growth.{IsRoomMade}
use Rattle.cache_board.specs.board_threads.specs.declared.tickets.Ticket.{Ticket}
use Rattle.cache_board.specs.board_threads.specs.Posts.{HasComeBack, IsOutWith, OnlyMarks}
use Rattle.cache_board.specs.board_commits.specs.Commits.{IsCommitted, IsPaged}
use Rattle.cache_board.specs.board_commits.specs.Refusals.{refusal_of_commit, refusal_of_page}
use Rattle.cache_board.specs.board_commits.specs.Tickets.{AreOfTicket}
use Rattle.cache_board.specs.board_heal.specs.Healed.{IsHealed}
use Rattle.cache_board.specs.board_heal.specs.Promise.{HasStepped, IsHealable}
use Rattle.cache_board.specs.board_heal.specs.Refusals.{refusal_of_heal}
use Rattle.board_turns.specs.declared.committed.Committed.{Committed}
use Rattle.board_turns.specs.declared.committed.Committed.TheVariants.{Taken, TooMany, Lost}
use Rattle.board_turns.specs.declared.found.Found.{Found}
use Rattle.board_turns.specs.declared.found.Found.TheVariants.{Out, Wanted, Nothing, Over}
use Rattle.board_turns.specs.Looks.{HasLooked}

-- the ticket's thread was given back, if the processor had it, and all else is as it was
pub record HasLeft (ticket : Ticket) (old new : Recorded) : Type 0 where
  pub only : OnlyMarks old new
  pub back : (whom : ThreadNo) → IsOutWith old ticket whom → HasComeBack whom old new
  pub stays : ((whom : ThreadNo) → IsOutWith old ticket whom → ⊥) → new ≡ old

-- ---- commits

-- whom a look found that wrote it there, where one was made
abbrev pub found_if : Bool → Found → Option Found
found_if true next = Some next
found_if false next = None

-- whom a look in this order found, where one was asked for
abbrev pub HasLookedIf : Option Bool → Recorded → Recorded → Option Found → Type 0
HasLookedIf None old new None = new ≡ old
HasLookedIf (Some want_first) old new (Some found) = HasLooked want_first old new found
HasLookedIf None old new (Some found) = ⊥
HasLookedIf (Some want_first) old new None = ⊥

-- the steps happened, and then somebody was looked for, if asked for
pub record AreTaken (ticket : Ticket) (a : Ahead) (look : Option Bool) (old new : Recorded) (next : Option Found) : Type 0 where
  pub passes : refusal_of_commit old ticket a ≡ None
  pub between : Recorded
  pub committed : IsCommitted ticket a old between
  pub looked : HasLookedIf look between new next

-- so many are left, and that is too few; all but room is as it was
pub record AreTooMany (ticket : Ticket) (a : Ahead) (left : ℕ) (old new : Recorded) : Type 0 where
  pub refusal : refusal_of_commit old ticket a ≡ Some (why.Over left)
  pub only : IsRoomMade old new

-- they were refused, and the thread was given back
pub record AreLost (ticket : Ticket) (a : Ahead) (old new : Recorded) : Type 0 where
  pub refused : Refused
  pub refusal : refusal_of_commit old ticket a ≡ Some refused
  pub between : Recorded
  pub only : IsRoomMade old between
  pub left : HasLeft ticket between new

-- what came of a commit, with a look behind it in this order, if any: whom that found it wrote there
abbrev pub HasCommitted : Ticket → Ahead → Option Bool → Recorded → Recorded → Found → Committed → Type 0
HasCommitted ticket a look old new next (Taken looked) = AreTaken ticket a look old new (found_if looked next)
HasCommitted ticket a look old new next (TooMany left) = AreTooMany ticket a left old new
HasCommitted ticket a look old new next Lost = AreLost ticket a old new

-- whom a commit found, if anybody
abbrev pub found_by : Found → Committed → Option Found
found_by next (Taken looked) = found_if looked next
found_by next (TooMany left) = None
found_by next Lost = None

-- The quantum is ready for a turn for whom was found: for a thread that came to the processor it was begun, has no step yet, and only
-- copies made for that thread.
abbrev pub IsReadyFor : List Entry → Ahead → Found → Type 0
IsReadyFor j a (Out ticket) = AreOfTicket j ticket.thread a × (a.steps ≡ 0)
IsReadyFor j a (Wanted whom trapped pc) = Unit {0}
IsReadyFor j a Nothing = Unit {0}
IsReadyFor j a Over = Unit {0}

-- where the steps are too many, fewer are left
abbrev pub AreFewer : ℕ → Committed → Type 0
AreFewer steps (TooMany left) = left < steps
AreFewer steps (Taken looked) = Unit {0}
AreFewer steps Lost = Unit {0}

-- how many of so many steps happened
abbrev pub taken_by : Committed → ℕ → ℕ
taken_by (Taken looked) steps = steps
taken_by (TooMany left) steps = 0
taken_by Lost steps = 0

-- ---- pages

-- a page is answered for by the board as it is
abbrev pub IsPageAnswer : Recorded → Ticket → Vpn → Ahead → Ahead → Result Unit Refused → Type 0
IsPageAnswer b ticket vpn before after answer = (result_err answer ≡ refusal_of_page (contents_of b) ticket vpn) × OnOk answer (IsPaged b ticket vpn before after)

-- ---- healing

-- the thread of the ticket was given back, if there is one
abbrev pub HasLeftIf : Option Ticket → Recorded → Recorded → Type 0
HasLeftIf None old new = new ≡ old
HasLeftIf (Some ticket) old new = HasLeft ticket old new

-- A thread was given back, where there is a ticket, and the next step of one was healed by this processor, or not for this reason.
pub record HasHealed (cpu : ℕ) (ticket : Option Ticket) (whom : ThreadNo) (old new : Recorded) (answer : Result Unit Refused) : Type 0 where
  pub between : Recorded
  pub left : HasLeftIf ticket old between
  pub refused : IfErr answer (IsRefused (refusal_of_heal between whom) between new)
  pub done : OnOk answer (IsHealed cpu whom between new)
  pub promised : IsHealable between whom → IfErr answer (λ reason. reason ≡ why.NoMemory) × OnOk answer (HasStepped whom between new)
