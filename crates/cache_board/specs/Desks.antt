-- What lies on a desk, and for whom it was copied.
use Rattle.std.specs.Prelude.{◌≡◌, ℕ, List, None, Some, slice_get, slice_set}
use Rattle.run_journal.specs.declared.entries.Entry.{Entry}
use Rattle.board_commits.specs.board_threads.specs.declared.tickets.Ticket.{Ticket}
use Rattle.board_commits.specs.Tickets.{AreAllAsOf, AreOfTicket}
use Rattle.board_core.specs.quantum.specs.Ahead.{unbegun}
use Rattle.cache_board.specs.declared.place.Place.{Place}
use Rattle.cache_board.specs.declared.place.TheConstants.{DESK_VIEWS}

-- for each of the eight processors its place, with its ticket, if it has one, and its quantum
pub record Desktop : Type 0 where
  pub places : List Place

-- no processor has a ticket, and each quantum is a new one
abbrev pub IsClear : Desktop → Type 0
IsClear d = (cpu : ℕ) (place : Place) → slice_get d.places cpu ≡ Some place → place ≡ record { ticket = None; quantum = unbegun DESK_VIEWS }

-- the ticket is for the processor, and each view of the quantum was copied for the thread of the ticket
pub record IsOfIts (j : List Entry) (cpu : ℕ) (place : Place) (ticket : Ticket) : Type 0 where
  pub processor : ticket.cpu ≡ cpu
  pub views : AreOfTicket j ticket.thread place.quantum

-- this is so of a ticket that the processor has, and what carries a place in its quantum is of this journal
pub record IsItsOwn (j : List Entry) (cpu : ℕ) (place : Place) : Type 0 where
  pub its : (ticket : Ticket) → place.ticket ≡ Some ticket → IsOfIts j cpu place ticket
  pub kept : AreAllAsOf j place.quantum

-- .. for each processor
abbrev pub AreOfTickets : List Entry → Desktop → Type 0
AreOfTickets j d = (cpu : ℕ) (place : Place) → slice_get d.places cpu ≡ Some place → IsItsOwn j cpu place

-- only the place of the processor changed, and so
pub record AtPlace (cpu : ℕ) (change : Place → Place → Type 0) (old new : Desktop) : Type 0 where
  pub before : Place
  pub there : slice_get old.places cpu ≡ Some before
  pub after : Place
  pub rest : new ≡ record { places = slice_set old.places cpu after }
  pub changes : change before after
