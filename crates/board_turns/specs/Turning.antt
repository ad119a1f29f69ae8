-- What a turn leaves, and what is nearer to its end then.
use Rattle.std.specs.Prelude.{◌≡◌, ℕ, ◌+◌, ◌-◌, ◌*◌, ◌<◌, ◌≤◌, true, false, Option, None, Some, slice_get}
use Rattle.cache_ident.specs.declared.names.Name.TheVariants as name
use Rattle.cache_ident.specs.declared.names.ThreadNo.{ThreadNo}
use Rattle.cache_ident.specs.Residents.{IsResident}
use Rattle.rv32_exec.specs.declared.statuses.Status.TheVariants.{Ready}
use Rattle.flat_state.specs.declared.records.FlatThread.{FlatThread}
use Rattle.flat_state.specs.Signals.{is_held}
use Rattle.app_kernel.specs.left_laws.specs.Left.{left}
use Rattle.app_kernel.specs.owner_ports.specs.Brought.{HasGained}
use Rattle.app_kernel.specs.owners.specs.Known.{Known}
use Rattle.app_kernel.specs.reach_laws.specs.Reaching.{IsOwned}
use Rattle.cache_board.specs.desc_stores.specs.Contents.{residents_of}
use Rattle.cache_board.specs.cached_machine.specs.Cached.{state_of}
use Rattle.cache_board.specs.cached_machine.specs.Posts.{mark_of}
use Rattle.cache_board.specs.board_core.specs.Core.{contents_of, IsSound, Recorded}
use Rattle.cache_board.specs.board_core.specs.Going.{Grew}
use Rattle.cache_board.specs.board_threads.specs.declared.tickets.Ticket.{Ticket}
use Rattle.board_turns.specs.declared.committed.Committed.{Committed}
use Rattle.board_turns.specs.declared.committed.Committed.TheVariants.{Taken, TooMany, Lost}
use Rattle.board_turns.specs.declared.found.Found.{Found}
use Rattle.board_turns.specs.Holds.{found_if}
use Rattle.board_turns.specs.Looks.{HasLooked}
use Rattle.board_turns.specs.Paces.{paced, wants_first, Beat}

-- How far a run on a board can still go: four for each step and each completion that is left, for a turn that brings one and three
-- that bring none, but for those that brought none by now.
abbrev pub turns_left : Recorded → Beat → ℕ
turns_left b beat = 4 * left b + (3 - beat.barren)

-- Whoever has the board alone did something on it: it grew and is sound if it was, and what is left fell by at least as many as brought
-- something.
pub record HasGrown (old : Recorded) (before : ℕ) (new : Recorded) (after : ℕ) : Type 0 where
  pub grew : Grew 0 old new
  pub sound : IsSound old → IsSound new
  pub gained : HasGained old before new after

-- ---- who is on a processor

abbrev pub IsUnmarked : Recorded → Type 0
IsUnmarked b = (whom : ThreadNo) → mark_of (contents_of b) whom ≡ None

-- the ticket's thread is loaded with the ticket's identifier, and on the ticket's processor, and no other thread is on one
pub record IsOutAlone (b : Recorded) (ticket : Ticket) : Type 0 where
  pub named : IsResident (residents_of (contents_of b)) ticket.thread (name.Thread ticket.no)
  pub on : mark_of (contents_of b) ticket.no ≡ Some ticket.cpu
  pub only : (whom : ThreadNo) (by : ℕ) → mark_of (contents_of b) whom ≡ Some by → whom ≡ ticket.no

-- ---- turns

-- On a board with its owners no processor has a thread, as between a turn's deeds and the look for the next.
pub record IsAtRest (b : Recorded) (known : Known) : Type 0 where
  pub owned : IsOwned b known
  pub unmarked : IsUnmarked b

-- .. but for the ticket's
pub record IsOnQuantum (b : Recorded) (known : Known) (ticket : Ticket) : Type 0 where
  pub owned : IsOwned b known
  pub out : IsOutAlone b ticket

-- .. if there is a ticket
abbrev pub IsAtRestBut : Option Ticket → Recorded → Known → Type 0
IsAtRestBut None b known = IsAtRest b known
IsAtRestBut (Some ticket) b known = IsOnQuantum b known ticket

-- On a board with its owners this was found last, for a turn of this beat: a look in the order that the beat asks for, at a board on
-- which no processor had a thread, found it and left this board.
pub record IsNext (b : Recorded) (known : Known) (beat : Beat) (found : Found) : Type 0 where
  pub owned : IsOwned b known
  pub before : Recorded
  pub unmarked : IsUnmarked before
  pub looked : HasLooked (wants_first beat) before b found

-- in the same hold as a commit with steps the next was found, and less is left
pub record IsFoundBehind (old new : Recorded) (known : Known) (beat : Beat) (found : Found) : Type 0 where
  pub next : IsNext new known (paced true beat) found
  pub less : left new < left old

-- a turn's deeds left this: nobody on a processor, or whom a look in the same hold found
abbrev pub IsLeftBy : Recorded → Recorded → Known → Beat → Option Found → Type 0
IsLeftBy old new known beat None = IsAtRest new known
IsLeftBy old new known beat (Some found) = IsFoundBehind old new known beat found

-- what came of steps on a processor, where a look behind them wrote there whom it found
abbrev pub IsTriedBy : Recorded → Recorded → Known → Beat → Ticket → Found → Committed → Type 0
IsTriedBy old new known beat ticket next (Taken looked) = IsLeftBy old new known beat (found_if looked next)
IsTriedBy old new known beat ticket next (TooMany left_steps) = IsOnQuantum new known ticket × (left new ≤ left old)
IsTriedBy old new known beat ticket next Lost = IsAtRest new known

-- ---- what a turn can bring

-- the thread's next step can be taken, once it is on no processor
pub record IsToStep (b : Recorded) (whom : ThreadNo) : Type 0 where
  pub steps : b.steps < b.limit
  pub thread : FlatThread
  pub there : slice_get (state_of b.machine).threads whom.0 ≡ Some thread
  pub ready : thread.status ≡ Ready
  pub not_held : is_held (state_of b.machine) thread ≡ false
