-- What a page that was copied leaves of a quantum, and what steps that happened leave of the board.
use Rattle.std.specs.Prelude.{◌≡◌, ℕ, ◌+◌, ◌<◌, ◌≤◌, true, None, Some, slice_get}
use Rattle.cache_ident.specs.declared.idents.Ident.{Ident}
use Rattle.cache_ident.specs.declared.names.Name.TheVariants as name
use Rattle.cache_ident.specs.declared.names.SpaceNo.{SpaceNo}
use Rattle.cache_ident.specs.declared.names.ThreadNo.{ThreadNo}
use Rattle.cache_ident.specs.declared.names.Vpn.{Vpn}
use Rattle.cache_ident.specs.declared.names.Frame.{Frame}
use Rattle.cache_ident.specs.Residents.{IsResident}
use Rattle.phys_groups.specs.declared.rows.Flags.{Flags}
use Rattle.phys_groups.specs.declared.rows.Row.{Row}
use Rattle.phys_groups.specs.Memory.{page_at}
use Rattle.phys_groups.specs.Translation.{row_of}
use Rattle.flat_rules.specs.flat_state.specs.declared.records.FlatThread.{FlatThread}
use Rattle.flat_rules.specs.flat_state.specs.WellFormed.{IsWellFormed}
use Rattle.flat_rules.specs.Readings.{OfThread}
use Rattle.board_threads.specs.page_views.specs.Views.{filled, AreKept}
use Rattle.board_threads.specs.quantum.specs.Ahead.{more_with, Ahead}
use Rattle.board_threads.specs.quantum.specs.LocalRun.{committed, state_after, status_by, touched_views, CouldRun, GoesThrough}
use Rattle.board_threads.specs.desc_stores.specs.Contents.{residents_of}
use Rattle.board_threads.specs.board_laws.specs.Moves.{KeepsLoaded}
use Rattle.board_threads.specs.cached_machine.specs.Cached.{state_of}
use Rattle.board_threads.specs.cached_machine.specs.Posts.{but_at, last_of, mark_of}
use Rattle.board_threads.specs.board_core.specs.Core.{contents_of, Recorded}
use Rattle.board_threads.specs.board_core.specs.Growth.{entries_of_run, AreHeld, AreOfLoaded, GrowsBy}
use Rattle.board_threads.specs.board_checks.specs.Identifiers.{thread_as}
use Rattle.board_threads.specs.declared.tickets.Ticket.{Ticket}
use Rattle.board_commits.specs.Tickets.{IsDated}

-- The row of a page is loaded, with that identifier.
pub record IsLoadedRow (b : Recorded) (space : SpaceNo) (vpn : Vpn) (ident : Ident) (row : Row) : Type 0 where
  pub loaded : IsResident (residents_of (contents_of b)) ident (name.Mapping space vpn)
  pub there : row_of (state_of b.machine).rows space vpn.0 ≡ Some row

-- The quantum has one view more, of the bytes that the frame has, with a place of the journal as of which it has them. What is kept
-- now was kept before.
pub record HasPage (b : Recorded) (vpn : Vpn) (frame : Frame) (flags : Flags) (row : Ident) (old new : Ahead) : Type 0 where
  pub place : ℕ
  pub dated : IsDated b.journal.entries (record { frame = frame; bytes = page_at b.machine.memory frame; place = place })
  pub views : new ≡ record (more_with (filled old.views vpn frame flags row (page_at b.machine.memory frame) (Some place)) old) { kept = new.kept }
  pub kept : AreKept old.kept new.kept

-- The quantum has one view more, which is a copy of the loaded row of the page in the space of the ticket's thread. It carries a
-- place of the journal. What is kept now was kept before.
pub record IsPaged (b : Recorded) (ticket : Ticket) (vpn : Vpn) (old new : Ahead) : Type 0 where
  pub thread : FlatThread
  pub its : thread_as (contents_of b) ticket.thread ≡ Some thread
  pub ident : Ident
  pub loaded : IsResident (residents_of (contents_of b)) ident (name.Mapping thread.space vpn)
  pub row : Row
  pub there : row_of (state_of b.machine).rows thread.space vpn.0 ≡ Some row
  pub place : ℕ
  pub views : new ≡ record (more_with (filled old.views vpn row.frame row.flags ident (page_at b.machine.memory row.frame) (Some place)) old) { kept = new.kept }
  pub kept : AreKept old.kept new.kept

-- the thread is loaded with the ticket's identifier, it could have taken the steps as the machine is now, which events can make,
-- through rows that are loaded, and so many steps are left
pub record MayBeCommitted (b : Recorded) (ticket : Ticket) (a : Ahead) (whom : ThreadNo) : Type 0 where
  pub named : IsResident (residents_of (contents_of b)) ticket.thread (name.Thread whom)
  pub thread : FlatThread
  pub there : slice_get (state_of b.machine).threads whom.0 ≡ Some thread
  pub formed : IsWellFormed (state_of b.machine)
  pub could : OfThread (state_of b.machine) whom.0 (λ t. CouldRun (state_of b.machine) t a)
  pub views : OfThread (state_of b.machine) whom.0 (λ t. AreOfLoaded b t (touched_views a.views))
  pub left : b.steps + a.steps ≤ b.limit
  pub sealed : b.sealed ≡ true

-- The quantum's steps happened to the thread that is loaded with the ticket's identifier, one after another on the machine as it
-- was: each fits there, and goes through views that were touched. So the thread has the quantum's context, and the status that the
-- pause names; the frames and the marks of the touched views are theirs, and all else that is shown is as it was. Where there are
-- steps, they are one entry, and each frame whose view was touched holds what the view does. The thread came away from its
-- processor. No fewer identifiers can be issued without memory.
pub record IsCommitted (ticket : Ticket) (a : Ahead) (old new : Recorded) : Type 0 where
  pub whom : ThreadNo
  pub named : IsResident (residents_of (contents_of old)) ticket.thread (name.Thread whom)
  pub thread : FlatThread
  pub there : slice_get (state_of old.machine).threads whom.0 ≡ Some thread
  pub fits : (k : ℕ) → k < a.steps → GoesThrough (state_after (state_of old.machine) whom.0 k) whom.0 thread.space a.views
  pub state : state_of new.machine ≡ state_after (state_of old.machine) whom.0 a.steps
  pub made : state_of new.machine ≡ committed (state_of old.machine) whom.0 thread a
  pub becomes : slice_get (state_of new.machine).threads whom.0 ≡ Some (record thread { context = a.context; status = status_by a.paused })
  pub entries : GrowsBy (entries_of_run whom a.steps ticket.cpu) old new
  pub loaded : KeepsLoaded (contents_of old) (contents_of new)
  pub marks : (other : ThreadNo) → mark_of (contents_of new) other ≡ but_at whom None (mark_of (contents_of old)) other
  pub lasts : (other : ThreadNo) → last_of (contents_of new) other ≡ last_of (contents_of old) other
  pub steps_taken : new.steps ≡ old.steps + a.steps
  pub sealed : new.sealed ≡ old.sealed
  pub checkouts : new.checkouts ≡ old.checkouts
  pub spare : (contents_of old).spare ≤ (contents_of new).spare
  pub held : 0 < a.steps → AreHeld new.machine.memory (touched_views a.views)
