-- Who is on which processor, once a thread was checked out or given back.
use Rattle.std.specs.Prelude.{◌≡◌, ℕ, Some, None}
use Rattle.cache_ident.specs.declared.names.Name.TheVariants as name
use Rattle.cache_ident.specs.declared.names.ThreadNo.{ThreadNo}
use Rattle.cache_ident.specs.Residents.{IsResident}
use Rattle.flat_rules.specs.Readings.{OfThread}
use Rattle.board_checks.specs.desc_stores.specs.Contents.{residents_of}
use Rattle.board_core.specs.cached_machine.specs.Cached.{state_of}
use Rattle.board_core.specs.cached_machine.specs.Posts.{but_at, last_of, mark_of, OnlyPosts}
use Rattle.board_core.specs.Core.{contents_of, Recorded}
use Rattle.board_core.specs.Growth.{one_more}
use Rattle.board_threads.specs.declared.tickets.Ticket.{Ticket}

-- the ticket is that of a loaded thread, for the processor, with the registers and the pc that it has
pub record IsTicketFor (b : Recorded) (cpu : ℕ) (ticket : Ticket) : Type 0 where
  pub named : IsResident (residents_of (contents_of b)) ticket.thread (name.Thread ticket.no)
  pub processor : ticket.cpu ≡ cpu
  pub context : OfThread (state_of b.machine) ticket.no.0 (λ t. ticket.context ≡ t.context)

-- the processor has the thread now, and the count of checkouts has risen; nothing else changed
pub record IsCheckedOut (whom : ThreadNo) (cpu : ℕ) (old new : Recorded) : Type 0 where
  pub only : OnlyPosts old.machine.held new.machine.held
  pub rest : new ≡ record old { machine = record old.machine { held = new.machine.held }; checkouts = one_more old.checkouts }
  pub marks : (other : ThreadNo) → mark_of (contents_of new) other ≡ but_at whom (Some cpu) (mark_of (contents_of old)) other
  pub lasts : (other : ThreadNo) → last_of (contents_of new) other ≡ but_at whom (one_more old.checkouts) (last_of (contents_of old)) other

-- nothing changed but which thread is on which processor
pub record OnlyMarks (old new : Recorded) : Type 0 where
  pub only : OnlyPosts old.machine.held new.machine.held
  pub rest : new ≡ record old { machine = record old.machine { held = new.machine.held } }
  pub lasts : (other : ThreadNo) → last_of (contents_of new) other ≡ last_of (contents_of old) other

-- the thread is loaded with the ticket's identifier, and the ticket's processor has it
pub record IsOutWith (b : Recorded) (ticket : Ticket) (whom : ThreadNo) : Type 0 where
  pub named : IsResident (residents_of (contents_of b)) ticket.thread (name.Thread whom)
  pub on : mark_of (contents_of b) whom ≡ Some ticket.cpu

-- no processor has the thread, and each other one has what it had
abbrev pub HasComeBack : ThreadNo → Recorded → Recorded → Type 0
HasComeBack whom old new = (other : ThreadNo) → mark_of (contents_of new) other ≡ but_at whom None (mark_of (contents_of old)) other
