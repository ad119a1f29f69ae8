-- Which processor may come of one that shares a board.
use Rattle.std.specs.Prelude.{◌≡◌, refl}
use Rattle.std.proofs.Common.{◌∙◌, sym}
use mathlib.Core.List.{IsPrefix}
use Rattle.alone_run.specs.cache_board.specs.Pasts.{entries_of}
use Rattle.alone_run.specs.cache_board.proofs.PastLaws.{begins_further, begins_itself, entries_begin}
use Rattle.alone_run.specs.board_threads.specs.declared.tickets.Ticket.{Ticket}
use Rattle.processors.specs.Sharing.{SeesMore, Sharer}

pub goes_nowhere : (it : Sharer) → SeesMore it it
goes_nowhere it = record { lock = refl; cpu = refl; end = refl; limit = refl; seen = begins_itself it.seen }

pub goes_further : (first then last : Sharer) → SeesMore first then → SeesMore then last → SeesMore first last
goes_further first then last before after = record {
  lock = after.lock ∙ before.lock;
  cpu = after.cpu ∙ before.cpu;
  end = after.end ∙ before.end;
  limit = after.limit ∙ before.limit;
  seen = begins_further first.seen then.seen last.seen before.seen after.seen;
}

pub begins_with_seen : (old new : Sharer) → SeesMore old new → IsPrefix (entries_of old.seen) (entries_of new.seen)
begins_with_seen old new more = entries_begin old.seen new.seen more.seen

pub own_stays : (old new : Sharer) (ticket : Ticket) → SeesMore old new → ticket.cpu ≡ old.cpu → ticket.cpu ≡ new.cpu
own_stays old new ticket more own = own ∙ sym more.cpu
