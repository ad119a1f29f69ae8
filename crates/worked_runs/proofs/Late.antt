-- What a quantum has for its ticket, as it begins and as its board goes on.
use Rattle.std.proofs.Common.{ℕ, List, sym, subst}
use Rattle.cache_ident.specs.declared.idents.Ident.{Ident}
use Rattle.run_journal.specs.declared.entries.Entry.{Entry}
use Rattle.alone_run.specs.quantum.specs.Ahead.{Ahead}
use Rattle.alone_run.specs.board_core.specs.Core.{Recorded}
use Rattle.alone_run.specs.board_core.specs.Going.{IsOneEvent}
use Rattle.alone_run.specs.board_commits.specs.Tickets.{AreOfTicket}
use Rattle.alone_run.specs.board_commits.proofs.TicketLaws.{views_stay}

pub views_on : (cpu : ℕ) (old new : Recorded) (thread : Ident) (a : Ahead) → IsOneEvent cpu old new → AreOfTicket old.journal.entries thread a → AreOfTicket new.journal.entries thread a
views_on cpu old new thread a event views =
    subst (λ (es : List Entry). AreOfTicket es thread a) (sym event.grew.grows.entries) (views_stay old.journal.entries event.grew.entries thread a views)
