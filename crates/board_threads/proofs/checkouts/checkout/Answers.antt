use Rattle.std.proofs.Common.{sym, subst}
use Rattle.cache_ident.specs.declared.names.Name.TheVariants as name
use Rattle.board_core.specs.Core.{contents_of}
use Rattle.board_threads.specs.Waiting.{IsChosenOf}
use Rattle.board_threads.proofs.CandidateLemmas.{chosen_loaded, chosen_ready}
use Rattle.board_threads.proofs.IdentLemmas.{loaded_if}
use Rattle.board_threads.proofs.checkouts.checkout.Goals as goal

pub ticket_of-ticket-requires-clause-loaded : goal.ticket_of-ticket-requires-clause-loaded
ticket_of-ticket-requires-clause-loaded c = chosen_loaded c.args.core.now c.in_ok-next.next.no c.in_ok-next.ensures.chosen

pub check_out-requires-clause-loaded : goal.check_out-requires-clause-loaded
check_out-requires-clause-loaded c = loaded_if (contents_of c.args.core.now) (name.Thread c.in_ok-next.next.no) (chosen_loaded c.args.core.now c.in_ok-next.next.no c.in_ok-next.ensures.chosen)

pub check_out-requires-clause-ready : goal.check_out-requires-clause-ready
check_out-requires-clause-ready c = chosen_ready c.args.core.now c.in_ok-next.next.no c.in_ok-next.ensures.chosen

pub returns-clause-chosen : goal.returns-clause-chosen
returns-clause-chosen c = subst (IsChosenOf c.args.core.now) (sym c.ticket_of-ticket.ensures.no) c.in_ok-next.ensures.chosen
