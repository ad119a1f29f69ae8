use Rattle.std.proofs.Common.{sym, subst}
use Rattle.alone_run.specs.quantum.specs.Ahead.{Ahead}
use Rattle.alone_run.specs.board_commits.specs.Tickets.{AreAllAsOf, AreOfTicket}
use Rattle.alone_run.specs.board_commits.proofs.CopyLaws.{of_begun}
use Rattle.alone_run.specs.board_commits.proofs.KeptLaws.{kept_unbegun}
use Rattle.worked_runs.proofs.late_tests.begin.Goals as goal

-- there is no view, and nothing is kept
pub returns : goal.returns
returns c =
    let j = c.args.board.now.journal.entries in
    let ticket = c.args.ticket.now in
    let from : Ahead = c.forget.new.self in
    subst (AreOfTicket j ticket.thread) (sym c.begin.ensures)
    (of_begun j ticket.thread ticket.context from (subst (AreAllAsOf j) (sym c.forget.ensures) (kept_unbegun j c.args.quantum.now.most)))
