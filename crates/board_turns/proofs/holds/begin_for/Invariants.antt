use Rattle.std.proofs.Common.{◌≡◌}
use Rattle.cache_board.specs.board_commits.specs.Tickets.{AreOfTicket}
use Rattle.board_turns.proofs.holds.begin_for.Given as goal

abbrev pub invariant-loop-place : goal.invariant-loop-place
invariant-loop-place l = record {
  views : AreOfTicket l.board.journal.entries l.ticket.thread l.quantum;
  steps : l.quantum.steps ≡ 0;
}
