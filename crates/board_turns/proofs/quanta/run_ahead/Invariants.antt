use Rattle.std.proofs.Common.{◌≡◌, ◌≤◌}
use Rattle.cache_board.specs.board_commits.specs.Tickets.{AreOfTicket}
use Rattle.board_turns.proofs.quanta.run_ahead.Given as goal

abbrev pub invariant-loop : goal.invariant-loop
invariant-loop g l = record {
  views : AreOfTicket (g.P.Processor.seen l.port) l.ticket.thread l.quantum;
  few : l.quantum.steps ≤ l.limit;
  same : g.P.Port.board l.port ≡ g.P.Port.board l.fn.port;
  continued : g.P.Processor.continues l.fn.port l.port;
}
