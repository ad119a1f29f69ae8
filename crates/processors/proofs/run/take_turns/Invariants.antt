use Rattle.alone_run.specs.board_commits.specs.Tickets.{AreAllAsOf}
use Rattle.alone_run.specs.board_turns.specs.Holds.{IsReadyFor}
use Rattle.processors.proofs.run.take_turns.Given as goal

abbrev pub invariant-turns : goal.invariant-turns
invariant-turns g l = record {
  so : g.P.Processor.is_so l.port l.found;
  ready : IsReadyFor (g.P.Processor.seen l.port) l.quantum l.found;
  kept : AreAllAsOf (g.P.Processor.seen l.port) l.quantum;
  continued : g.P.Processor.continues l.fn.port l.port;
}
