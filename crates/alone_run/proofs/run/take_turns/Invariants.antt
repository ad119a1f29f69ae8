use Rattle.std.proofs.Common.{◌≡◌}
use Rattle.board_turns.specs.board_commits.specs.Tickets.{AreAllAsOf}
use Rattle.board_turns.specs.Holds.{IsReadyFor}
use Rattle.board_turns.specs.Looks.{IsSoAlone}
use Rattle.board_turns.specs.Paces.{beat_of}
use Rattle.board_turns.specs.Turning.{turns_left, HasGrown, IsNext}
use Rattle.alone_run.proofs.run.take_turns.Given as goal

abbrev pub invariant-turns : goal.invariant-turns
invariant-turns l = record {
  same : l.port.board.ghost_name ≡ l.fn.port.board.ghost_name;
  grown : HasGrown l.fn.port.board.now l.fn.port.brought l.port.board.now l.port.brought;
  next : IsNext l.port.board.now l.owners (beat_of l.pace) l.found;
  so : IsSoAlone l.port.board.now l.found;
  ready : IsReadyFor l.port.board.now.journal.entries l.quantum l.found;
  kept : AreAllAsOf l.port.board.now.journal.entries l.quantum;
}

abbrev pub decreases-turns : goal.decreases-turns
decreases-turns l = turns_left l.port.board.now (beat_of l.pace)
