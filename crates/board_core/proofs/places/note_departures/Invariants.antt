use Rattle.std.proofs.Common.{◌≡◌, ◌+◌, ◌≤◌, ◌++◌, take}
use Rattle.cached_machine.specs.board_laws.specs.Moves.{written_back}
use Rattle.board_core.proofs.places.note_departures.Given as goal

abbrev pub invariant-loop-left : goal.invariant-loop-left
invariant-loop-left l = record {
  entries : l.journal.entries ≡ l.initial.journal.entries ++ written_back l.cpu (take l.left-index l.gone);
  spare : l.initial.journal.spare ≤ l.journal.spare + l.left-index;
}
