use Rattle.std.proofs.Common.{◌≡◌, false, drop}
use Rattle.flat_state.specs.Events.{AllFit}
use Rattle.cache_board.specs.cached_machine.specs.Cached.{state_of}
use Rattle.cache_board.specs.board_core.specs.Core.{Recorded}
use Rattle.board_opening.specs.Openings.{AreDeclared}
use Rattle.board_opening.proofs.opening.declare_all.Given as goal

abbrev pub invariant-loop-decl : goal.invariant-loop-decl
invariant-loop-decl l = record {
  unsealed : l.board.sealed ≡ false;
  fit : AllFit (state_of l.board.machine) (drop l.decl-index l.decls);
  so_far : (end : Recorded) → AreDeclared (drop l.decl-index l.decls) l.board end → AreDeclared l.decls l.fn.board end;
}
