use Rattle.std.proofs.Common.{◌≡◌}
use Rattle.worked_board.proofs.machines.declare_each.Given as goal

abbrev pub invariant-loop-decl : goal.invariant-loop-decl
invariant-loop-decl l = l.board.limit ≡ l.initial.board.limit
