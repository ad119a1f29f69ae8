use Rattle.board_heal.specs.Loads.{AreLoadedTo}
use Rattle.board_heal.proofs.healing.heal_step.Given as goal

-- the names before this one are loaded
abbrev pub invariant-loop-name : goal.invariant-loop-name
invariant-loop-name l = record { way : AreLoadedTo l.cpu l.names l.name-index l.fn.core l.core }
