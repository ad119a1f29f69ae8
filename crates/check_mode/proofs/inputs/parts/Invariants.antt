use Rattle.std.proofs.Common.{length}
use Rattle.check_mode.proofs.Cuts.{IsBehind}
use Rattle.check_mode.proofs.inputs.parts.Given as goal

-- no line before the rest ends the scenario
abbrev pub invariant-loop-at : goal.invariant-loop-at
invariant-loop-at l = IsBehind l.text l.rest

abbrev pub decreases-loop-at : goal.decreases-loop-at
decreases-loop-at l = length l.rest
