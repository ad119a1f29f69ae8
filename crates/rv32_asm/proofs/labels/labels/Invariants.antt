use Rattle.std.proofs.Common.{length}
use Rattle.rv32_asm.specs.Labels.{marks_of}
use Rattle.rv32_asm.proofs.Marks.{Marked}
use Rattle.rv32_asm.proofs.labels.labels.Given as goal

abbrev pub invariant-loop-rest : goal.invariant-loop-rest
invariant-loop-rest l = Marked l.fn.block (marks_of l.labels) l.at l.rest

abbrev pub decreases-loop-rest : goal.decreases-loop-rest
decreases-loop-rest l = length l.rest
