use Rattle.std.proofs.Common.{length}
use Rattle.rv32_asm.specs.Labels.{marks_of}
use Rattle.rv32_asm.proofs.Words.{Stands}
use Rattle.rv32_asm.proofs.block.words.Given as goal

abbrev pub invariant-loop-rest : goal.invariant-loop-rest
invariant-loop-rest l = Stands l.fn.block l.fn.room (marks_of l.fn.labels) l.words.items l.at l.rest

abbrev pub decreases-loop-rest : goal.decreases-loop-rest
decreases-loop-rest l = length l.rest
