-- The word of a call is an instruction.
use Rattle.std.proofs.Common.{refl}
use Rattle.rv32_isa.specs.Table.{word_of, IsValid}
use Rattle.rv32_isa.specs.declared.forms.Instr.TheVariants.{Ecall}
use Rattle.rv32_exec.proofs.lines.Line.first.Goals as goal

pub unreachable-requires : goal.unreachable-requires
unfolding word_of IsValid
unreachable-requires c = (rw c.in-None.is at c.decode.ensures.none) Ecall tt refl
