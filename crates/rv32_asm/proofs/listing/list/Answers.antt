use Rattle.std.proofs.Common.{arith}
use Rattle.rv32_asm.proofs.Listed.{again}
use Rattle.rv32_asm.proofs.listing.list.Goals as goal

pub returns-clause-again : goal.returns-clause-again
returns-clause-again c = again c.lines.result c.args.words.now (λ i. omega (arith, c.type_inv.words i)) c.lines.ensures
