use Rattle.rv32_asm.proofs.Lines.{first_some, first_none}
use Rattle.rv32_asm.proofs.labels.next_line.Goals as goal

pub returns-in-Some-clause-first : goal.returns-in-Some-clause-first
returns-in-Some-clause-first c = (first_some c.args.bytes.now c.in-Some.line.now c.in-Some.rest.now c.requires c.in-Some.ensures).0

pub returns-in-Some-clause-shorter : goal.returns-in-Some-clause-shorter
returns-in-Some-clause-shorter c = (first_some c.args.bytes.now c.in-Some.line.now c.in-Some.rest.now c.requires c.in-Some.ensures).1

pub returns-in-None-clause-first : goal.returns-in-None-clause-first
returns-in-None-clause-first c = first_none c.args.bytes.now c.requires c.in-None.ensures
