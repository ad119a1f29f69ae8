use Rattle.flat_machine.proofs.changes.carry_out_of.Goals as goal

pub returns-clause-ok : goal.returns-clause-ok
returns-clause-ok c = c.in_ok-carry_out.ensures.ok c.args.thread.now.space c.args.thread.now.priority
