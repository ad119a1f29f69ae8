use Rattle.board_turns.proofs.Told.{heal_less_if, heal_rests}
use Rattle.board_turns.proofs.turns.heal.Goals as goal

pub returns-clause-rests : goal.returns-clause-rests
returns-clause-rests g c =
    let before = c.args.port.now in
    let after = c.leave_and_heal-healed.new.self in
    heal_rests (g.P.Port.board before) (g.P.Port.board after) (g.P.Processor.progress before) (g.P.Processor.progress after) c.args.ticket c.args.thread c.leave_and_heal-healed.result
    (g.met.P.Processor.grew before after c.leave_and_heal-healed.ensures.continued) c.leave_and_heal-healed.ensures.told

pub returns-clause-healed : goal.returns-clause-healed
returns-clause-healed g c =
    let before = c.args.port.now in
    let after = c.leave_and_heal-healed.new.self in
    heal_less_if (g.P.Port.board before) (g.P.Port.board after) (g.P.Processor.progress before) (g.P.Processor.progress after) c.args.ticket c.args.thread c.leave_and_heal-healed.result
    (g.met.P.Processor.grew before after c.leave_and_heal-healed.ensures.continued) c.leave_and_heal-healed.ensures.told c.unless_refused_memory.result c.unless_refused_memory.ensures
