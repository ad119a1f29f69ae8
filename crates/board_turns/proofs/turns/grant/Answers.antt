use Rattle.board_turns.proofs.Told.{grown_owned, heal_alone}
use Rattle.board_turns.proofs.turns.grant.Goals as goal

pub returns-in-Healing-clause-owned : goal.returns-in-Healing-clause-owned
returns-in-Healing-clause-owned g c =
    let before = c.args.port.now in
    let after = c.heal.new.port in
    grown_owned (g.P.Port.board before) (g.P.Port.board after) (g.P.Processor.progress before) (g.P.Processor.progress after) (g.met.P.Processor.grew before after c.heal.ensures.continued) c.args.owners.now

pub returns-in-Healing-clause-rests : goal.returns-in-Healing-clause-rests
returns-in-Healing-clause-rests g c = heal_alone (g.P.Port.board c.args.port.now) (g.P.Port.board c.heal.new.port) c.args.owners.now c.heal.ensures.rests
