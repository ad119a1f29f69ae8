use Rattle.board_turns.proofs.Later.{kept_later}
use Rattle.board_turns.proofs.turns.take.Goals as goal

pub returns-in_err-bring-clause-kept : goal.returns-in_err-bring-clause-kept
returns-in_err-bring-clause-kept g c =
    let before = c.args.port.now in
    let after = c.bring.new.port in
    kept_later (g.P.Processor.seen before) (g.P.Processor.seen after) c.args.quantum.now (g.met.P.Processor.grows before after c.bring.ensures.continued) c.requires.kept

pub returns-in_ok-bring-clause-kept : goal.returns-in_ok-bring-clause-kept
returns-in_ok-bring-clause-kept g c =
    let before = c.args.port.now in
    let after = c.bring.new.port in
    kept_later (g.P.Processor.seen before) (g.P.Processor.seen after) c.args.quantum.now (g.met.P.Processor.grows before after c.bring.ensures.continued) c.requires.kept
