use Rattle.board_turns.proofs.Later.{kept_later}
use Rattle.board_turns.proofs.turns.act.Goals as goal

pub returns-in_err-ask_owners-in-Wanted-clause-kept : goal.returns-in_err-ask_owners-in-Wanted-clause-kept
returns-in_err-ask_owners-in-Wanted-clause-kept g c =
    let before = c.args.port.now in
    let after = c.ask_owners.new.port in
    kept_later (g.P.Processor.seen before) (g.P.Processor.seen after) c.args.quantum.now (g.met.P.Processor.grows before after c.ask_owners.ensures.continued) c.requires.kept

pub returns-in_ok-ask_owners-in-Wanted-clause-kept : goal.returns-in_ok-ask_owners-in-Wanted-clause-kept
returns-in_ok-ask_owners-in-Wanted-clause-kept g c =
    let before = c.args.port.now in
    let after = c.ask_owners.new.port in
    kept_later (g.P.Processor.seen before) (g.P.Processor.seen after) c.args.quantum.now (g.met.P.Processor.grows before after c.ask_owners.ensures.continued) c.requires.kept
