use Rattle.board_turns.proofs.Told.{serve_completes_if, serve_rests}
use Rattle.board_turns.proofs.turns.ask_owners.Goals as goal

pub returns-clause-rests : goal.returns-clause-rests
returns-clause-rests g c =
    serve_rests (g.P.Port.board c.args.port.now) (g.P.Port.board c.serve-served.new.port) c.args.owners.now c.serve-served.new.owners c.args.thread c.args.notice c.serve-served.result
    (g.met.P.Port.tells c.args.port.now c.serve-served.new.port c.serve-served.ensures.followed) c.serve-served.ensures.told

pub returns-clause-completed : goal.returns-clause-completed
returns-clause-completed g c =
    serve_completes_if (g.P.Port.board c.args.port.now) (g.P.Port.board c.serve-served.new.port) c.args.owners.now c.serve-served.new.owners c.args.thread c.args.notice c.serve-served.result
    (g.met.P.Port.tells c.args.port.now c.serve-served.new.port c.serve-served.ensures.followed) c.serve-served.ensures.told c.unless_wanting.result c.unless_wanting.ensures
