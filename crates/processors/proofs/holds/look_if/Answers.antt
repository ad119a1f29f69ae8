use Rattle.alone_run.specs.board_turns.proofs.Looking.{event_nothing}
use Rattle.processors.proofs.holds.look_if.Goals as goal

pub returns-in-None-clause-event : goal.returns-in-None-clause-event
returns-in-None-clause-event c = event_nothing c.args.cpu c.args.board.now c.holds.ensures.sound
