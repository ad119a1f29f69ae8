use Rattle.alone_run.specs.board_core.proofs.GoingLaws.{event_more}
use Rattle.processors.proofs.holds.commit.Goals as goal

pub returns-in-Taken-clause-event : goal.returns-in-Taken-clause-event
returns-in-Taken-clause-event c = event_more c.args.ticket.now.cpu c.args.board.now c.commit_steps.new.board c.look_if.new.board c.commit_steps.ensures.event c.look_if.ensures.event
