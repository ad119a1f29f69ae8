use Rattle.std.proofs.Common.{arith}
use Rattle.alone_run.specs.board_turns.proofs.Looking.{event_nothing}
use Rattle.processors.proofs.Seeing.{so_of, so_over}
use Rattle.processors.proofs.holds.look_until.Goals as goal

pub returns-then-steps-limit-clause-so : goal.returns-then-steps-limit-clause-so
returns-then-steps-limit-clause-so c = so_over c.args.limit c.args.board.now c.holds.ensures.sound (let taken = c.if-steps-limit.true in let steps = c.steps.ensures in omega (arith, taken, steps))

pub returns-then-steps-limit-clause-event : goal.returns-then-steps-limit-clause-event
returns-then-steps-limit-clause-event c = event_nothing c.args.cpu c.args.board.now c.holds.ensures.sound

pub returns-clause-so : goal.returns-clause-so
returns-clause-so c = so_of c.args.cpu c.args.limit c.args.want_first c.args.board.now c.find.new.board c.find.new.next c.holds.ensures.sound c.find.ensures.found
