use Rattle.cache_board.proofs.DriveLaws.{kept}
use Rattle.cache_board.proofs.driving.answer_to.Goals as goal

pub returns-clause-views : goal.returns-clause-views
returns-clause-views c = kept c.args.board.now c.perform-answer.new.board c.args.desk.now c.perform-answer.new.desk c.requires.views c.perform-answer.result c.args.op.now c.perform-answer.ensures
