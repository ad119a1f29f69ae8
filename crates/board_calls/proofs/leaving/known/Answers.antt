use Rattle.std.proofs.Common.{Some}
use Rattle.board_calls.proofs.RowLaws.{good_shown}
use Rattle.board_calls.proofs.leaving.known.Goals as goal

pub returns-clause-good : goal.returns-clause-good
returns-clause-good c = good_shown (Some c.args.machine.now.machine) c.args.machine.now.memory c.args.machine.now.held.contents c.tables_are_sound.ensures.sound.1.whole.good
