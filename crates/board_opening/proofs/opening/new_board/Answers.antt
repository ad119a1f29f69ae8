use Rattle.board_opening.proofs.Declaring.{machine_only_memory, new_so}
use Rattle.board_opening.proofs.opening.new_board.Goals as goal

pub answered-requires : goal.answered-requires
answered-requires c = machine_only_memory c.new-made.result c.args.machine c.requires c.new-made.ensures.refused

pub returns : goal.returns
returns c = new_so c.new-made.result c.in_ok-board.board c.args.machine c.args.steps c.in_ok-board.ensures c.new-made.ensures.entries c.new-made.ensures.begins c.holds.ensures.sound
