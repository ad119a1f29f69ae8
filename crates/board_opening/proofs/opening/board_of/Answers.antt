use Rattle.board_opening.proofs.Declaring.{machine_fits}
use Rattle.board_opening.proofs.opening.board_of.Goals as goal

pub new_board-requires : goal.new_board-requires
new_board-requires c = machine_fits c.args.decls.now _ c.first_machine-machine.result c.first_machine-machine.ensures c.requires.fit
