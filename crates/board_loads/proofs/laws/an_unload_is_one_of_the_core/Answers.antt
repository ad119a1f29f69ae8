use Rattle.board_loads.proofs.HoldLaws.{core_unload}
use Rattle.board_loads.proofs.laws.an_unload_is_one_of_the_core.Goals as goal

pub returns : goal.returns
returns c = core_unload
