use Rattle.board_loads.proofs.HoldLaws.{core_lock}
use Rattle.board_loads.proofs.laws.a_lock_is_one_of_the_core.Goals as goal

pub returns : goal.returns
returns c = core_lock
