use Rattle.left_laws.proofs.Falling.{completion_left}
use Rattle.left_laws.proofs.boards.a_completion_leaves_less.Goals as goal

pub returns : goal.returns
returns c = completion_left
