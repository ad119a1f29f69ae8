use Rattle.answer_laws.proofs.Running.{steps_left}
use Rattle.answer_laws.proofs.turns.a_step_is_left.Goals as goal

pub returns : goal.returns
returns c = steps_left
