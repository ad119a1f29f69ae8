use Rattle.answer_laws.proofs.Running.{somebody_waits}
use Rattle.answer_laws.proofs.turns.a_running_board_has_somebody_to_serve.Goals as goal

pub returns : goal.returns
returns c = somebody_waits
