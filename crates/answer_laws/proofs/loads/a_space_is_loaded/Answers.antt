use Rattle.answer_laws.proofs.LoadAnswers.{space_answers, space_right}
use Rattle.answer_laws.proofs.loads.a_space_is_loaded.Goals as goal

pub returns : goal.returns
returns c = record { answer = space_answers; right = space_right }
