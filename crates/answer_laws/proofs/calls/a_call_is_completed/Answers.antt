use Rattle.answer_laws.proofs.CallAnswers.{call_answers, call_right}
use Rattle.answer_laws.proofs.calls.a_call_is_completed.Goals as goal

pub returns : goal.returns
returns c = record { answer = call_answers; right = call_right }
