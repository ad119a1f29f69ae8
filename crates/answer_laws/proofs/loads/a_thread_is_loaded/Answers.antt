use Rattle.answer_laws.proofs.LoadAnswers.{thread_answers, thread_right}
use Rattle.answer_laws.proofs.loads.a_thread_is_loaded.Goals as goal

pub returns : goal.returns
returns c = record { answer = thread_answers; right = thread_right }
