use Rattle.answer_laws.proofs.LoadAnswers.{kernel_answers, kernel_right}
use Rattle.answer_laws.proofs.loads.a_kernel_is_loaded.Goals as goal

pub returns : goal.returns
returns c = record { answer = kernel_answers; right = kernel_right }
