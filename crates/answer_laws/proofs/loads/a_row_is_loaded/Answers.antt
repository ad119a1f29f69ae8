use Rattle.answer_laws.proofs.LoadAnswers.{absent_told, fit_passes, plain_passes, row_answers, row_right, unfit_told}
use Rattle.answer_laws.proofs.loads.a_row_is_loaded.Goals as goal

pub returns : goal.returns
returns c = record { answer = row_answers; right = row_right; fit = fit_passes; unfit = unfit_told; plain = plain_passes; wanted = absent_told }
