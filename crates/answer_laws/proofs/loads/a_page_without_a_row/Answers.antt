use Rattle.answer_laws.proofs.LoadAnswers.{no_row_answers}
use Rattle.answer_laws.proofs.loads.a_page_without_a_row.Goals as goal

pub returns : goal.returns
returns c = no_row_answers
