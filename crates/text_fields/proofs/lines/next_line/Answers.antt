use Rattle.text_fields.proofs.Fronts.{first_ended, first_last}
use Rattle.text_fields.proofs.lines.next_line.Goals as goal

pub returns-in-Some-clause-first : goal.returns-in-Some-clause-first
returns-in-Some-clause-first c = first_ended c.args.text.now c.in-Some.at c.around.result.0.now c.around.result.1.now c.without_return.result.now c.in-Some.ensures.is c.in-Some.ensures.within c.around.ensures.before c.around.ensures.behind c.without_return.ensures

pub returns-in-None-clause-first : goal.returns-in-None-clause-first
returns-in-None-clause-first c = first_last c.args.text.now c.in-None.ensures.is
