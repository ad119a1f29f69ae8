use Rattle.std.proofs.Common.{sym, ◌∙◌, arith, length-drop}
use Rattle.std.proofs.lemmas.Bool.{eqb-true}
use Rattle.text_fields.proofs.Fronts.{none_left, divided, undivided, shorter, some_left}
use Rattle.text_fields.proofs.fields.next_field.Goals as goal

pub returns-then-is_empty-clause-is : goal.returns-then-is_empty-clause-is
returns-then-is_empty-clause-is c = none_left c.args.bytes.now c.skip_spaces-rest.result.now c.skip_spaces-rest.ensures (eqb-true _ _ (sym c.is_empty.ensures ∙ c.if-is_empty.true))

pub returns-in-Some-clause-is : goal.returns-in-Some-clause-is
returns-in-Some-clause-is c =
    divided c.args.bytes.now c.skip_spaces-rest.result.now c.in-Some.at c.around.result.0.now c.around.result.1.now c.skip_spaces-rest.ensures (some_left _ (sym c.is_empty.ensures ∙ c.if-is_empty.false)) c.in-Some.ensures.is c.in-Some.ensures.within c.around.ensures.before c.around.ensures.behind

pub returns-in-Some-clause-shorter : goal.returns-in-Some-clause-shorter
returns-in-Some-clause-shorter c =
    rw c.around.ensures.behind (rw length-drop (omega (arith, shorter c.args.bytes.now c.skip_spaces-rest.result.now c.skip_spaces-rest.ensures, c.in-Some.ensures.within)))

pub returns-in-None-clause-is : goal.returns-in-None-clause-is
returns-in-None-clause-is c = undivided c.args.bytes.now c.skip_spaces-rest.result.now c.skip_spaces-rest.ensures (some_left _ (sym c.is_empty.ensures ∙ c.if-is_empty.false)) c.in-None.ensures.is

pub returns-in-None-clause-shorter : goal.returns-in-None-clause-shorter
returns-in-None-clause-shorter c =
    omega (arith, shorter c.args.bytes.now c.skip_spaces-rest.result.now c.skip_spaces-rest.ensures, some_left _ (sym c.is_empty.ensures ∙ c.if-is_empty.false))
