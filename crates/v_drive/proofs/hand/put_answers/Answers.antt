use Rattle.std.proofs.lemmas.List.{drop_all}
use Rattle.v_drive.proofs.Taking.{cut, put_all, put_more}
use Rattle.v_drive.proofs.hand.put_answers.Goals as goal

pub loop-answer-preserved : goal.loop-answer-preserved
loop-answer-preserved c =
    put_more c.loop-answer.out.items c.put_answer.new.out.items _ _ _ _ c.loop-answer.invariant (cut c.args.answers.now c.loop-answer.answer-index _ c.loop-answer-test.true) c.in_ok-put_answer.ensures.ok

pub returns : goal.returns
returns c = put_all c.loop-answer.out.items _ _ c.loop-answer.invariant (drop_all c.loop-answer.answer-index c.args.answers.now c.loop-answer-test.false)
