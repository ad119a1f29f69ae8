use Rattle.std.proofs.Common.{◌++◌, ◌∷◌, [], List, IsOk, append_assoc, append-nil, refl, sym, ap, subst, take_all, ◌∙◌, arith}
use Rattle.board_core.specs.board_ops.specs.declared.answers.Answer.{Answer}
use Rattle.board_core.specs.board_ops.specs.declared.ops.Op.{Op}
use Rattle.cache_board.specs.Drive.{AreAnswered}
use Rattle.cache_board.proofs.DriveLaws.{one_at, pushed, room_first}
use Rattle.cache_board.proofs.driving.drive.Goals as goal

pub loop-op-init : goal.loop-op-init
loop-op-init c = record {
  answered = ([], sym (append-nil _), (refl, refl, refl));
  views = c.requires.views;
  room = room_first _ _ _ c.in_ok-reserve.ensures.ok;
}

pub answer_to-answer-requires : goal.answer_to-answer-requires
answer_to-answer-requires c = record { views = c.loop-op.invariant.views }

pub loop-op-preserved : goal.loop-op-preserved
loop-op-preserved c =
    let before = c.loop-op.invariant.answered in
    let answer = c.answer_to-answer.result in
    let ok : IsOk c.push.result = c.push.ensures.succeeds (omega arith) in
    let more = pushed c.push.result c.loop-op.answers.items c.push.new.self.items answer ok c.push.ensures.items in
    record {
      answered = (
        before.0 ++ answer ∷ [],
        more ∙ ap (λ (xs : List Answer). xs ++ answer ∷ []) before.1 ∙ append_assoc _ before.0 (answer ∷ []),
        one_at c.args.ops.now c.loop-op.op-index _ c.args.board.now c.args.desk.now before.0 c.loop-op.board c.loop-op.desk answer c.answer_to-answer.new.board c.answer_to-answer.new.desk
            c.loop-op-test.true before.2 c.answer_to-answer.ensures.answered,
      );
      views = c.answer_to-answer.ensures.views;
      room = omega arith;
    }

pub returns-clause-answered : goal.returns-clause-answered
returns-clause-answered c =
    let given = c.loop-op.invariant.answered in
    let all = take_all c.loop-op.op-index c.args.ops.now c.loop-op-test.false in (
      given.0,
      given.1 ∙ ap (λ (xs : List Answer). xs ++ given.0) c.reserve.ensures.items,
      subst (λ (xs : List Op). AreAnswered xs c.args.board.now c.args.desk.now given.0 c.loop-op.board c.loop-op.desk) all given.2,
    )

pub returns-clause-views : goal.returns-clause-views
returns-clause-views c = c.loop-op.invariant.views
