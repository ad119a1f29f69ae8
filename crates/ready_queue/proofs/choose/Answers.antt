use Rattle.std.proofs.Common.{sym, ◌∙◌}
use Rattle.ready_queue.proofs.Order.{contains_at, keeps_best, takes_next}
use Rattle.ready_queue.proofs.choose.Goals.{then-is_lt, else-is_lt}
use Rattle.ready_queue.proofs.choose.Goals as goal

pub loop-candidate-preserved : goal.loop-candidate-preserved
loop-candidate-preserved c = elim c.if-is_lt.branch [
  | then-is_lt w ↦ rw w.best-is (record {
    waits = contains_at _ _ _ c.loop-candidate-test.true;
    first = takes_next c.args.waiting.now c.loop-candidate.candidate-index _ c.loop-candidate.best c.loop-candidate-test.true c.loop-candidate.invariant.first (sym c.in_order.ensures ∙ sym c.is_lt.ensures ∙ w.if-is_lt.true);
  })
  | else-is_lt w ↦ rw w.best-is (record {
    waits = c.loop-candidate.invariant.waits;
    first = keeps_best c.args.waiting.now c.loop-candidate.candidate-index _ c.loop-candidate.best c.loop-candidate-test.true c.loop-candidate.invariant.first (sym c.in_order.ensures ∙ sym c.is_lt.ensures ∙ w.if-is_lt.false);
  })
]
