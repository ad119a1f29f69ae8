use Rattle.std.proofs.Common.{◌≡◌, ◌+◌, true, Some, slice_get}
use Rattle.ready_queue.specs.declared.Candidate.{Candidate}
use Rattle.flat_state.specs.declared.records.FlatThread.{FlatThread}
use Rattle.flat_state.specs.State.{is_ready}
use Rattle.paged_steps.specs.Orders.{AllHeld, IsCandidate}
use Rattle.paged_steps.proofs.Orders.{all_more, keeps_none, keeps_some, then_none}
use Rattle.paged_steps.proofs.order.Order.first.Goals as goal

pub loop-at-preserved : goal.loop-at-preserved
loop-at-preserved c =
    let tables = c.args.tables.now in
    let held = c.args.self.now.held.items in
    let i = c.loop-at.at in
    let P = λ (x : Candidate). IsCandidate tables held x.no.0 in
    record {
      some = keeps_some P c.loop-at.best c.waiting.result c.better-best.result c.better-best.ensures.one c.loop-at.invariant.some c.waiting.ensures.some;
      none = then_none c.better-best.result _ (AllHeld tables held (i + 1)) (λ both. all_more tables held i both.0 both.1)
          (keeps_none c.loop-at.best c.waiting.result c.better-best.result (AllHeld tables held i) ((t : FlatThread) → slice_get tables.threads i ≡ Some t → is_ready t.status ≡ true → slice_get held i ≡ Some true) c.better-best.ensures.none c.loop-at.invariant.none c.waiting.ensures.none);
    }
