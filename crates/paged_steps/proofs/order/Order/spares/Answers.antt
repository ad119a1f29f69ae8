use Rattle.std.proofs.Common.{sym, ◌∙◌}
use Rattle.paged_steps.proofs.Knowing.{spared_if}
use Rattle.paged_steps.proofs.order.Order.spares.Goals as goal

pub returns : goal.returns
returns c =
    spared_if c.leaves.result c.args.self.now.watched.items c.args.quantum.now c.views.result.now c.paused.result c.views.ensures.views c.paused.ensures (sym c.has_ended_by.ensures ∙ c.if-has_ended_by.false) c.leaves.ensures
