use Rattle.writeback_order.proofs.OrderLemmas.{order_is_one}
use Rattle.writeback_order.proofs.scratches.one_order.Goals as goal

pub returns : goal.returns
returns c = order_is_one
