use Rattle.std.specs.Prelude.{IfSome, IfNone}
use Rattle.paged_steps.specs.Orders.{AllHeld, IsCandidate}
use Rattle.paged_steps.proofs.order.Order.first.Given as goal

abbrev pub invariant-loop-at : goal.invariant-loop-at
invariant-loop-at l = record {
  some : IfSome l.best (λ c. IsCandidate l.tables l.self.held.items c.no.0);
  none : IfNone l.best (AllHeld l.tables l.self.held.items l.at);
}
