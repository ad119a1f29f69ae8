use Rattle.std.proofs.Common.{refl, inl, inr}
use Rattle.paged_steps.proofs.order.Order.grow.Goals as goal

pub returns-then-has_room-clause-known : goal.returns-then-has_room-clause-known
returns-then-has_room-clause-known c = inl (refl, refl)

pub returns-clause-known : goal.returns-clause-known
returns-clause-known c = inr c.forget.ensures.none
