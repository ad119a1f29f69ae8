use Rattle.std.proofs.Common.{Bool, refl, subst, inl, inr}
use Rattle.std.specs.Bool.{OnTrue}
use Rattle.paged_steps.specs.Knowing.{AreSpared}
use Rattle.paged_steps.proofs.order.Order.pass.Goals as goal

pub returns-then-spares-clause-known : goal.returns-then-spares-clause-known
returns-then-spares-clause-known c = inl ((refl, refl), subst (λ (b : Bool). OnTrue b (AreSpared c.args.self.now.watched.items c.args.quantum.now)) c.if-spares.true c.spares.ensures)

pub returns-clause-known : goal.returns-clause-known
returns-clause-known c = inr c.forget.ensures.none
