use Rattle.std.proofs.Common.{refl}
use Rattle.quantum.proofs.Making.{made_begun}
use Rattle.quantum.proofs.ahead.Quantum.forget.Goals as goal

pub invariant_of-self : goal.invariant_of-self
invariant_of-self c = rw (c.forget.ensures, c.no_context-context.ensures) (made_begun _ _ _ refl)
