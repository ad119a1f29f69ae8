use Rattle.quantum.proofs.Making.{made_begun}
use Rattle.quantum.proofs.ahead.Quantum.begin.Goals as goal

pub invariant_of-self : goal.invariant_of-self
invariant_of-self c = rw c.clear.ensures (made_begun c.args.context _ _ c.requires)
