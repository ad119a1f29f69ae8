use Rattle.std.proofs.Common.{subst}
use Rattle.quantum.specs.Ahead.{Ahead}
use Rattle.quantum.specs.LocalRun.{HaveOneContents}
use Rattle.quantum.proofs.Making.{one_contents}
use Rattle.quantum.proofs.ahead.Quantum.views.Goals as goal

pub returns-clause-one_contents : goal.returns-clause-one_contents
returns-clause-one_contents c = subst (λ (a : Ahead). HaveOneContents a.views) c.self.view_is (one_contents _ c.self.invariant)
