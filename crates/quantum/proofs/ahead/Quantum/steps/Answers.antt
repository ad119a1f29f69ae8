use Rattle.std.proofs.Common.{subst}
use Rattle.quantum.specs.LocalRun.{IsLocalRun}
use Rattle.quantum.proofs.Committing.{local_run}
use Rattle.quantum.proofs.ahead.Quantum.steps.Goals as goal

pub returns-clause-local_run : goal.returns-clause-local_run
returns-clause-local_run c = subst IsLocalRun c.self.view_is (local_run _ c.self.invariant)
