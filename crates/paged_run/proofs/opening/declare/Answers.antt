use Rattle.std.proofs.Common.{refl}
use Rattle.paged_run.proofs.opening.declare.Goals as goal

pub returns-clause-adds : goal.returns-clause-adds
returns-clause-adds g c = record {
  makes = c.in_ok-make.ensures.makes;
  entries = c.in_ok-push.ensures.ok;
  machine = c.in_ok-make.ensures.machine;
  quantum = refl;
  order = refl;
  steps = refl;
}
