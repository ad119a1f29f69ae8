use Rattle.reach_laws.proofs.Telling.{told_mapped}
use Rattle.reach_laws.proofs.refusals.a_mapped_step_does_not_fault.Goals as goal

pub returns : goal.returns
returns c = told_mapped
