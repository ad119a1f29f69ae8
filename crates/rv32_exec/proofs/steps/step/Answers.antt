-- A missed step leaves everything.
use Rattle.rv32_exec.proofs.StepChanges.{missed_after}
use Rattle.rv32_exec.proofs.steps.step.Goals as goal

pub returns-clause-missed : goal.returns-clause-missed
returns-clause-missed g c = let after = c.fetch.ensures.after in missed_after _ _ _ _ _ after.context_is after.pages_are after.answer_is
