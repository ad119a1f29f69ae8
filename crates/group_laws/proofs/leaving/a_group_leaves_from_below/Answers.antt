use Rattle.group_laws.proofs.FromBelow.{group_leaves, group_leaves_good, leave_once}
use Rattle.group_laws.proofs.leaving.a_group_leaves_from_below.Goals as goal

pub returns-clause-next : goal.returns-clause-next
returns-clause-next c = λ s rs pairs root nodes done todo n agreed single one are there order all. group_leaves s rs pairs root nodes done todo n agreed single one are there order all

pub returns-clause-good : goal.returns-clause-good
returns-clause-good c = λ s rs pairs root nodes done todo agreed single one are there order all good. group_leaves_good s rs pairs root nodes done todo agreed single one are there order all good

pub returns-clause-apart : goal.returns-clause-apart
returns-clause-apart c = λ s rs pairs root nodes one are order. leave_once s rs pairs one are root nodes order
