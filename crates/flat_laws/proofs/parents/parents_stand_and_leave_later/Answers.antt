use Rattle.flat_state.specs.Events.{flat}
use Rattle.flat_state.proofs.FormedEvents.{flat_formed}
use Rattle.flat_laws.proofs.ParentLaws.{parent_stands, parent_leaves_later}
use Rattle.flat_laws.proofs.parents.parents_stand_and_leave_later.Goals as goal

pub returns : goal.returns
returns c = record {
  stand = λ es child parent depends. parent_stands (flat es) (flat_formed es) child parent depends;
  later = λ es child parent depends. parent_leaves_later (flat es) (flat_formed es) child parent depends;
}
