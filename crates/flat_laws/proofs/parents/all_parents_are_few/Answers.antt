use Rattle.flat_state.specs.Events.{flat}
use Rattle.flat_state.proofs.FormedEvents.{flat_formed}
use Rattle.flat_laws.proofs.FarParents.{is_far, far_is_there, name_is_few}
use Rattle.flat_laws.proofs.parents.all_parents_are_few.Goals as goal

pub returns : goal.returns
returns c = record {
  whole = λ es child parent. (λ there. is_far (flat es) child parent there, λ far. far_is_there (flat es) (flat_formed es) child parent far);
  kernels = λ es name. (name_is_few (flat es) (flat_formed es) name).kernels;
  spaces = λ es name. (name_is_few (flat es) (flat_formed es) name).spaces;
  threads = λ es name. (name_is_few (flat es) (flat_formed es) name).threads;
  rows = λ es name. (name_is_few (flat es) (flat_formed es) name).rows;
}
