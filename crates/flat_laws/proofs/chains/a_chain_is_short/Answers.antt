use Rattle.flat_state.specs.Events.{flat}
use Rattle.flat_state.proofs.FormedEvents.{flat_formed}
use Rattle.flat_laws.proofs.StepChains.{chain_is_few}
use Rattle.flat_laws.proofs.chains.a_chain_is_short.Goals as goal

pub returns : goal.returns
returns c = record {
  kernels = λ es n t here. (chain_is_few (flat es) (flat_formed es) n t here).kernels;
  spaces = λ es n t here. (chain_is_few (flat es) (flat_formed es) n t here).spaces;
  threads = λ es n t here. (chain_is_few (flat es) (flat_formed es) n t here).threads;
  rows = λ es n t here. (chain_is_few (flat es) (flat_formed es) n t here).rows;
}
