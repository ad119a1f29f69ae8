use Rattle.flat_state.specs.Events.{flat}
use Rattle.flat_state.proofs.FormedEvents.{flat_formed}
use Rattle.flat_laws.proofs.WholeChains.{chain_is_whole}
use Rattle.flat_laws.proofs.chains.a_chain_is_whole.Goals as goal

pub returns : goal.returns
returns c = λ es n t here child parent there depends. chain_is_whole (flat es) (flat_formed es) t child parent there depends
