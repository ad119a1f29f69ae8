use Rattle.flat_laws.proofs.EventKeeps.{event_keeps}
use Rattle.flat_laws.proofs.keeps.an_event_keeps_places.Goals as goal

pub returns : goal.returns
returns c = record {
  kernels = λ s e n k there. (event_keeps s e).kernels n k there;
  spaces = λ s e n kernel there. (event_keeps s e).spaces n kernel there;
  threads = λ s e n t there. (event_keeps s e).threads.kept n t there;
  rows = λ s e space vpn row now here there. (event_keeps s e).rows space vpn row now here there;
}
