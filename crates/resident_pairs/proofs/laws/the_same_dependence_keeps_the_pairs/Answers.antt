use Rattle.resident_pairs.proofs.Staying.{same_keeps}
use Rattle.resident_pairs.proofs.laws.the_same_dependence_keeps_the_pairs.Goals as goal

pub returns : goal.returns
returns c = λ s t rs pairs same are. same_keeps s t rs pairs same are
