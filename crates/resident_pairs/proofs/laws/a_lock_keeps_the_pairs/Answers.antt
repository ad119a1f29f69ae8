use Rattle.resident_pairs.proofs.Staying.{lock_keeps}
use Rattle.resident_pairs.proofs.laws.a_lock_keeps_the_pairs.Goals as goal

pub returns : goal.returns
returns c = λ s rs pairs ident locked are. lock_keeps s rs pairs ident locked are
