use Rattle.ahead_laws.proofs.Missed.{missed_faults}
use Rattle.ahead_laws.proofs.what_is_missed_faults.Goals as goal

pub returns : goal.returns
returns c = λ s n t views va access here ready shows missed lost. missed_faults s n t views va access here ready shows missed lost
