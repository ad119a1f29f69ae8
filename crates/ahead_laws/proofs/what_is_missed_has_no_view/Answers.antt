use Rattle.ahead_laws.proofs.Missed.{missed_unseen}
use Rattle.ahead_laws.proofs.what_is_missed_has_no_view.Goals as goal

pub returns : goal.returns
returns c = λ context views va access missed. missed_unseen context views va access missed
