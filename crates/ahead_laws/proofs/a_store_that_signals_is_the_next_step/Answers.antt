use Rattle.ahead_laws.proofs.Signals.{signal_step}
use Rattle.ahead_laws.proofs.a_store_that_signals_is_the_next_step.Goals as goal

pub returns : goal.returns
returns c = λ s n t views va value row formed here ready shows asks went aligned reaches signals room. signal_step s n t views va value row formed here ready shows asks went aligned reaches signals room
