use Rattle.owner_laws.proofs.Receivers.{is_receiver}
use Rattle.owner_laws.proofs.learning.a_receiver_that_is_told_may_be_learnt.Goals as goal

pub returns : goal.returns
returns c b o caller parent space vpn receiver given declared sound are noted told = is_receiver b o caller parent space vpn receiver given declared sound are noted told
