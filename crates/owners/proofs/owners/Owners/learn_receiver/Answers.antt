use Rattle.owners.proofs.Hearing.{receiver_learnt}
use Rattle.owners.proofs.owners.Owners.learn_receiver.Goals as goal

pub returns-in_ok-insert-in-Some-clause-ok : goal.returns-in_ok-insert-in-Some-clause-ok
returns-in_ok-insert-in-Some-clause-ok c =
    let updates = c.in_ok-insert-in-Some.ensures.updates in
    rw c.in-Some.is (receiver_learnt _ c.args.self.now c.insert.new.self.entries (c.args.space, c.args.vpn) _ c.self.view_is updates.1 updates.2)

pub returns-in-None-clause-ok : goal.returns-in-None-clause-ok
returns-in-None-clause-ok c =
    let updates = c.swap_remove.ensures.updates in
    rw c.in-None.is (receiver_learnt _ c.args.self.now c.swap_remove.new.self.entries (c.args.space, c.args.vpn) _ c.self.view_is updates.1 updates.2)
