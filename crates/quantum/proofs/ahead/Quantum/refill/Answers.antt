use Rattle.quantum.specs.Ahead.{Ahead}
use Rattle.quantum.proofs.Making.{made_again, refilled_so, reordered_so}
use Rattle.quantum.proofs.ahead.Quantum.refill.Goals as goal

pub invariant_of-self : goal.invariant_of-self
invariant_of-self c =
    let q = c.self.inside in
    let a : Ahead = record { first = q.first; context = q.context; most = q.views.most; views = q.views.views; kept = q.views.kept; steps = q.steps; paused = q.paused } in
    made_again a c.args.vpn c.args.frame c.args.flags c.args.row c.args.since c.refill.new.self c.refill.result c.refill.ensures.refilled c.refill.ensures.not c.self.invariant (rw (← c.self.view_is) at c.requires.room)

pub returns-clause-refilled : goal.returns-clause-refilled
returns-clause-refilled c =
    let q = c.self.inside in
    let a : Ahead = record { first = q.first; context = q.context; most = q.views.most; views = q.views.views; kept = q.views.kept; steps = q.steps; paused = q.paused } in
    refilled_so a c.args.vpn c.args.frame c.args.flags c.args.row c.args.since c.refill.new.self c.refill.result c.refill.ensures.refilled c.args.self.now c.self.view_is

pub returns-clause-not : goal.returns-clause-not
returns-clause-not c =
    let q = c.self.inside in
    let a : Ahead = record { first = q.first; context = q.context; most = q.views.most; views = q.views.views; kept = q.views.kept; steps = q.steps; paused = q.paused } in
    reordered_so a c.args.vpn c.args.frame c.args.flags c.args.row c.args.since c.refill.new.self c.refill.result c.refill.ensures.not c.args.self.now c.self.view_is
