use Rattle.std.proofs.Common.{Some}
use Rattle.quantum.specs.Ahead.{Ahead}
use Rattle.quantum.proofs.Making.{made_filled}
use Rattle.quantum.proofs.ahead.Quantum.fill_as_of.Goals as goal

pub invariant_of-self : goal.invariant_of-self
invariant_of-self c =
    let q = c.self.inside in
    let a : Ahead = record { first = q.first; context = q.context; most = q.views.most; views = q.views.views; kept = q.views.kept; steps = q.steps; paused = q.paused } in
    rw c.fill_as_of.ensures (made_filled a c.args.vpn c.args.frame c.args.flags c.args.row c.args.bytes.now (Some c.args.place) c.self.invariant (rw (← c.self.view_is) at c.requires.room))
