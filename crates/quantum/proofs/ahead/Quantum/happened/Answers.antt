use Rattle.std.proofs.Common.{None, ap, ◌∙◌}
use Rattle.page_views.specs.Views.{Table}
use Rattle.quantum.specs.Ahead.{happened}
use Rattle.quantum.proofs.Making.{made_begun}
use Rattle.quantum.proofs.ahead.Quantum.happened.Goals as goal

pub invariant_of-self : goal.invariant_of-self
invariant_of-self c = rw c.happened.ensures (made_begun c.self.inside.context _ _ c.self.invariant.aligned)

pub returns : goal.returns
returns c =
    let q = c.self.inside in
    ap (λ (t : Table). record { first = q.context; context = q.context; most = t.most; views = t.views; kept = t.kept; steps = 0; paused = None }) c.happened.ensures
    ∙ ap (happened c.args.place) c.self.view_is
