use Rattle.std.proofs.Common.{refl}
use Rattle.page_views.specs.Views.{nothing_kept}
use Rattle.quantum.specs.Ahead.{unbegun}
use Rattle.quantum.proofs.Making.{made_begun}
use Rattle.quantum.proofs.ahead.Quantum.new.Goals as goal

pub invariant_of-result : goal.invariant_of-result
invariant_of-result c = rw (c.in_ok-new.ensures, c.no_context-context.ensures) (made_begun (unbegun 0).context c.args.most (nothing_kept c.args.most) refl)
