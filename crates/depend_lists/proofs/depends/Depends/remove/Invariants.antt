use Rattle.std.proofs.Common.{◌≡◌, length}
use Rattle.depend_lists.specs.Pairs.{without}
use Rattle.depend_lists.proofs.depends.Depends.remove.Given as goal

-- the pairs of other children stay
abbrev pub invariant-loop-parent : goal.invariant-loop-parent
invariant-loop-parent l = (l.self.caps ≡ l.initial.self.caps) × (without l.self.pairs l.child ≡ without l.initial.self.pairs l.child)

abbrev pub decreases-loop-parent : goal.decreases-loop-parent
decreases-loop-parent l = length l.self.pairs
