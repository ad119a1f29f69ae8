use Rattle.std.proofs.Common.{vec_capacity, ◌≡◌, ◌-◌, length}
use Rattle.desc_groups.proofs.LeaveLemmas.{HasLeft}
use Rattle.desc_groups.proofs.departures.leave.Given as goal

abbrev pub invariant-loop-node : goal.invariant-loop-node
invariant-loop-node l =
    HasLeft l.fn.root l.fn.cause l.fn.at l.initial.pairs.order l.fn.stores l.stores l.pairs l.gone.items l.names.items l.place × (l.pairs.caps ≡ l.fn.pairs.caps) × (vec_capacity l.gone ≡ vec_capacity l.fn.gone) × (vec_capacity l.names ≡ vec_capacity l.fn.names)

abbrev pub decreases-loop-node : goal.decreases-loop-node
decreases-loop-node l = length l.initial.pairs.order - l.place
