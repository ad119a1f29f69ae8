use Rattle.std.proofs.Common.{◌≡◌, vec_capacity}
use Rattle.writeback_order.proofs.GatherLemmas.{HasCome}
use Rattle.writeback_order.proofs.gathering.gather_children.Given as goal

-- the children before this one are there
abbrev pub invariant-loop-child : goal.invariant-loop-child
invariant-loop-child l = record {
  come : HasCome l.depends.pairs l.root l.fn.nodes.items l.nodes.items l.marks l.yielded;
  capacity : vec_capacity l.nodes ≡ vec_capacity l.fn.nodes;
}
