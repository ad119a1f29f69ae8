use Rattle.writeback_order.proofs.MarkLemmas.{AreLeft}
use Rattle.writeback_order.proofs.gathering.unmark.Given as goal

-- the marks of the nodes from this one on are left
abbrev pub invariant-loop-node : goal.invariant-loop-node
invariant-loop-node l = AreLeft l.depends.pairs l.nodes l.node-index l.marks
