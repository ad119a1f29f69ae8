use Rattle.std.proofs.Common.{◌≡◌, ◌-◌, ◌≤◌, length, vec_capacity}
use Rattle.depend_lists.specs.Pairs.{count_of, IsProper}
use Rattle.writeback_order.specs.Gathering.{HasChildrenOf, IsGathered, IsMarked}
use Rattle.writeback_order.proofs.GatherLemmas.{HasChildrenBefore}
use Rattle.writeback_order.proofs.gathering.gather.Given as goal

-- the children of the root and of the nodes before this one are there
abbrev pub invariant-loop-next : goal.invariant-loop-next
invariant-loop-next l = record {
  proper : IsProper l.depends;
  gathered : IsGathered l.depends.pairs l.root l.nodes.items;
  marked : IsMarked l.depends.pairs l.nodes.items l.marks;
  of_root : HasChildrenOf l.depends.pairs l.root l.root l.nodes.items;
  of_nodes : HasChildrenBefore l.depends.pairs l.root l.nodes.items l.next;
  few : length l.nodes.items ≤ count_of l.depends.caps;
  capacity : vec_capacity l.nodes ≡ vec_capacity l.fn.nodes;
}

-- no more is gathered than the capacities allow
abbrev pub decreases-loop-next : goal.decreases-loop-next
decreases-loop-next l = count_of l.depends.caps - l.next
