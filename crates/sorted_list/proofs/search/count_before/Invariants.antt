use Rattle.sorted_list.specs.Trees.{Tree, Stands}
use Rattle.sorted_list.proofs.DownLemmas.{IsCounting}
use Rattle.sorted_list.proofs.search.count_before.Given as goal

-- what was passed is counted, and the others stand in what is left
abbrev pub invariant-loop-left : goal.invariant-loop-left
invariant-loop-left g l = (tree : Tree g.row.T.Denot) → Stands l.nodes l.fn.branch tree → IsCounting l.nodes (g.C.Cut.is_behind_of l.cut) l.fn.branch tree l.left l.passed

abbrev pub decreases-loop-left : goal.decreases-loop-left
decreases-loop-left g l = l.left.count
