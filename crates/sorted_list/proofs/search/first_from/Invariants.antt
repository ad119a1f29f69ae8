use Rattle.std.specs.Option.{option_copied}
use Rattle.sorted_list.specs.Trees.{Tree, Stands}
use Rattle.sorted_list.proofs.DownLemmas.{IsNearing}
use Rattle.sorted_list.proofs.search.first_from.Given as goal

-- the item stands in what is left, or is the one that was met last
abbrev pub invariant-loop-left : goal.invariant-loop-left
invariant-loop-left g l = (tree : Tree g.row.T.Denot) → Stands l.nodes l.fn.branch tree → IsNearing l.nodes (g.C.Cut.is_behind_of l.cut) l.fn.branch tree l.left (option_copied l.found)

abbrev pub decreases-loop-left : goal.decreases-loop-left
decreases-loop-left g l = l.left.count
