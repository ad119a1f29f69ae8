use Rattle.sorted_list.proofs.nodes.+insert.Given as goal

abbrev pub decreases-insert : goal.decreases-insert
decreases-insert g l = l.branch.count
