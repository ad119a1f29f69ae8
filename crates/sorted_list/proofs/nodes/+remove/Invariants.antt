use Rattle.sorted_list.proofs.nodes.+remove.Given as goal

abbrev pub decreases-remove : goal.decreases-remove
decreases-remove g l = l.branch.count
