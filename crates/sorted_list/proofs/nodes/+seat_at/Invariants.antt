use Rattle.sorted_list.proofs.nodes.+seat_at.Given as goal

abbrev pub decreases-seat_at : goal.decreases-seat_at
decreases-seat_at g l = l.branch.count
