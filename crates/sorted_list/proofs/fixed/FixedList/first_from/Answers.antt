use Rattle.sorted_list.proofs.FixedLemmas.{items_are}
use Rattle.sorted_list.proofs.fixed.FixedList.first_from.Goals as goal

pub returns : goal.returns
returns g c =
    let s = c.self.invariant.0 in
    let found = items_are c.self.inside.nodes.items c.self.inside.root s.tree s.stands in
    let parted = rw (← c.self.view_is, found) at c.requires in
    let first = rw c.deref.ensures.value at c.first_from.ensures in
    rw (← c.self.view_is, found) (first s.tree s.stands parted)
