use Rattle.sorted_list.proofs.FixedLemmas.{items_are}
use Rattle.sorted_list.proofs.fixed.FixedList.count_before.Goals as goal

pub returns : goal.returns
returns g c =
    let s = c.self.invariant.0 in
    let found = items_are c.self.inside.nodes.items c.self.inside.root s.tree s.stands in
    let parted = rw (← c.self.view_is, found) at c.requires in
    let counted = rw c.deref.ensures.value at c.count_before.ensures.found in
    rw (← c.self.view_is, found) (counted s.tree s.stands parted)
