use Rattle.std.proofs.Common.{length, sym, ◌∙◌, ap}
use Rattle.sorted_list.proofs.FixedLemmas.{items_are}
use Rattle.sorted_list.proofs.TreeLemmas.{counts}
use Rattle.sorted_list.proofs.fixed.FixedList.len.Goals as goal

pub returns : goal.returns
returns g c =
    let s = c.self.invariant.0 in
    rw (← c.self.view_is) (counts c.self.inside.nodes.items c.self.inside.root s.tree s.stands ∙ sym (ap length (items_are c.self.inside.nodes.items c.self.inside.root s.tree s.stands)))
