use Rattle.std.proofs.Common.{ap}
use Rattle.sorted_list.specs.Fixed.{Fixed}
use Rattle.sorted_list.specs.Sorted.{by_parts}
use Rattle.sorted_list.proofs.RisingLemmas.{by_parts_total}
use Rattle.sorted_list.proofs.SortedLemmas.{falls, proper_removed, there_at}
use Rattle.sorted_list.proofs.sorted.SortedList.remove.Goals as goal

pub count_before-place-requires : goal.count_before-place-requires
count_before-place-requires g c = falls (by_parts g.K.Ord.cmp g.V.Ord.cmp) (by_parts_total g.met.K.Ord.total g.met.V.Ord.total) c.self.inside.list.items c.self.invariant.rising (c.args.key, c.args.value)

pub remove-requires : goal.remove-requires
remove-requires g c =
    let there = rw (← c.self.view_is) at c.requires in
    (there_at g.K.Ord.cmp g.met.K.Ord.total g.V.Ord.cmp g.met.V.Ord.total c.self.inside.list c.self.invariant (c.args.key, c.args.value) c.count_before-place.result c.count_before-place.ensures there).0

pub invariant_of-self : goal.invariant_of-self
invariant_of-self g c =
    let there = rw (← c.self.view_is) at c.requires in
    proper_removed g.K.Ord.cmp g.met.K.Ord.total g.V.Ord.cmp g.met.V.Ord.total c.self.inside.list c.self.invariant (c.args.key, c.args.value) c.count_before-place.result c.count_before-place.ensures c.remove.new.self c.remove.ensures there

pub returns-clause-entries : goal.returns-clause-entries
returns-clause-entries g c =
    let there = rw (← c.self.view_is) at c.requires in
    let at = there_at g.K.Ord.cmp g.met.K.Ord.total g.V.Ord.cmp g.met.V.Ord.total c.self.inside.list c.self.invariant (c.args.key, c.args.value) c.count_before-place.result c.count_before-place.ensures there in
    rw (← c.self.view_is) (c.count_before-place.result, at.0, at.1, ap (λ (list : Fixed (g.row.K.Denot × g.row.V.Denot)). list.items) c.remove.ensures)

pub returns-clause-proper : goal.returns-clause-proper
returns-clause-proper g c =
    let there = rw (← c.self.view_is) at c.requires in
    proper_removed g.K.Ord.cmp g.met.K.Ord.total g.V.Ord.cmp g.met.V.Ord.total c.self.inside.list c.self.invariant (c.args.key, c.args.value) c.count_before-place.result c.count_before-place.ensures c.remove.new.self c.remove.ensures there
