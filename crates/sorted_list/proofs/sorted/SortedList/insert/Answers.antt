use Rattle.std.proofs.Common.{◌≤◌, length, ap, arith}
use Rattle.std.proofs.lemmas.List.Sums.{count_by-le-length}
use Rattle.std.specs.Ordering.{is_lt}
use Rattle.sorted_list.specs.Fixed.{Fixed}
use Rattle.sorted_list.specs.Sorted.{by_parts}
use Rattle.sorted_list.proofs.RisingLemmas.{by_parts_total}
use Rattle.sorted_list.proofs.SortedLemmas.{falls, proper_inserted}
use Rattle.sorted_list.proofs.sorted.SortedList.insert.Goals as goal

pub count_before-place-requires : goal.count_before-place-requires
count_before-place-requires g c = falls (by_parts g.K.Ord.cmp g.V.Ord.cmp) (by_parts_total g.met.K.Ord.total g.met.V.Ord.total) c.self.inside.list.items c.self.invariant.rising (c.args.key, c.args.value)

pub insert-requires-clause-place : goal.insert-requires-clause-place
insert-requires-clause-place g c = omega (arith, c.count_before-place.ensures, count_by-le-length (λ other. is_lt (by_parts g.K.Ord.cmp g.V.Ord.cmp other (c.args.key, c.args.value))) c.self.inside.list.items)

pub invariant_of-self : goal.invariant_of-self
invariant_of-self g c =
    let absent = rw (← c.self.view_is) at c.requires.absent in
    let less = rw (← c.self.view_is) at c.requires.room in
    proper_inserted g.K.Ord.cmp g.met.K.Ord.total g.V.Ord.cmp g.met.V.Ord.total c.self.inside.list c.self.invariant (c.args.key, c.args.value) c.count_before-place.result c.count_before-place.ensures c.insert.new.self c.insert.ensures absent less

pub returns-clause-entries : goal.returns-clause-entries
returns-clause-entries g c =
    let place = c.count_before-place.result in
    let within : place ≤ length c.self.inside.list.items = omega (arith, c.count_before-place.ensures, count_by-le-length (λ other. is_lt (by_parts g.K.Ord.cmp g.V.Ord.cmp other (c.args.key, c.args.value))) c.self.inside.list.items) in
    rw (← c.self.view_is) (place, within, ap (λ (list : Fixed (g.row.K.Denot × g.row.V.Denot)). list.items) c.insert.ensures)

pub returns-clause-proper : goal.returns-clause-proper
returns-clause-proper g c =
    let absent = rw (← c.self.view_is) at c.requires.absent in
    let less = rw (← c.self.view_is) at c.requires.room in
    proper_inserted g.K.Ord.cmp g.met.K.Ord.total g.V.Ord.cmp g.met.V.Ord.total c.self.inside.list c.self.invariant (c.args.key, c.args.value) c.count_before-place.result c.count_before-place.ensures c.insert.new.self c.insert.ensures absent less
