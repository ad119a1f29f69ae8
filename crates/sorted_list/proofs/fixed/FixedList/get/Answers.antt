use Rattle.std.proofs.Common.{◌≤◌, length, sym, ◌∙◌, ap, arith}
use Rattle.std.specs.Prelude.{option_map}
use Rattle.std.proofs.lemmas.Option.{slice_get_past}
use Rattle.sorted_list.specs.Trees.{items_of}
use Rattle.sorted_list.proofs.FixedLemmas.{items_are}
use Rattle.sorted_list.proofs.TreeLemmas.{counts, seat_within}
use Rattle.sorted_list.proofs.fixed.FixedList.get.Goals as goal

pub seat_at-seat-requires : goal.seat_at-seat-requires
seat_at-seat-requires g c =
    let s = c.self.invariant.0 in
    rw c.deref.ensures.value (s.tree, s.stands, omega (arith, c.if-place-self.true, counts c.self.inside.nodes.items c.self.inside.root s.tree s.stands))

pub node_at-requires : goal.node_at-requires
node_at-requires g c =
    let s = c.self.invariant.0 in
    let item = rw c.deref.ensures.value at c.seat_at-seat.ensures in
    rw c.deref-then-place-self.ensures.value (seat_within c.self.inside.nodes.items s.tree c.seat_at-seat.result s.stands.lies (item s.tree s.stands).0)

pub returns-then-place-self : goal.returns-then-place-self
returns-then-place-self g c =
    let s = c.self.invariant.0 in
    let found = items_are c.self.inside.nodes.items c.self.inside.root s.tree s.stands in
    let item = rw c.deref.ensures.value at c.seat_at-seat.ensures in
    let read = rw c.deref-then-place-self.ensures.value at c.node_at.ensures in
    rw (← c.self.view_is, found) (sym (ap (option_map (λ node. node.item)) read) ∙ (item s.tree s.stands).1)

pub returns-else-place-self : goal.returns-else-place-self
returns-else-place-self g c =
    let s = c.self.invariant.0 in
    let found = items_are c.self.inside.nodes.items c.self.inside.root s.tree s.stands in
    let past : length (items_of s.tree) ≤ c.args.place = omega (arith, c.if-place-self.false, counts c.self.inside.nodes.items c.self.inside.root s.tree s.stands) in
    rw (← c.self.view_is, found) (sym (slice_get_past (items_of s.tree) c.args.place past))
