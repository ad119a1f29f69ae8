use Rattle.std.proofs.Common.{◌≡◌, ◌<◌, List, length, All, sym, ◌∙◌, ap, subst, arith}
use Rattle.std.specs.List.{insert}
use Rattle.std.proofs.lemmas.List.Edits.{length-insert}
use Rattle.sorted_list.specs.Trees.{items_of}
use Rattle.sorted_list.proofs.FixedLemmas.{items_are, ready, seen, sound_inserted, still_few, written_over}
use Rattle.sorted_list.proofs.TreeLemmas.{counts}
use Rattle.sorted_list.proofs.fixed.FixedList.insert.Goals as goal

pub new_seat-seat-requires-clause-room : goal.new_seat-seat-requires-clause-room
new_seat-seat-requires-clause-room g c = λ none.
    let i = c.self.invariant in
    let s = i.0 in
    let found = ap length (items_are c.self.inside.nodes.items c.self.inside.root s.tree s.stands) in
    let less = rw (← c.self.view_is) at c.requires.room in
    omega (arith, none, less, found, s.counted, i.1, c.self.inside.nodes.ok.0, c.self.inside.spare.ok.0)

pub new_seat-seat-requires-clause-few : goal.new_seat-seat-requires-clause-few
new_seat-seat-requires-clause-few g c =
    let s = c.self.invariant.0 in
    omega (arith, s.few, s.small, c.self.inside.nodes.ok.0)

pub new_seat-seat-requires-clause-within : goal.new_seat-seat-requires-clause-within
new_seat-seat-requires-clause-within g c = subst (λ n. All (λ seat. seat < n) c.self.inside.spare.items) (sym c.self.inside.nodes.ok.0) c.self.invariant.0.spare_within

pub insert-self-inside-requires-clause-alone : goal.insert-self-inside-requires-clause-alone
insert-self-inside-requires-clause-alone g c =
    let i = c.self.inside in
    let r = ready i.room i.root i.nodes.items i.spare.items c.self.invariant.0 c.new_seat-seat.new.nodes.items c.new_seat-seat.new.spare.items c.new_seat-seat.result c.args.item c.new_seat-seat.ensures.seated in
    rw c.deref_mut.ensures.value (c.args.item, r.lone)

pub insert-self-inside-requires-clause-tree : goal.insert-self-inside-requires-clause-tree
insert-self-inside-requires-clause-tree g c =
    let i = c.self.inside in
    let s = c.self.invariant.0 in
    let r = ready i.room i.root i.nodes.items i.spare.items s c.new_seat-seat.new.nodes.items c.new_seat-seat.new.spare.items c.new_seat-seat.result c.args.item c.new_seat-seat.ensures.seated in
    let found = ap length (items_are i.nodes.items i.root s.tree s.stands) in
    let place = rw (← c.self.view_is) at c.requires.place in
    rw c.deref_mut.ensures.value (s.tree, record { named = s.stands.named; lies = r.lies }, r.fresh, omega (arith, place, found))

pub insert-self-inside-requires-clause-few : goal.insert-self-inside-requires-clause-few
insert-self-inside-requires-clause-few g c =
    let i = c.self.inside in
    let s = c.self.invariant.0 in
    let found = ap length (items_are i.nodes.items i.root s.tree s.stands) in
    let less = rw (← c.self.view_is) at c.requires.room in
    omega (arith, less, found, s.small, counts i.nodes.items i.root s.tree s.stands)

pub invariant_of-self : goal.invariant_of-self
invariant_of-self g c =
    let i = c.self.inside in
    let s = c.self.invariant.0 in
    let call = c.insert-self-inside in
    let nodes = c.new_seat-seat.new.nodes in
    let spare = c.new_seat-seat.new.spare in
    let r = ready i.room i.root i.nodes.items i.spare.items s nodes.items spare.items c.new_seat-seat.result c.args.item c.new_seat-seat.ensures.seated in
    let found = ap length (items_are i.nodes.items i.root s.tree s.stands) in
    let less = rw (← c.self.view_is) at c.requires.room in
    let place = rw (← c.self.view_is) at c.requires.place in
    let stays : length call.new.nodes ≡ length nodes.items = omega (arith, call.auto.nodes, ap length c.deref_mut.ensures.value) in
    let became = (rw c.deref_mut.ensures.value at call.ensures.inserted) s.tree c.args.item (record { named = s.stands.named; lies = r.lies }) r.lone r.fresh in
    let longer = length-insert (items_of s.tree) c.args.place c.args.item (omega (arith, place, found)) in
    rw (written_over nodes.len nodes.items call.new.nodes nodes.ok.0 (omega (arith, stays, nodes.ok.0))) (
      sound_inserted i.room i.root call.result s.tree nodes.items call.new.nodes spare.items c.new_seat-seat.result c.args.item (insert (items_of s.tree) c.args.place c.args.item) s.small (omega (arith, less, found)) r (still_few i.room i.root i.nodes.items i.spare.items s nodes.items spare.items c.new_seat-seat.result c.args.item (omega (arith, less, found)) c.new_seat-seat.ensures.seated) became stays longer,
      omega (arith, c.self.invariant.1, c.new_seat-seat.ensures.nodes_capacity),
      omega (arith, c.self.invariant.2, c.new_seat-seat.ensures.spare_capacity),
    )

pub returns : goal.returns
returns g c =
    let i = c.self.inside in
    let s = c.self.invariant.0 in
    let call = c.insert-self-inside in
    let nodes = c.new_seat-seat.new.nodes in
    let spare = c.new_seat-seat.new.spare in
    let r = ready i.room i.root i.nodes.items i.spare.items s nodes.items spare.items c.new_seat-seat.result c.args.item c.new_seat-seat.ensures.seated in
    let stays : length call.new.nodes ≡ length nodes.items = omega (arith, call.auto.nodes, ap length c.deref_mut.ensures.value) in
    let became = (rw c.deref_mut.ensures.value at call.ensures.inserted) s.tree c.args.item (record { named = s.stands.named; lies = r.lies }) r.lone r.fresh in
    let edit = λ (l : List g.row.T.Denot). insert l c.args.place c.args.item in
    seen edit i.room i.root call.result i.nodes.items _ call.new.nodes c.args.self.now (written_over nodes.len nodes.items call.new.nodes nodes.ok.0 (omega (arith, stays, nodes.ok.0))) c.self.view_is (items_are call.new.nodes call.result became.tree became.stands ∙ became.items ∙ ap edit (sym (items_are i.nodes.items i.root s.tree s.stands)))
