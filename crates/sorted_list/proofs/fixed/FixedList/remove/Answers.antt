use Rattle.std.proofs.Common.{◌≡◌, ◌<◌, List, length, sym, ◌∙◌, ap, arith}
use Rattle.std.specs.List.{remove}
use Rattle.std.proofs.lemmas.List.Edits.{length-remove}
use Rattle.sorted_list.specs.Trees.{items_of}
use Rattle.sorted_list.proofs.FixedLemmas.{items_are, seen, sound_removed, written_over}
use Rattle.sorted_list.proofs.fixed.FixedList.remove.Goals as goal

pub remove-gone-requires : goal.remove-gone-requires
remove-gone-requires g c =
    let i = c.self.inside in
    let s = c.self.invariant.0 in
    let found = ap length (items_are i.nodes.items i.root s.tree s.stands) in
    let place = rw (← c.self.view_is) at c.requires in
    rw c.deref_mut.ensures.value (s.tree, s.stands, omega (arith, place, found))

pub push_reserved-requires : goal.push_reserved-requires
push_reserved-requires g c =
    let i = c.self.inside in
    let s = c.self.invariant.0 in
    let found = ap length (items_are i.nodes.items i.root s.tree s.stands) in
    let place = rw (← c.self.view_is) at c.requires in
    let some : 0 < length (items_of s.tree) = omega (arith, place, found) in
    omega (arith, some, s.counted, s.few, c.self.invariant.2, i.spare.ok.0)

pub invariant_of-self : goal.invariant_of-self
invariant_of-self g c =
    let i = c.self.inside in
    let s = c.self.invariant.0 in
    let call = c.remove-gone in
    let found = ap length (items_are i.nodes.items i.root s.tree s.stands) in
    let place = rw (← c.self.view_is) at c.requires in
    let stays : length call.new.nodes ≡ length i.nodes.items = omega (arith, call.auto.nodes, ap length c.deref_mut.ensures.value) in
    let became = (rw c.deref_mut.ensures.value at call.ensures.left) s.tree s.stands in
    let was = (rw c.deref_mut.ensures.value at call.ensures.gone) s.tree s.stands in
    let shorter = length-remove (items_of s.tree) c.args.place (omega (arith, place, found)) in
    let some : 0 < length (items_of s.tree) = omega (arith, place, found) in
    rw (written_over i.nodes.len i.nodes.items call.new.nodes i.nodes.ok.0 (omega (arith, stays, i.nodes.ok.0)), c.push_reserved.ensures.items) (
      sound_removed i.room i.root call.result.1 i.nodes.items call.new.nodes i.spare.items call.result.0 (remove (items_of s.tree) c.args.place) s was.0 became stays (omega (arith, some, shorter)),
      c.self.invariant.1,
      omega (arith, c.self.invariant.2, c.push_reserved.ensures.capacity),
    )

pub returns : goal.returns
returns g c =
    let i = c.self.inside in
    let s = c.self.invariant.0 in
    let call = c.remove-gone in
    let stays : length call.new.nodes ≡ length i.nodes.items = omega (arith, call.auto.nodes, ap length c.deref_mut.ensures.value) in
    let became = (rw c.deref_mut.ensures.value at call.ensures.left) s.tree s.stands in
    let edit = λ (l : List g.row.T.Denot). remove l c.args.place in
    seen edit i.room i.root call.result.1 i.nodes.items _ call.new.nodes c.args.self.now (written_over i.nodes.len i.nodes.items call.new.nodes i.nodes.ok.0 (omega (arith, stays, i.nodes.ok.0))) c.self.view_is (items_are call.new.nodes call.result.1 became.tree became.stands ∙ became.items ∙ ap edit (sym (items_are i.nodes.items i.root s.tree s.stands)))
