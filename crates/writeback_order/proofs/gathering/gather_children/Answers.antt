use Rattle.std.proofs.Common.{◌<◌, ◌++◌, ◌∷◌, [], length, inl, inr, subst, arith}
use Rattle.std.proofs.lemmas.List.{length_push}
use Rattle.writeback_order.proofs.DistinctLemmas.{apart_from_ne, same_from_ne}
use Rattle.writeback_order.proofs.GatherLemmas.{all_came, come_new, come_past, comes_listed, few_gathered, gathered_before, has_children_all, listed_child, listed_depends, AreThere}
use Rattle.writeback_order.proofs.gathering.gather_children.Goals as goal
use Rattle.writeback_order.proofs.gathering.gather_children.Goals.{else-ne-via-then-ne+else-not-marks-place, else-ne-via-else-ne}

-- a child has a mark
pub bounds-marks-place : goal.bounds-marks-place
bounds-marks-place c =
    let pairs = c.args.depends.now.pairs in
    let listed = comes_listed pairs c.args.parent c.into_iter-child-iterator.result (cc) c.loop-child.yielded _ c.loop-child.yielded_by _ _ c.next.ensures.steps c.in-Some.child c.in-Some.is in
    omega (arith, c.place-place.ensures.within (listed_child pairs c.args.parent c.in-Some.child listed), c.requires.places, c.loop-child.auto.marks)

pub bounds-marks-place-then-not-marks-place : goal.bounds-marks-place-then-not-marks-place
bounds-marks-place-then-not-marks-place c =
    let pairs = c.args.depends.now.pairs in
    let listed = comes_listed pairs c.args.parent c.into_iter-child-iterator.result (cc) c.loop-child.yielded _ c.loop-child.yielded_by _ _ c.next.ensures.steps c.in-Some.child c.in-Some.is in
    omega (arith, c.place-place.ensures.within (listed_child pairs c.args.parent c.in-Some.child listed), c.requires.places, c.loop-child.auto.marks)

-- there is room for a child that wasn't marked, since with it there are no more than the capacities allow
pub push_reserved-requires : goal.push_reserved-requires
push_reserved-requires c =
    let pairs = c.args.depends.now.pairs in
    let root = c.args.root in
    let loop = c.loop-child in
    let nodes = loop.nodes.items in
    let child = c.in-Some.child in
    let place = c.place-place.result in
    let listed = comes_listed pairs c.args.parent c.into_iter-child-iterator.result (cc) c.loop-child.yielded _ c.loop-child.yielded_by _ _ c.next.ensures.steps c.in-Some.child c.in-Some.is in
    let has_mark : place < length loop.marks = omega (arith, c.place-place.ensures.within (listed_child pairs c.args.parent child listed), c.requires.places, loop.auto.marks) in
    let depends = listed_depends pairs c.args.parent child listed root c.requires.under in
    let new = come_new pairs root c.args.nodes.now.items nodes loop.marks loop.yielded loop.invariant.come child place depends (apart_from_ne child.ident root c.if-ne.ensures) c.place-place.ensures.place has_mark c.if-not-marks-place.true in
    let few = few_gathered pairs root (nodes ++ child ∷ []) new.gathered c.args.depends.now.caps c.children-child-items.ensures.proper in
    omega (arith, few, length_push nodes child, c.requires.room, loop.invariant.capacity, loop.nodes.ok.0)

-- a child that wasn't marked was pushed
pub loop-child-preserved-then-not-marks-place : goal.loop-child-preserved-then-not-marks-place
loop-child-preserved-then-not-marks-place c =
    let pairs = c.args.depends.now.pairs in
    let root = c.args.root in
    let loop = c.loop-child in
    let nodes = loop.nodes.items in
    let child = c.in-Some.child in
    let place = c.place-place.result in
    let listed = comes_listed pairs c.args.parent c.into_iter-child-iterator.result (cc) c.loop-child.yielded _ c.loop-child.yielded_by _ _ c.next.ensures.steps c.in-Some.child c.in-Some.is in
    let has_mark : place < length loop.marks = omega (arith, c.place-place.ensures.within (listed_child pairs c.args.parent child listed), c.requires.places, loop.auto.marks) in
    let depends = listed_depends pairs c.args.parent child listed root c.requires.under in
    let new = come_new pairs root c.args.nodes.now.items nodes loop.marks loop.yielded loop.invariant.come child place depends (apart_from_ne child.ident root c.if-ne.ensures) c.place-place.ensures.place has_mark c.if-not-marks-place.true in
    record { come = rw c.push_reserved.ensures.items new; capacity = omega (arith, c.push_reserved.ensures.capacity, loop.invariant.capacity) }

-- any other is the root or was gathered before
pub loop-child-preserved : goal.loop-child-preserved
loop-child-preserved c =
    let pairs = c.args.depends.now.pairs in
    let root = c.args.root in
    let loop = c.loop-child in
    let nodes = loop.nodes.items in
    let child = c.in-Some.child in
    let past = come_past pairs root c.args.nodes.now.items nodes loop.marks loop.yielded loop.invariant.come child in
    elim c.else-ne.branch [
      | else-ne-via-then-ne+else-not-marks-place w ↦
          let listed = comes_listed pairs c.args.parent c.into_iter-child-iterator.result (cc) c.loop-child.yielded _ c.loop-child.yielded_by _ _ c.next.ensures.steps c.in-Some.child c.in-Some.is in
          let before = gathered_before pairs root nodes loop.invariant.come.gathered loop.marks loop.invariant.come.marked child.ident c.place-place.result (c.place-place.ensures.alone (listed_child pairs c.args.parent child listed)) w.if-not-marks-place.false in
          record { come = past (inr before); capacity = loop.invariant.capacity }
      | else-ne-via-else-ne w ↦ record { come = past (inl (same_from_ne child.ident root w.if-ne.ensures)); capacity = loop.invariant.capacity }
    ]

-- all children were gone through
pub returns-clause-children : goal.returns-clause-children
returns-clause-children c =
    let pairs = c.args.depends.now.pairs in
    let loop = c.loop-child in
    let all = all_came pairs c.args.parent c.into_iter-child-iterator.result (cc) loop.yielded _ loop.yielded_by _ _ c.next.ensures.steps c.in-None.is in
    has_children_all pairs c.args.root c.args.parent loop.nodes.items (subst (AreThere c.args.root loop.nodes.items) all loop.invariant.come.there)

pub returns-clause-few : goal.returns-clause-few
returns-clause-few c =
    let loop = c.loop-child in
    omega (arith, few_gathered c.args.depends.now.pairs c.args.root loop.nodes.items loop.invariant.come.gathered c.args.depends.now.caps c.children-child-items.ensures.proper, loop.nodes.ok.0)
