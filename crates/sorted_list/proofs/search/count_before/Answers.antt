use Rattle.std.proofs.Common.{length, refl, sym, ◌∙◌, arith}
use Rattle.std.proofs.lemmas.Option.{slice_get_read}
use Rattle.sorted_list.proofs.DownLemmas.{all_counted, counting_all, counting_before, counting_behind}
use Rattle.sorted_list.proofs.TreeLemmas.{opened, opened_count, stands_within}
use Rattle.sorted_list.proofs.search.count_before.Goals as goal

pub loop-left-init : goal.loop-left-init
loop-left-init g c = λ tree stands. counting_all c.args.nodes.now (g.C.Cut.is_behind_of c.args.cut.now) c.args.branch tree stands

pub offset_bounds-nodes-left : goal.offset_bounds-nodes-left
offset_bounds-nodes-left g c =
    let way = c.loop-left.invariant c.requires.0 c.requires.1 in
    omega (arith, stands_within c.args.nodes.now c.loop-left.left way.tree way.stands c.loop-left-test.true)

pub bounds-nodes-left : goal.bounds-nodes-left
bounds-nodes-left g c =
    let way = c.loop-left.invariant c.requires.0 c.requires.1 in
    stands_within c.args.nodes.now c.loop-left.left way.tree way.stands c.loop-left-test.true

pub overflow_add-passed : goal.overflow_add-passed
overflow_add-passed g c =
    let nodes = c.args.nodes.now in
    let node = c.index-nodes-left.result in
    let left = c.loop-left.left in
    let way = c.loop-left.invariant c.requires.0 c.requires.1 in
    let read = slice_get_read nodes (length nodes) left.seat node refl (stands_within nodes left way.tree way.stands c.loop-left-test.true) c.index-nodes-left.is in
    let o = opened nodes left node way.tree way.stands c.loop-left-test.true read in
    omega (arith, opened_count nodes left node way.tree way.stands o)

pub overflow_add-passed-then-is_behind : goal.overflow_add-passed-then-is_behind
overflow_add-passed-then-is_behind g c =
    let nodes = c.args.nodes.now in
    let node = c.index-nodes-left.result in
    let left = c.loop-left.left in
    let way = c.loop-left.invariant c.requires.0 c.requires.1 in
    let read = slice_get_read nodes (length nodes) left.seat node refl (stands_within nodes left way.tree way.stands c.loop-left-test.true) c.index-nodes-left.is in
    let o = opened nodes left node way.tree way.stands c.loop-left-test.true read in
    omega (arith, way.few, opened_count nodes left node way.tree way.stands o)

pub loop-left-smaller-then-is_behind : goal.loop-left-smaller-then-is_behind
loop-left-smaller-then-is_behind g c =
    let nodes = c.args.nodes.now in
    let node = c.index-nodes-left.result in
    let left = c.loop-left.left in
    let way = c.loop-left.invariant c.requires.0 c.requires.1 in
    let read = slice_get_read nodes (length nodes) left.seat node refl (stands_within nodes left way.tree way.stands c.loop-left-test.true) c.index-nodes-left.is in
    let o = opened nodes left node way.tree way.stands c.loop-left-test.true read in
    omega (arith, opened_count nodes left node way.tree way.stands o)

pub loop-left-smaller : goal.loop-left-smaller
loop-left-smaller g c =
    let nodes = c.args.nodes.now in
    let node = c.index-nodes-left.result in
    let left = c.loop-left.left in
    let way = c.loop-left.invariant c.requires.0 c.requires.1 in
    let read = slice_get_read nodes (length nodes) left.seat node refl (stands_within nodes left way.tree way.stands c.loop-left-test.true) c.index-nodes-left.is in
    let o = opened nodes left node way.tree way.stands c.loop-left-test.true read in
    omega (arith, opened_count nodes left node way.tree way.stands o)

pub loop-left-preserved-then-is_behind : goal.loop-left-preserved-then-is_behind
loop-left-preserved-then-is_behind g c = λ tree stands.
    let nodes = c.args.nodes.now in
    let node = c.index-nodes-left.result in
    let left = c.loop-left.left in
    let way = c.loop-left.invariant tree stands in
    let read = slice_get_read nodes (length nodes) left.seat node refl (stands_within nodes left way.tree way.stands c.loop-left-test.true) c.index-nodes-left.is in
    counting_behind nodes (g.C.Cut.is_behind_of c.args.cut.now) c.args.branch tree left node c.loop-left-test.true read c.loop-left.passed way (sym c.is_behind.ensures ∙ c.if-is_behind.true)

pub loop-left-preserved : goal.loop-left-preserved
loop-left-preserved g c = λ tree stands.
    let nodes = c.args.nodes.now in
    let node = c.index-nodes-left.result in
    let left = c.loop-left.left in
    let way = c.loop-left.invariant tree stands in
    let read = slice_get_read nodes (length nodes) left.seat node refl (stands_within nodes left way.tree way.stands c.loop-left-test.true) c.index-nodes-left.is in
    counting_before nodes (g.C.Cut.is_behind_of c.args.cut.now) c.args.branch tree left node c.loop-left-test.true read c.loop-left.passed way (sym c.is_behind.ensures ∙ c.if-is_behind.false)

pub returns-clause-found : goal.returns-clause-found
returns-clause-found g c = λ tree stands falls. all_counted c.args.nodes.now (g.C.Cut.is_behind_of c.args.cut.now) c.args.branch tree c.loop-left.left c.loop-left.passed (c.loop-left.invariant tree stands) (omega arith) falls

pub returns-clause-few : goal.returns-clause-few
returns-clause-few g c =
    let way = c.loop-left.invariant c.requires.0 c.requires.1 in
    omega (arith, way.few)
