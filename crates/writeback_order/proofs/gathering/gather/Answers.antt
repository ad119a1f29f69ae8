use Rattle.std.proofs.Common.{◌<◌, length, get_or, subst, sym, arith}
use Rattle.std.proofs.lemmas.List.Elements.{Contains-get_or}
use Rattle.depend_lists.specs.declared.nodes.Node.{Node}
use Rattle.writeback_order.specs.Gathering.{HasChildrenOf}
use Rattle.writeback_order.proofs.GatherLemmas.{children_before_more, closure_from_children, few_gathered, has_children_more, reached_child, under_node, under_root}
use Rattle.writeback_order.proofs.MarkLemmas.{clear_marked}
use Rattle.writeback_order.proofs.gathering.gather.Goals as goal

-- no mark is set, and nothing was gathered
pub gather_children-requires-clause-marked : goal.gather_children-requires-clause-marked
gather_children-requires-clause-marked c = rw c.clear.ensures.items (clear_marked c.args.depends.now.pairs c.args.marks.now c.requires.unmarked)

pub gather_children-requires-clause-under : goal.gather_children-requires-clause-under
gather_children-requires-clause-under c = under_root c.args.depends.now.pairs c.args.root

-- the next node was gathered, so it depends
pub gather_children-requires-in-loop-next-clause-under : goal.gather_children-requires-in-loop-next-clause-under
gather_children-requires-in-loop-next-clause-under c =
    let loop = c.loop-next in
    let within : loop.next < length loop.nodes.items = omega (arith, c.loop-next-test.true, c.len.ensures, loop.nodes.ok.0) in
    under_node c.args.depends.now.pairs c.args.root c.index.result.now (loop.invariant.gathered.reached c.index.result.now (loop.next, within, sym c.index.ensures)).0

pub loop-next-preserved : goal.loop-next-preserved
loop-next-preserved c =
    let pairs = c.args.depends.now.pairs in
    let root = c.args.root in
    let loop = c.loop-next in
    let nodes = loop.nodes.items in
    let after = c.gather_children-in-loop-next.ensures in
    let longer = c.gather_children-in-loop-next.new.nodes.items in
    let within : loop.next < length nodes = omega (arith, c.loop-next-test.true, c.len.ensures, loop.nodes.ok.0) in
    let here = subst (λ (node : Node). HasChildrenOf pairs root node.ident longer) c.index.ensures after.children in
    record {
      proper = after.proper;
      gathered = after.gathered;
      marked = after.marked;
      of_root = has_children_more pairs root nodes root longer after.extended loop.invariant.of_root;
      of_nodes = children_before_more pairs root nodes longer loop.next c.index.result.now within after.extended loop.invariant.of_nodes here;
      few = few_gathered pairs root longer after.gathered c.args.depends.now.caps after.proper;
      capacity = omega (arith, after.capacity, loop.invariant.capacity);
    }

-- each node is a child
pub unmark-requires-clause-children : goal.unmark-requires-clause-children
unmark-requires-clause-children c = rw c.deref.ensures.value (λ k d lt.
    let pairs = c.args.depends.now.pairs in
    let nodes = c.loop-next.nodes.items in
    reached_child pairs c.args.root (get_or nodes k d) (c.loop-next.invariant.gathered.reached (get_or nodes k d) (Contains-get_or nodes k d lt)).0)

-- the children of each node are there
pub returns-clause-closure : goal.returns-clause-closure
returns-clause-closure c =
    let pairs = c.args.depends.now.pairs in
    let root = c.args.root in
    let loop = c.loop-next in
    let nodes = loop.nodes.items in
    closure_from_children pairs root nodes loop.invariant.of_root (λ node there. subst (λ (n : Node). HasChildrenOf pairs root n.ident nodes) there.2 (loop.invariant.of_nodes there.0 node (omega (arith, there.1, c.loop-next-test.false, c.len.ensures, loop.nodes.ok.0)))) c.args.depends.now.caps loop.invariant.proper loop.invariant.gathered.reached
