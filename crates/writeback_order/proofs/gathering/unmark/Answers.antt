use Rattle.std.proofs.Common.{get_or, arith}
use Rattle.std.proofs.lemmas.List.{get_or_default}
use Rattle.writeback_order.proofs.MarkLemmas.{left_more, left_none, nobody}
use Rattle.writeback_order.proofs.gathering.unmark.Goals as goal

-- the mark of this node is away
pub loop-node-preserved : goal.loop-node-preserved
loop-node-preserved c =
    let loop = c.loop-node in
    let n = loop.node-index in
    let node = get_or c.args.nodes.now n nobody in
    let more = c.loop-node-test.true in
    left_more c.args.depends.now.pairs c.args.nodes.now n loop.marks loop.invariant node c.place.result more (get_or_default c.args.nodes.now n node nobody more) c.place.ensures.place (omega (arith, c.place.ensures.within (c.requires.children n nobody more), c.requires.places, loop.auto.marks))

-- and in the end all are
pub returns : goal.returns
returns c = left_none c.args.depends.now.pairs c.args.nodes.now c.loop-node.node-index c.loop-node.marks c.loop-node.invariant c.loop-node-test.false
