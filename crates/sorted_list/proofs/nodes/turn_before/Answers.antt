use Rattle.std.proofs.Common.{arith, refl}
use Rattle.sorted_list.proofs.TreeLemmas.{lowered_joins_before, opened, opened_count, raised_joins_before, stands_within, turned_before}
use Rattle.sorted_list.proofs.nodes.turn_before.Goals as goal

pub node_at-up-requires : goal.node_at-up-requires
node_at-up-requires g c = stands_within c.args.nodes.now c.args.node.before c.requires.sides.0 c.requires.sides.2.before_it c.requires.some

pub put-up-requires-clause-few : goal.put-up-requires-clause-few
put-up-requires-clause-few g c =
    let stands = c.requires.sides.2.before_it in
    let o = opened c.args.nodes.now c.args.node.before c.node_at-up.result c.requires.sides.0 stands c.requires.some c.node_at-up.ensures in
    omega (arith, c.requires.few, opened_count c.args.nodes.now c.args.node.before c.node_at-up.result c.requires.sides.0 stands o)

pub put-requires-clause-seat : goal.put-requires-clause-seat
put-requires-clause-seat g c = omega (arith, stands_within c.args.nodes.now c.args.node.before c.requires.sides.0 c.requires.sides.2.before_it c.requires.some, c.put-up.auto.nodes)

pub put-requires-clause-few : goal.put-requires-clause-few
put-requires-clause-few g c =
    let stands = c.requires.sides.2.before_it in
    let o = opened c.args.nodes.now c.args.node.before c.node_at-up.result c.requires.sides.0 stands c.requires.some c.node_at-up.ensures in
    omega (arith, c.requires.few, opened_count c.args.nodes.now c.args.node.before c.node_at-up.result c.requires.sides.0 stands o, c.put-up.ensures.count)

pub returns-clause-kept : goal.returns-clause-kept
returns-clause-kept g c = λ before behind joins.
    let old = c.args.nodes.now in
    let node = c.args.node in
    let up = c.node_at-up.result in
    let o = opened old node.before up before joins.before_it c.requires.some c.node_at-up.ensures in
    let kept = c.put-up.ensures.kept o.behind behind (lowered_joins_before old c.args.seat node (record { item = node.item; before = up.behind; behind = node.behind }) up before behind o joins refl refl) in
    let raised = c.put.ensures.kept o.before kept.tree (raised_joins_before old c.put-up.new.nodes c.args.seat node (record { item = up.item; before = up.before; behind = c.put-up.result }) up before behind o joins refl kept) in
    turned_before old c.put-up.new.nodes c.put.new.nodes c.args.seat node up before behind o c.put-up.result c.put.result kept raised

pub returns-clause-count : goal.returns-clause-count
returns-clause-count g c =
    let stands = c.requires.sides.2.before_it in
    let o = opened c.args.nodes.now c.args.node.before c.node_at-up.result c.requires.sides.0 stands c.requires.some c.node_at-up.ensures in
    omega (arith, c.put.ensures.count, opened_count c.args.nodes.now c.args.node.before c.node_at-up.result c.requires.sides.0 stands o, c.put-up.ensures.count)
