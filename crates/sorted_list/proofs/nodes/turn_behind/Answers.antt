use Rattle.std.proofs.Common.{arith, refl}
use Rattle.sorted_list.proofs.TreeLemmas.{lowered_joins_behind, opened, opened_count, raised_joins_behind, stands_within, turned_behind}
use Rattle.sorted_list.proofs.nodes.turn_behind.Goals as goal

pub node_at-up-requires : goal.node_at-up-requires
node_at-up-requires g c = stands_within c.args.nodes.now c.args.node.behind c.requires.sides.1 c.requires.sides.2.behind_it c.requires.some

pub put-up-requires-clause-few : goal.put-up-requires-clause-few
put-up-requires-clause-few g c =
    let stands = c.requires.sides.2.behind_it in
    let o = opened c.args.nodes.now c.args.node.behind c.node_at-up.result c.requires.sides.1 stands c.requires.some c.node_at-up.ensures in
    omega (arith, c.requires.few, opened_count c.args.nodes.now c.args.node.behind c.node_at-up.result c.requires.sides.1 stands o)

pub put-requires-clause-seat : goal.put-requires-clause-seat
put-requires-clause-seat g c = omega (arith, stands_within c.args.nodes.now c.args.node.behind c.requires.sides.1 c.requires.sides.2.behind_it c.requires.some, c.put-up.auto.nodes)

pub put-requires-clause-few : goal.put-requires-clause-few
put-requires-clause-few g c =
    let stands = c.requires.sides.2.behind_it in
    let o = opened c.args.nodes.now c.args.node.behind c.node_at-up.result c.requires.sides.1 stands c.requires.some c.node_at-up.ensures in
    omega (arith, c.requires.few, opened_count c.args.nodes.now c.args.node.behind c.node_at-up.result c.requires.sides.1 stands o, c.put-up.ensures.count)

pub returns-clause-kept : goal.returns-clause-kept
returns-clause-kept g c = λ before behind joins.
    let old = c.args.nodes.now in
    let node = c.args.node in
    let up = c.node_at-up.result in
    let o = opened old node.behind up behind joins.behind_it c.requires.some c.node_at-up.ensures in
    let kept = c.put-up.ensures.kept before o.before (lowered_joins_behind old c.args.seat node (record { item = node.item; before = node.before; behind = up.before }) up before behind o joins refl refl) in
    let raised = c.put.ensures.kept kept.tree o.behind (raised_joins_behind old c.put-up.new.nodes c.args.seat node (record { item = up.item; before = c.put-up.result; behind = up.behind }) up before behind o joins refl kept) in
    turned_behind old c.put-up.new.nodes c.put.new.nodes c.args.seat node up before behind o c.put-up.result c.put.result kept raised

pub returns-clause-count : goal.returns-clause-count
returns-clause-count g c =
    let stands = c.requires.sides.2.behind_it in
    let o = opened c.args.nodes.now c.args.node.behind c.node_at-up.result c.requires.sides.1 stands c.requires.some c.node_at-up.ensures in
    omega (arith, c.put.ensures.count, opened_count c.args.nodes.now c.args.node.behind c.node_at-up.result c.requires.sides.1 stands o, c.put-up.ensures.count)
