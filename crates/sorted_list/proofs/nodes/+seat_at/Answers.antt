use Rattle.std.proofs.Common.{rules, ◌<◌, arith}
use Rattle.sorted_list.proofs.TreeLemmas.{counts, opened, opened_count}
use Rattle.sorted_list.proofs.WayLemmas.{found_before, found_behind, found_here, place_behind}
use Rattle.sorted_list.proofs.nodes.+seat_at.Goals as goal

pub seat_at-requires-then-place-before-2 : goal.seat_at-requires-then-place-before-2
seat_at-requires-then-place-before-2 g t c κs within =
    let some : 0 < c.args.branch.count = omega (arith, c.requires.2, counts c.args.nodes.now c.args.branch c.requires.0 c.requires.1) in
    let o = opened c.args.nodes.now c.args.branch c.node_at-node.result c.requires.0 c.requires.1 some c.node_at-node.ensures in
    let less : c.node_at-node.result.behind.count < c.args.branch.count = omega (arith, opened_count c.args.nodes.now c.args.branch c.node_at-node.result c.requires.0 c.requires.1 o) in
    (search rules, (search rules, (o.behind, o.joins.behind_it, place_behind c.args.nodes.now c.args.branch c.node_at-node.result c.requires.0 o c.args.place c.if-place-before-2.true c.requires.2)))

pub returns-then-place-before : goal.returns-then-place-before
returns-then-place-before g t c = λ tree stands.
    let o = opened c.args.nodes.now c.args.branch c.node_at-node.result tree stands (omega (arith, c.requires.2, counts c.args.nodes.now c.args.branch c.requires.0 c.requires.1)) c.node_at-node.ensures in
    found_before c.args.nodes.now c.args.branch c.node_at-node.result tree o c.args.place c.seat_at.result c.if-place-before.true (c.seat_at.ensures o.before o.joins.before_it)

pub returns-then-place-before-2 : goal.returns-then-place-before-2
returns-then-place-before-2 g t c = λ tree stands.
    let o = opened c.args.nodes.now c.args.branch c.node_at-node.result tree stands (omega (arith, c.requires.2, counts c.args.nodes.now c.args.branch c.requires.0 c.requires.1)) c.node_at-node.ensures in
    found_behind c.args.nodes.now c.args.branch c.node_at-node.result tree o c.args.place c.seat_at-then-place-before-2.result c.if-place-before-2.true (c.seat_at-then-place-before-2.ensures o.behind o.joins.behind_it)

pub returns-else-place-before-2 : goal.returns-else-place-before-2
returns-else-place-before-2 g t c = λ tree stands.
    let o = opened c.args.nodes.now c.args.branch c.node_at-node.result tree stands (omega (arith, c.requires.2, counts c.args.nodes.now c.args.branch c.requires.0 c.requires.1)) c.node_at-node.ensures in
    found_here c.args.nodes.now c.args.branch c.node_at-node.result tree o c.args.place (omega (arith, c.if-place-before.false, c.if-place-before-2.false)) c.node_at-node.ensures
