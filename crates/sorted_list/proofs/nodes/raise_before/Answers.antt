use Rattle.std.proofs.Common.{◌∷◌, ◌++◌, arith, refl}
use Rattle.sorted_list.specs.Trees.{HasSeat, items_of, fork}
use Rattle.sorted_list.proofs.TreeLemmas.{became_before, kept_as, joins_before, opened, opened_count, stands_within}
use Rattle.sorted_list.proofs.nodes.raise_before.Goals as goal

pub node_at-up-requires : goal.node_at-up-requires
node_at-up-requires g c = stands_within c.args.nodes.now c.args.node.before c.requires.sides.0 c.requires.sides.2.before_it c.requires.some

pub turn_behind-node-requires-clause-seat : goal.turn_behind-node-requires-clause-seat
turn_behind-node-requires-clause-seat g c = stands_within c.args.nodes.now c.args.node.before c.requires.sides.0 c.requires.sides.2.before_it c.requires.some

pub turn_behind-node-requires-clause-sides : goal.turn_behind-node-requires-clause-sides
turn_behind-node-requires-clause-sides g c =
    let o = opened c.args.nodes.now c.args.node.before c.node_at-up.result c.requires.sides.0 c.requires.sides.2.before_it c.requires.some c.node_at-up.ensures in
    (o.before, o.behind, o.joins)

pub turn_behind-node-requires-clause-few : goal.turn_behind-node-requires-clause-few
turn_behind-node-requires-clause-few g c =
    let stands = c.requires.sides.2.before_it in
    let o = opened c.args.nodes.now c.args.node.before c.node_at-up.result c.requires.sides.0 stands c.requires.some c.node_at-up.ensures in
    omega (arith, c.requires.few, opened_count c.args.nodes.now c.args.node.before c.node_at-up.result c.requires.sides.0 stands o)

pub turn_before-requires-clause-seat : goal.turn_before-requires-clause-seat
turn_before-requires-clause-seat g c = omega (arith, c.requires.seat, c.turn_behind-node.auto.nodes)

pub turn_before-requires-clause-sides : goal.turn_before-requires-clause-sides
turn_before-requires-clause-sides g c =
    let before = c.requires.sides.0 in
    let behind = c.requires.sides.1 in
    let joins = c.requires.sides.2 in
    let old = c.args.nodes.now in
    let mid = c.turn_behind-node.new.nodes in
    let node = c.args.node in
    let left = c.turn_behind-node.result in
    let o = opened old node.before c.node_at-up.result before joins.before_it c.requires.some c.node_at-up.ensures in
    let kb = kept_as old mid node.before left c.node_at-up.result before o (c.turn_behind-node.ensures.kept o.before o.behind o.joins) in
    let joined = joins_before old mid c.args.seat node (record { item = node.item; before = left; behind = node.behind }) before behind (items_of before) (HasSeat before) kb refl joins joins.apart.not_before joins.apart.apart in
    (kb.tree, behind, joined)

pub turn_before-requires-clause-few : goal.turn_before-requires-clause-few
turn_before-requires-clause-few g c =
    let stands = c.requires.sides.2.before_it in
    let o = opened c.args.nodes.now c.args.node.before c.node_at-up.result c.requires.sides.0 stands c.requires.some c.node_at-up.ensures in
    omega (arith, c.requires.few, opened_count c.args.nodes.now c.args.node.before c.node_at-up.result c.requires.sides.0 stands o, c.turn_behind-node.ensures.count)

pub turn_before-requires-clause-some : goal.turn_before-requires-clause-some
turn_before-requires-clause-some g c = omega (arith, c.turn_behind-node.ensures.count)

pub returns-then-is_inner_heavy-clause-kept : goal.returns-then-is_inner_heavy-clause-kept
returns-then-is_inner_heavy-clause-kept g c = λ before behind joins.
    let old = c.args.nodes.now in
    let mid = c.turn_behind-node.new.nodes in
    let node = c.args.node in
    let left = c.turn_behind-node.result in
    let o = opened old node.before c.node_at-up.result before joins.before_it c.requires.some c.node_at-up.ensures in
    let kb = kept_as old mid node.before left c.node_at-up.result before o (c.turn_behind-node.ensures.kept o.before o.behind o.joins) in
    let joined = joins_before old mid c.args.seat node (record { item = node.item; before = left; behind = node.behind }) before behind (items_of before) (HasSeat before) kb refl joins joins.apart.not_before joins.apart.apart in
    became_before old mid c.turn_before.new.nodes c.args.seat node.item behind left c.turn_before.result (items_of before) (items_of before ++ node.item ∷ items_of behind) (HasSeat before) (HasSeat (fork c.args.seat before node.item behind)) kb (c.turn_before.ensures.kept kb.tree behind joined) refl (λ seat has. has)

pub returns-then-is_inner_heavy-clause-count : goal.returns-then-is_inner_heavy-clause-count
returns-then-is_inner_heavy-clause-count g c =
    let stands = c.requires.sides.2.before_it in
    let o = opened c.args.nodes.now c.args.node.before c.node_at-up.result c.requires.sides.0 stands c.requires.some c.node_at-up.ensures in
    omega (arith, c.turn_before.ensures.count, opened_count c.args.nodes.now c.args.node.before c.node_at-up.result c.requires.sides.0 stands o, c.turn_behind-node.ensures.count)
