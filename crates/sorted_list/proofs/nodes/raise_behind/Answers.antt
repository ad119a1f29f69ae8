use Rattle.std.proofs.Common.{◌∷◌, ◌++◌, arith, refl}
use Rattle.sorted_list.specs.Trees.{HasSeat, items_of, fork}
use Rattle.sorted_list.proofs.TreeLemmas.{became_behind, kept_as, joins_behind, opened, opened_count, stands_within}
use Rattle.sorted_list.proofs.nodes.raise_behind.Goals as goal

pub node_at-up-requires : goal.node_at-up-requires
node_at-up-requires g c = stands_within c.args.nodes.now c.args.node.behind c.requires.sides.1 c.requires.sides.2.behind_it c.requires.some

pub turn_before-node-requires-clause-seat : goal.turn_before-node-requires-clause-seat
turn_before-node-requires-clause-seat g c = stands_within c.args.nodes.now c.args.node.behind c.requires.sides.1 c.requires.sides.2.behind_it c.requires.some

pub turn_before-node-requires-clause-sides : goal.turn_before-node-requires-clause-sides
turn_before-node-requires-clause-sides g c =
    let o = opened c.args.nodes.now c.args.node.behind c.node_at-up.result c.requires.sides.1 c.requires.sides.2.behind_it c.requires.some c.node_at-up.ensures in
    (o.before, o.behind, o.joins)

pub turn_before-node-requires-clause-few : goal.turn_before-node-requires-clause-few
turn_before-node-requires-clause-few g c =
    let stands = c.requires.sides.2.behind_it in
    let o = opened c.args.nodes.now c.args.node.behind c.node_at-up.result c.requires.sides.1 stands c.requires.some c.node_at-up.ensures in
    omega (arith, c.requires.few, opened_count c.args.nodes.now c.args.node.behind c.node_at-up.result c.requires.sides.1 stands o)

pub turn_behind-requires-clause-seat : goal.turn_behind-requires-clause-seat
turn_behind-requires-clause-seat g c = omega (arith, c.requires.seat, c.turn_before-node.auto.nodes)

pub turn_behind-requires-clause-sides : goal.turn_behind-requires-clause-sides
turn_behind-requires-clause-sides g c =
    let before = c.requires.sides.0 in
    let behind = c.requires.sides.1 in
    let joins = c.requires.sides.2 in
    let old = c.args.nodes.now in
    let mid = c.turn_before-node.new.nodes in
    let node = c.args.node in
    let left = c.turn_before-node.result in
    let o = opened old node.behind c.node_at-up.result behind joins.behind_it c.requires.some c.node_at-up.ensures in
    let kb = kept_as old mid node.behind left c.node_at-up.result behind o (c.turn_before-node.ensures.kept o.before o.behind o.joins) in
    let joined = joins_behind old mid c.args.seat node (record { item = node.item; before = node.before; behind = left }) before behind (items_of behind) (HasSeat behind) kb refl joins joins.apart.not_behind (λ seat has there. joins.apart.apart seat there has) in
    (before, kb.tree, joined)

pub turn_behind-requires-clause-few : goal.turn_behind-requires-clause-few
turn_behind-requires-clause-few g c =
    let stands = c.requires.sides.2.behind_it in
    let o = opened c.args.nodes.now c.args.node.behind c.node_at-up.result c.requires.sides.1 stands c.requires.some c.node_at-up.ensures in
    omega (arith, c.requires.few, opened_count c.args.nodes.now c.args.node.behind c.node_at-up.result c.requires.sides.1 stands o, c.turn_before-node.ensures.count)

pub turn_behind-requires-clause-some : goal.turn_behind-requires-clause-some
turn_behind-requires-clause-some g c = omega (arith, c.turn_before-node.ensures.count)

pub returns-then-is_inner_heavy-clause-kept : goal.returns-then-is_inner_heavy-clause-kept
returns-then-is_inner_heavy-clause-kept g c = λ before behind joins.
    let old = c.args.nodes.now in
    let mid = c.turn_before-node.new.nodes in
    let node = c.args.node in
    let left = c.turn_before-node.result in
    let o = opened old node.behind c.node_at-up.result behind joins.behind_it c.requires.some c.node_at-up.ensures in
    let kb = kept_as old mid node.behind left c.node_at-up.result behind o (c.turn_before-node.ensures.kept o.before o.behind o.joins) in
    let joined = joins_behind old mid c.args.seat node (record { item = node.item; before = node.before; behind = left }) before behind (items_of behind) (HasSeat behind) kb refl joins joins.apart.not_behind (λ seat has there. joins.apart.apart seat there has) in
    became_behind old mid c.turn_behind.new.nodes c.args.seat node.item before left c.turn_behind.result (items_of behind) (items_of before ++ node.item ∷ items_of behind) (HasSeat behind) (HasSeat (fork c.args.seat before node.item behind)) kb (c.turn_behind.ensures.kept before kb.tree joined) refl (λ seat has. has)

pub returns-then-is_inner_heavy-clause-count : goal.returns-then-is_inner_heavy-clause-count
returns-then-is_inner_heavy-clause-count g c =
    let stands = c.requires.sides.2.behind_it in
    let o = opened c.args.nodes.now c.args.node.behind c.node_at-up.result c.requires.sides.1 stands c.requires.some c.node_at-up.ensures in
    omega (arith, c.turn_behind.ensures.count, opened_count c.args.nodes.now c.args.node.behind c.node_at-up.result c.requires.sides.1 stands o, c.turn_before-node.ensures.count)
