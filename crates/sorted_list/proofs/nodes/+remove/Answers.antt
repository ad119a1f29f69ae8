use Rattle.std.proofs.Common.{rules, ◌-◌, ◌<◌, length, get_or, refl, arith}
use Rattle.std.proofs.lemmas.Option.{slice_get-get_or}
use Rattle.std.specs.Prelude.{remove}
use Rattle.sorted_list.specs.Trees.{items_of}
use Rattle.sorted_list.proofs.TreeLemmas.{counts, opened, opened_count, seat_within}
use Rattle.sorted_list.proofs.WayLemmas.{found_before, found_behind, found_here, joins_next, joins_removed_before, joins_removed_behind, node_left_before, node_left_behind, place_behind, removed_before, removed_behind, removed_last, removed_next}
use Rattle.sorted_list.proofs.nodes.+remove.Goals as goal

pub balanced-requires-clause-sides : goal.balanced-requires-clause-sides
balanced-requires-clause-sides g t c =
    let tree = c.requires.0 in
    let old = c.args.nodes.now in
    let node = c.node_at-node.result in
    let call = c.remove-gone in
    let o = opened old c.args.branch node tree c.requires.1 (omega (arith, c.requires.2, counts old c.args.branch tree c.requires.1)) c.node_at-node.ensures in
    let list = remove (items_of o.before) c.args.place in
    let became = call.ensures.left o.before o.joins.before_it in
    let kept = node_left_before old c.args.branch node tree o c.args.place call.new.nodes call.result.1 call.result.0 list became c.node_at-node.ensures in
    (node, became.tree, o.behind, kept, joins_removed_before old c.args.branch node tree o c.args.place call.new.nodes (record { item = node.item; before = call.result.1; behind = node.behind }) call.result.0 list became refl)

pub remove-gone-requires-then-place-before-2 : goal.remove-gone-requires-then-place-before-2
remove-gone-requires-then-place-before-2 g t c κs within =
    let tree = c.requires.0 in
    let old = c.args.nodes.now in
    let o = opened old c.args.branch c.node_at-node.result tree c.requires.1 (omega (arith, c.requires.2, counts old c.args.branch tree c.requires.1)) c.node_at-node.ensures in
    let less : c.node_at-node.result.behind.count < c.args.branch.count = omega (arith, opened_count old c.args.branch c.node_at-node.result tree c.requires.1 o) in
    (search rules, (search rules, (o.behind, o.joins.behind_it, place_behind old c.args.branch c.node_at-node.result tree o c.args.place c.if-place-before-2.true c.requires.2)))

pub balanced-requires-then-place-before-2-clause-sides : goal.balanced-requires-then-place-before-2-clause-sides
balanced-requires-then-place-before-2-clause-sides g t c =
    let tree = c.requires.0 in
    let old = c.args.nodes.now in
    let node = c.node_at-node.result in
    let call = c.remove-gone-then-place-before-2 in
    let o = opened old c.args.branch node tree c.requires.1 (omega (arith, c.requires.2, counts old c.args.branch tree c.requires.1)) c.node_at-node.ensures in
    let list = remove (items_of o.behind) (c.args.place - node.before.count - 1) in
    let became = call.ensures.left o.behind o.joins.behind_it in
    let kept = node_left_behind old c.args.branch node tree o c.args.place call.new.nodes call.result.1 call.result.0 list became c.node_at-node.ensures in
    (node, o.before, became.tree, kept, joins_removed_behind old c.args.branch node tree o c.args.place call.new.nodes (record { item = node.item; before = node.before; behind = call.result.1 }) call.result.0 list became refl)

pub remove-next-requires : goal.remove-next-requires
remove-next-requires g t c κs within =
    let tree = c.requires.0 in
    let old = c.args.nodes.now in
    let o = opened old c.args.branch c.node_at-node.result tree c.requires.1 (omega (arith, c.requires.2, counts old c.args.branch tree c.requires.1)) c.node_at-node.ensures in
    let less : c.node_at-node.result.behind.count < c.args.branch.count = omega (arith, opened_count old c.args.branch c.node_at-node.result tree c.requires.1 o) in
    (search rules, (search rules, (o.behind, o.joins.behind_it, omega (arith, c.if-node-eq0.false, counts old c.node_at-node.result.behind o.behind o.joins.behind_it))))

pub balanced-requires-else-node-eq0-clause-sides : goal.balanced-requires-else-node-eq0-clause-sides
balanced-requires-else-node-eq0-clause-sides g t c =
    let tree = c.requires.0 in
    let old = c.args.nodes.now in
    let node = c.node_at-node.result in
    let call = c.remove-next in
    let mid = call.new.nodes in
    let next = call.result.0 in
    let o = opened old c.args.branch node tree c.requires.1 (omega (arith, c.requires.2, counts old c.args.branch tree c.requires.1)) c.node_at-node.ensures in
    let became = call.ensures.left o.behind o.joins.behind_it in
    let was = call.ensures.gone o.behind o.joins.behind_it in
    let within : next < length mid = omega (arith, call.auto.nodes, seat_within old o.behind next o.joins.behind_it.lies was.0) in
    let above = get_or mid next node in
    (above, o.before, became.tree, slice_get-get_or mid next node within, joins_next old c.args.branch node tree o c.args.place mid next above (record { item = above.item; before = node.before; behind = call.result.1 }) became was refl)

pub balanced-requires-else-node-eq0-clause-few : goal.balanced-requires-else-node-eq0-clause-few
balanced-requires-else-node-eq0-clause-few g t c =
    let tree = c.requires.0 in
    let old = c.args.nodes.now in
    let o = opened old c.args.branch c.node_at-node.result tree c.requires.1 (omega (arith, c.requires.2, counts old c.args.branch tree c.requires.1)) c.node_at-node.ensures in
    let counted = opened_count old c.args.branch c.node_at-node.result tree c.requires.1 o in
    let next = c.remove-next.ensures.count in
    search (rules, arith)

pub returns-then-place-before-clause-gone : goal.returns-then-place-before-clause-gone
returns-then-place-before-clause-gone g t c = λ tree stands.
    let old = c.args.nodes.now in
    let node = c.node_at-node.result in
    let o = opened old c.args.branch node tree stands (omega (arith, c.requires.2, counts old c.args.branch c.requires.0 c.requires.1)) c.node_at-node.ensures in
    found_before old c.args.branch node tree o c.args.place c.remove-gone.result.0 c.if-place-before.true (c.remove-gone.ensures.gone o.before o.joins.before_it)

pub returns-then-place-before-clause-left : goal.returns-then-place-before-clause-left
returns-then-place-before-clause-left g t c = λ tree stands.
    let old = c.args.nodes.now in
    let node = c.node_at-node.result in
    let call = c.remove-gone in
    let o = opened old c.args.branch node tree stands (omega (arith, c.requires.2, counts old c.args.branch c.requires.0 c.requires.1)) c.node_at-node.ensures in
    let became = call.ensures.left o.before o.joins.before_it in
    let list = remove (items_of o.before) c.args.place in
    let kept = node_left_before old c.args.branch node tree o c.args.place call.new.nodes call.result.1 call.result.0 list became c.node_at-node.ensures in
    let joined = joins_removed_before old c.args.branch node tree o c.args.place call.new.nodes (record { item = node.item; before = call.result.1; behind = node.behind }) call.result.0 list became refl in
    removed_before old c.args.branch node tree o c.args.place call.new.nodes c.balanced.new.nodes call.result.0 call.result.1 c.balanced.result became (call.ensures.gone o.before o.joins.before_it).0 c.if-place-before.true (c.balanced.ensures.kept node became.tree o.behind kept joined)

pub returns-then-place-before-2-clause-gone : goal.returns-then-place-before-2-clause-gone
returns-then-place-before-2-clause-gone g t c = λ tree stands.
    let old = c.args.nodes.now in
    let node = c.node_at-node.result in
    let call = c.remove-gone-then-place-before-2 in
    let o = opened old c.args.branch node tree stands (omega (arith, c.requires.2, counts old c.args.branch c.requires.0 c.requires.1)) c.node_at-node.ensures in
    found_behind old c.args.branch node tree o c.args.place call.result.0 c.if-place-before-2.true (call.ensures.gone o.behind o.joins.behind_it)

pub returns-then-place-before-2-clause-left : goal.returns-then-place-before-2-clause-left
returns-then-place-before-2-clause-left g t c = λ tree stands.
    let old = c.args.nodes.now in
    let node = c.node_at-node.result in
    let call = c.remove-gone-then-place-before-2 in
    let o = opened old c.args.branch node tree stands (omega (arith, c.requires.2, counts old c.args.branch c.requires.0 c.requires.1)) c.node_at-node.ensures in
    let became = call.ensures.left o.behind o.joins.behind_it in
    let list = remove (items_of o.behind) (c.args.place - node.before.count - 1) in
    let kept = node_left_behind old c.args.branch node tree o c.args.place call.new.nodes call.result.1 call.result.0 list became c.node_at-node.ensures in
    let joined = joins_removed_behind old c.args.branch node tree o c.args.place call.new.nodes (record { item = node.item; before = node.before; behind = call.result.1 }) call.result.0 list became refl in
    removed_behind old c.args.branch node tree o c.args.place call.new.nodes c.balanced-then-place-before-2.new.nodes call.result.0 call.result.1 c.balanced-then-place-before-2.result became (call.ensures.gone o.behind o.joins.behind_it).0 c.if-place-before-2.true (c.balanced-then-place-before-2.ensures.kept node o.before became.tree kept joined)

pub returns-then-node-eq0-clause-gone : goal.returns-then-node-eq0-clause-gone
returns-then-node-eq0-clause-gone g t c = λ tree stands.
    let old = c.args.nodes.now in
    let node = c.node_at-node.result in
    let o = opened old c.args.branch node tree stands (omega (arith, c.requires.2, counts old c.args.branch c.requires.0 c.requires.1)) c.node_at-node.ensures in
    found_here old c.args.branch node tree o c.args.place (omega (arith, c.if-place-before.false, c.if-place-before-2.false)) c.node_at-node.ensures

pub returns-then-node-eq0-clause-left : goal.returns-then-node-eq0-clause-left
returns-then-node-eq0-clause-left g t c = λ tree stands.
    let old = c.args.nodes.now in
    let node = c.node_at-node.result in
    let o = opened old c.args.branch node tree stands (omega (arith, c.requires.2, counts old c.args.branch c.requires.0 c.requires.1)) c.node_at-node.ensures in
    removed_last old c.args.branch node tree o c.args.place (omega (arith, c.if-place-before.false, c.if-place-before-2.false)) c.if-node-eq0.true

pub returns-else-node-eq0-clause-gone : goal.returns-else-node-eq0-clause-gone
returns-else-node-eq0-clause-gone g t c = λ tree stands.
    let old = c.args.nodes.now in
    let node = c.node_at-node.result in
    let o = opened old c.args.branch node tree stands (omega (arith, c.requires.2, counts old c.args.branch c.requires.0 c.requires.1)) c.node_at-node.ensures in
    found_here old c.args.branch node tree o c.args.place (omega (arith, c.if-place-before.false, c.if-place-before-2.false)) c.node_at-node.ensures

pub returns-else-node-eq0-clause-left : goal.returns-else-node-eq0-clause-left
returns-else-node-eq0-clause-left g t c = λ tree stands.
    let old = c.args.nodes.now in
    let node = c.node_at-node.result in
    let call = c.remove-next in
    let mid = call.new.nodes in
    let next = call.result.0 in
    let over = c.balanced-else-node-eq0 in
    let o = opened old c.args.branch node tree stands (omega (arith, c.requires.2, counts old c.args.branch c.requires.0 c.requires.1)) c.node_at-node.ensures in
    let became = call.ensures.left o.behind o.joins.behind_it in
    let was = call.ensures.gone o.behind o.joins.behind_it in
    let within : next < length mid = omega (arith, call.auto.nodes, seat_within old o.behind next o.joins.behind_it.lies was.0) in
    let above = get_or mid next node in
    let read = slice_get-get_or mid next node within in
    let joined = joins_next old c.args.branch node tree o c.args.place mid next above (record { item = above.item; before = node.before; behind = call.result.1 }) became was refl in
    removed_next old c.args.branch node tree o c.args.place mid next above (record { item = above.item; before = node.before; behind = call.result.1 }) became was over.new.nodes over.result (omega (arith, c.if-place-before.false, c.if-place-before-2.false)) read (over.ensures.kept above o.before became.tree read joined)

pub returns-else-node-eq0-clause-count : goal.returns-else-node-eq0-clause-count
returns-else-node-eq0-clause-count g t c =
    let tree = c.requires.0 in
    let old = c.args.nodes.now in
    let o = opened old c.args.branch c.node_at-node.result tree c.requires.1 (omega (arith, c.requires.2, counts old c.args.branch tree c.requires.1)) c.node_at-node.ensures in
    omega (arith, opened_count old c.args.branch c.node_at-node.result tree c.requires.1 o, c.remove-next.ensures.count, c.balanced-else-node-eq0.ensures.count)
