use Rattle.std.proofs.Common.{rules, ◌≡◌, ◌⊎◌, ◌-◌, ◌<◌, ◌≤◌, length, refl, sym, subst, arith}
use Rattle.std.specs.Prelude.{insert}
use Rattle.sorted_list.specs.Trees.{Becomes, HasSeat, items_of}
use Rattle.sorted_list.proofs.TreeLemmas.{counts, opened, opened_count, stands_within}
use Rattle.sorted_list.proofs.WayLemmas.{fresh_parts, gap_behind, inserted_alone, inserted_before, inserted_behind, joins_inserted_before, joins_inserted_behind, no_tree, node_kept_before, node_kept_behind}
use Rattle.sorted_list.proofs.nodes.+insert.Goals as goal

pub returns-then-branch-eq0-clause-inserted : goal.returns-then-branch-eq0-clause-inserted
returns-then-branch-eq0-clause-inserted g t c = λ tree item stands lone fresh.
    subst (λ s. Becomes c.args.nodes.now c.args.nodes.now (record { seat = c.args.seat; count = 1 }) (insert (items_of s) c.args.place item) (λ own. (own ≡ c.args.seat) ⊎ HasSeat s own)) (sym (no_tree c.args.nodes.now c.args.branch tree stands c.if-branch-eq0.true))
    (inserted_alone c.args.nodes.now c.args.place c.args.seat item lone)

pub node_at-node-requires : goal.node_at-node-requires
node_at-node-requires g t c = stands_within c.args.nodes.now c.args.branch c.requires.tree.0 c.requires.tree.1 (omega (arith, c.if-branch-eq0.false))

pub insert-wider-requires : goal.insert-wider-requires
insert-wider-requires g t c κs within =
    let tree = c.requires.tree.0 in
    let stands = c.requires.tree.1 in
    let o = opened c.args.nodes.now c.args.branch c.node_at-node.result tree stands (omega (arith, c.if-branch-eq0.false)) c.node_at-node.ensures in
    let counted = opened_count c.args.nodes.now c.args.branch c.node_at-node.result tree stands o in
    let less : c.node_at-node.result.before.count < c.args.branch.count = omega (arith, counted) in
    let gap : c.args.place ≤ length (items_of o.before) = omega (arith, c.if-place-before.true, counts c.args.nodes.now c.node_at-node.result.before o.before o.joins.before_it) in
    (search rules, (search rules, (c.requires.alone, ((o.before, o.joins.before_it, (fresh_parts c.args.nodes.now c.args.branch c.node_at-node.result tree o c.args.place c.args.seat c.requires.tree.2).not_before, gap), omega (arith, c.requires.few, less)))))

pub insert-wider-requires-else-place-before : goal.insert-wider-requires-else-place-before
insert-wider-requires-else-place-before g t c κs within =
    let tree = c.requires.tree.0 in
    let stands = c.requires.tree.1 in
    let o = opened c.args.nodes.now c.args.branch c.node_at-node.result tree stands (omega (arith, c.if-branch-eq0.false)) c.node_at-node.ensures in
    let counted = opened_count c.args.nodes.now c.args.branch c.node_at-node.result tree stands o in
    let less : c.node_at-node.result.behind.count < c.args.branch.count = omega (arith, counted) in
    (search rules, (search rules, (c.requires.alone, ((o.behind, o.joins.behind_it, (fresh_parts c.args.nodes.now c.args.branch c.node_at-node.result tree o c.args.place c.args.seat c.requires.tree.2).not_behind, gap_behind c.args.nodes.now c.args.branch c.node_at-node.result tree o c.args.place c.if-place-before.false c.requires.tree.3), omega (arith, c.requires.few, less)))))

pub balanced-requires-clause-sides : goal.balanced-requires-clause-sides
balanced-requires-clause-sides g t c =
    let tree = c.requires.tree.0 in
    let old = c.args.nodes.now in
    let node = c.node_at-node.result in
    let item = c.requires.alone.0 in
    let o = opened old c.args.branch node tree c.requires.tree.1 (omega (arith, c.if-branch-eq0.false)) c.node_at-node.ensures in
    let f = fresh_parts old c.args.branch node tree o c.args.place c.args.seat c.requires.tree.2 in
    let list = insert (items_of o.before) c.args.place item in
    let became = c.insert-wider.ensures.inserted o.before item o.joins.before_it c.requires.alone.1 f.not_before in
    let kept = node_kept_before old c.args.branch node tree o c.args.place item c.args.seat c.requires.tree.2 c.insert-wider.new.nodes c.insert-wider.result list became c.node_at-node.ensures in
    (node, became.tree, o.behind, kept, joins_inserted_before old c.args.branch node tree o c.args.place item c.args.seat c.requires.tree.2 c.insert-wider.new.nodes (record { item = node.item; before = c.insert-wider.result; behind = node.behind }) list became refl)

pub balanced-requires-else-place-before-clause-sides : goal.balanced-requires-else-place-before-clause-sides
balanced-requires-else-place-before-clause-sides g t c =
    let tree = c.requires.tree.0 in
    let old = c.args.nodes.now in
    let node = c.node_at-node.result in
    let item = c.requires.alone.0 in
    let call = c.insert-wider-else-place-before in
    let o = opened old c.args.branch node tree c.requires.tree.1 (omega (arith, c.if-branch-eq0.false)) c.node_at-node.ensures in
    let f = fresh_parts old c.args.branch node tree o c.args.place c.args.seat c.requires.tree.2 in
    let list = insert (items_of o.behind) (c.args.place - node.before.count - 1) item in
    let became = call.ensures.inserted o.behind item o.joins.behind_it c.requires.alone.1 f.not_behind in
    let kept = node_kept_behind old c.args.branch node tree o c.args.place item c.args.seat c.requires.tree.2 call.new.nodes call.result list became c.node_at-node.ensures in
    (node, o.before, became.tree, kept, joins_inserted_behind old c.args.branch node tree o c.args.place item c.args.seat c.requires.tree.2 call.new.nodes (record { item = node.item; before = node.before; behind = call.result }) list became refl)

pub returns-then-place-before-clause-inserted : goal.returns-then-place-before-clause-inserted
returns-then-place-before-clause-inserted g t c = λ tree item stands lone fresh.
    let old = c.args.nodes.now in
    let node = c.node_at-node.result in
    let call = c.insert-wider in
    let o = opened old c.args.branch node tree stands (omega (arith, c.if-branch-eq0.false)) c.node_at-node.ensures in
    let f = fresh_parts old c.args.branch node tree o c.args.place c.args.seat fresh in
    let list = insert (items_of o.before) c.args.place item in
    let became = call.ensures.inserted o.before item o.joins.before_it lone f.not_before in
    let kept = node_kept_before old c.args.branch node tree o c.args.place item c.args.seat fresh call.new.nodes call.result list became c.node_at-node.ensures in
    let joined = joins_inserted_before old c.args.branch node tree o c.args.place item c.args.seat fresh call.new.nodes (record { item = node.item; before = call.result; behind = node.behind }) list became refl in
    inserted_before old c.args.branch node tree o c.args.place item c.args.seat fresh call.new.nodes c.balanced.new.nodes call.result c.balanced.result became c.if-place-before.true (c.balanced.ensures.kept node became.tree o.behind kept joined)

pub returns-else-place-before-clause-inserted : goal.returns-else-place-before-clause-inserted
returns-else-place-before-clause-inserted g t c = λ tree item stands lone fresh.
    let old = c.args.nodes.now in
    let node = c.node_at-node.result in
    let call = c.insert-wider-else-place-before in
    let over = c.balanced-else-place-before in
    let o = opened old c.args.branch node tree stands (omega (arith, c.if-branch-eq0.false)) c.node_at-node.ensures in
    let f = fresh_parts old c.args.branch node tree o c.args.place c.args.seat fresh in
    let list = insert (items_of o.behind) (c.args.place - node.before.count - 1) item in
    let became = call.ensures.inserted o.behind item o.joins.behind_it lone f.not_behind in
    let kept = node_kept_behind old c.args.branch node tree o c.args.place item c.args.seat fresh call.new.nodes call.result list became c.node_at-node.ensures in
    let joined = joins_inserted_behind old c.args.branch node tree o c.args.place item c.args.seat fresh call.new.nodes (record { item = node.item; before = node.before; behind = call.result }) list became refl in
    inserted_behind old c.args.branch node tree o c.args.place item c.args.seat fresh call.new.nodes over.new.nodes call.result over.result became c.if-place-before.false (over.ensures.kept node o.before became.tree kept joined)
