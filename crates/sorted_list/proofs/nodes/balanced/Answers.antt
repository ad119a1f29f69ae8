use Rattle.std.proofs.Common.{◌+◌, sym, ◌∙◌, subst}
use Rattle.std.proofs.lemmas.Option.{slice_get_within}
use Rattle.sorted_list.specs.Trees.{fork, Joins, Keeps}
use Rattle.sorted_list.proofs.TreeLemmas.{put_keeps, some_same}
use Rattle.sorted_list.proofs.nodes.balanced.Goals as goal

pub node_at-item-requires : goal.node_at-item-requires
node_at-item-requires g c = slice_get_within c.args.nodes.now c.args.seat c.requires.sides.0 c.requires.sides.3

pub raise_before-requires-clause-seat : goal.raise_before-requires-clause-seat
raise_before-requires-clause-seat g c = slice_get_within c.args.nodes.now c.args.seat c.requires.sides.0 c.requires.sides.3

pub raise_before-requires-clause-sides : goal.raise_before-requires-clause-sides
raise_before-requires-clause-sides g c =
    let s = c.requires.sides in
    let same = some_same _ _ (sym s.3 ∙ c.node_at-item.ensures) in
    (s.1, s.2, subst (λ n. Joins c.args.nodes.now c.args.seat (record { item = n.item; before = c.args.before; behind = c.args.behind }) s.1 s.2) same s.4)

pub raise_behind-requires-clause-seat : goal.raise_behind-requires-clause-seat
raise_behind-requires-clause-seat g c = slice_get_within c.args.nodes.now c.args.seat c.requires.sides.0 c.requires.sides.3

pub raise_behind-requires-clause-sides : goal.raise_behind-requires-clause-sides
raise_behind-requires-clause-sides g c =
    let s = c.requires.sides in
    let same = some_same _ _ (sym s.3 ∙ c.node_at-item.ensures) in
    (s.1, s.2, subst (λ n. Joins c.args.nodes.now c.args.seat (record { item = n.item; before = c.args.before; behind = c.args.behind }) s.1 s.2) same s.4)

pub set_branches-requires : goal.set_branches-requires
set_branches-requires g c = slice_get_within c.args.nodes.now c.args.seat c.requires.sides.0 c.requires.sides.3

pub returns-then-is_too_heavy-clause-kept : goal.returns-then-is_too_heavy-clause-kept
returns-then-is_too_heavy-clause-kept g c = λ node first second read joins.
    let same = some_same _ _ (sym read ∙ c.node_at-item.ensures) in
    subst (λ n. Keeps c.args.nodes.now c.raise_before.new.nodes c.raise_before.result (fork c.args.seat first n.item second)) (sym same)
    (c.raise_before.ensures.kept first second (subst (λ n. Joins c.args.nodes.now c.args.seat (record { item = n.item; before = c.args.before; behind = c.args.behind }) first second) same joins))

pub returns-then-is_too_heavy-2-clause-kept : goal.returns-then-is_too_heavy-2-clause-kept
returns-then-is_too_heavy-2-clause-kept g c = λ node first second read joins.
    let same = some_same _ _ (sym read ∙ c.node_at-item.ensures) in
    subst (λ n. Keeps c.args.nodes.now c.raise_behind.new.nodes c.raise_behind.result (fork c.args.seat first n.item second)) (sym same)
    (c.raise_behind.ensures.kept first second (subst (λ n. Joins c.args.nodes.now c.args.seat (record { item = n.item; before = c.args.before; behind = c.args.behind }) first second) same joins))

pub returns-else-is_too_heavy-2-clause-kept : goal.returns-else-is_too_heavy-2-clause-kept
returns-else-is_too_heavy-2-clause-kept g c = λ node first second read joins.
    let within = slice_get_within c.args.nodes.now c.args.seat node read in
    subst (λ l. Keeps c.args.nodes.now l (record { seat = c.args.seat; count = c.args.before.count + c.args.behind.count + 1 }) (fork c.args.seat first node.item second)) (sym (c.set_branches.ensures node read))
    (put_keeps c.args.nodes.now c.args.seat (record { item = node.item; before = c.args.before; behind = c.args.behind }) first second within joins)
