use Rattle.std.proofs.Common.{ap, arith, rules}
use Rattle.std.proofs.lemmas.List.Sorted.{answers_always}
use Rattle.depend_lists.specs.declared.nodes.Node.{Node}
use Rattle.depend_lists.specs.Pairs.{count_of}
use Rattle.writeback_order.specs.Order.{rank_of}
use Rattle.writeback_order.proofs.DistinctLemmas.{apart_permutation}
use Rattle.writeback_order.proofs.OrderLemmas.{closure_permutation, rising_from_sorted}
use Rattle.writeback_order.proofs.scratches.order.Goals as goal

-- there is room for a mark for each pair
pub reach-requires-clause-room : goal.reach-requires-clause-room
reach-requires-clause-room c =
    let one_caps = rw (← c.into.view_is) at c.requires in
    omega (arith, c.len.ensures.len, c.len.ensures.few, c.into.invariant.1, ap count_of one_caps)

-- and for the root behind all that was gathered
pub push_reserved-requires : goal.push_reserved-requires
push_reserved-requires c =
    let sort = c.sort_unstable_by_key in
    let one_caps = rw (← c.into.view_is) at c.requires in
    omega (arith, sort.ensures.len, sort.ensures.capacity, c.gather.ensures.few, c.gather.ensures.capacity, c.into.invariant.0, ap count_of one_caps)

-- what was gathered was sorted, and the root came behind
pub returns-clause-order : goal.returns-clause-order
returns-clause-order c =
    let gathered = c.gather.new.nodes.items in
    let sort = c.sort_unstable_by_key in
    let sorted = sort.new.self.items in
    let moved = sort.ensures.permutation in
    let apart = apart_permutation (λ (n : Node). n.ident) gathered sorted moved c.gather.ensures.apart in
    let by_key = sort.ensures.sorted (λ node. (rank_of node.class, node.ident.serial, node.ident)) (answers_always _ _ _ (λ f a r h called. search rules)) in
    record {
      dependents = sorted;
      closure = closure_permutation c.args.depends.now.pairs c.args.root.ident gathered sorted moved c.gather.ensures.closure;
      rising = rising_from_sorted sorted by_key apart;
      root_last = c.push_reserved.ensures.items;
    }
