use Rattle.std.proofs.Common.{◌≡◌, ◌++◌, List, length, take, sym, ◌∙◌, ap, subst, length-append, arith}
use Rattle.std.proofs.lemmas.List.{length-take-le, take_all}
use Rattle.cache_ident.specs.declared.names.Name.{Name}
use Rattle.cached_machine.specs.Cached.{state_of}
use Rattle.board_chains.specs.Lists.{AreAllOnce}
use Rattle.board_chains.proofs.WholeLemmas.{begins_so, known_thread, whole_so, IsWhole}
use Rattle.board_chains.proofs.chains.chain_of.Goals as goal

pub add_all_above-requires : goal.add_all_above-requires
add_all_above-requires c =
    let s = state_of c.args.machine.now in
    let next = c.args.next.now in
    let t = known_thread s c.args.no.0 next c.requires.next in
    (c.args.no.0, begins_so s c.holds.ensures c.args.no t.0 t.1 next c.requires.next (c.requires.ready t.0 t.1) c.rows_in_order-all.result.items c.push.new.self.items c.rows_in_order-all.ensures.rows c.push.ensures.items)

pub numbered_among-chain-requires-clause-apart : goal.numbered_among-chain-requires-clause-apart
numbered_among-chain-requires-clause-apart c =
    let s = state_of c.args.machine.now in
    let next = c.args.next.now in
    let t = known_thread s c.args.no.0 next c.requires.next in
    let begins = begins_so s c.holds.ensures c.args.no t.0 t.1 next c.requires.next (c.requires.ready t.0 t.1) c.rows_in_order-all.result.items c.push.new.self.items c.rows_in_order-all.ensures.rows c.push.ensures.items in
    subst AreAllOnce (sym c.deref.ensures.0) (c.add_all_above.ensures.part c.args.no.0 begins).apart

pub push-requires-in-loop-row : goal.push-requires-in-loop-row
push-requires-in-loop-row c =
    let numbered = c.numbered_among-chain.result.items in
    let rows = take c.len-count.result c.as_slice.result.now in
    let i = c.loop-row.row-index in
    let whole = let s = state_of c.args.machine.now in
    let next = c.args.next.now in
    let t = known_thread s c.args.no.0 next c.requires.next in
    whole_so s c.holds.ensures c.args.no t.0 t.1 next c.requires.next (c.requires.ready t.0 t.1) c.rows_in_order-all.result.items c.push.new.self.items c.add_all_above.new.names.items c.deref.result.now
    c.rows_in_order-all.ensures.rows c.push.ensures.items c.add_all_above.ensures.part c.add_all_above.ensures.starts c.add_all_above.ensures.closed c.deref.ensures.0
    c.numbered_among-chain.result.items c.numbered_among-chain.ensures.order c.numbered_among-chain.ensures.exact c.as_slice.result.now c.as_slice.ensures.value c.len-count.result c.len-count.ensures.value in
    let short = whole.short in
    let all = length-append numbered rows in
    let so_far : length c.loop-row.chain.items ≡ length (numbered ++ take i rows) = ap length c.loop-row.invariant.items in
    let parts = length-append numbered (take i rows) in
    let first : length (take i rows) ≡ i = length-take-le i rows (omega (arith, c.loop-row-test.true)) in
    (omega arith, omega arith)

said : (c : goal.After-loop-row) → IsWhole (state_of c.args.machine.now) c.args.no.0 c.args.next.now c.loop-row.chain.items
said c =
    let rows = take c.len-count.result c.as_slice.result.now in
    let listed : take c.loop-row.row-index rows ≡ rows = take_all c.loop-row.row-index rows c.loop-row-test.false in
    let whole = let s = state_of c.args.machine.now in
    let next = c.args.next.now in
    let t = known_thread s c.args.no.0 next c.requires.next in
    whole_so s c.holds.ensures c.args.no t.0 t.1 next c.requires.next (c.requires.ready t.0 t.1) c.rows_in_order-all.result.items c.push.new.self.items c.add_all_above.new.names.items c.deref.result.now
    c.rows_in_order-all.ensures.rows c.push.ensures.items c.add_all_above.ensures.part c.add_all_above.ensures.starts c.add_all_above.ensures.closed c.deref.ensures.0
    c.numbered_among-chain.result.items c.numbered_among-chain.ensures.order c.numbered_among-chain.ensures.exact c.as_slice.result.now c.as_slice.ensures.value c.len-count.result c.len-count.ensures.value in
    subst (IsWhole (state_of c.args.machine.now) c.args.no.0 c.args.next.now) (sym (c.loop-row.invariant.items ∙ ap (λ (xs : List Name). c.numbered_among-chain.result.items ++ xs) listed)) whole

pub returns-clause-order : goal.returns-clause-order
returns-clause-order c = (said c).order

pub returns-clause-once : goal.returns-clause-once
returns-clause-once c = (said c).once

pub returns-clause-few : goal.returns-clause-few
returns-clause-few c = (said c).few

pub returns-clause-parents : goal.returns-clause-parents
returns-clause-parents c = (said c).parents

pub returns-clause-good : goal.returns-clause-good
returns-clause-good c = (said c).good
