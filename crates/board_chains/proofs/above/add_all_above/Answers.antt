use Rattle.std.proofs.Common.{◌≡◌, List, slice_get, Some, sym, subst, arith}
use Rattle.std.proofs.lemmas.Option.{get_or_from_slice_get, slice_get_within}
use Rattle.cache_ident.specs.declared.names.Name.{Name}
use Rattle.flat_state.proofs.Places.{Contains-from_get}
use Rattle.cached_machine.specs.Cached.{state_of}
use Rattle.board_chains.proofs.ChainLemmas.{all_closed, one_further, starts_so}
use Rattle.board_chains.proofs.above.add_all_above.Goals as goal

pub add_parents-requires-clause-part : goal.add_parents-requires-clause-part
add_parents-requires-clause-part c = let some = c.requires in (some.0, c.loop-at.invariant.part some.0 some.1)

pub add_parents-requires-clause-its : goal.add_parents-requires-clause-its
add_parents-requires-clause-its c =
    let loop = c.loop-at in
    Contains-from_get loop.names.items loop.at c.name_at-name.result (subst (λ (xs : List Name). slice_get xs loop.at ≡ Some c.name_at-name.result) c.as_slice.ensures.value c.name_at-name.ensures)

pub loop-at-preserved : goal.loop-at-preserved
loop-at-preserved c =
    let loop = c.loop-at in
    let name = c.name_at-name.result in
    let at : slice_get loop.names.items loop.at ≡ Some name = subst (λ (xs : List Name). slice_get xs loop.at ≡ Some name) c.as_slice.ensures.value c.name_at-name.ensures in
    let is = sym (get_or_from_slice_get loop.names.items loop.at name name at) in
    let starts = c.add_parents.ensures.starts in
    record {
      part = λ n part. c.add_parents.ensures.part n (loop.invariant.part n part);
      starts = starts_so c.args.names.now.items loop.names.items c.add_parents.new.names.items loop.invariant.starts starts;
      closed = one_further (state_of c.args.machine.now) loop.names.items c.add_parents.new.names.items starts loop.at name (slice_get_within loop.names.items loop.at name at) is loop.invariant.closed c.add_parents.ensures.has;
    }

pub returns-clause-closed : goal.returns-clause-closed
returns-clause-closed c = all_closed (state_of c.args.machine.now) c.loop-at.names.items c.loop-at.at (omega (arith, c.loop-at-test.false, c.len.ensures.value)) c.loop-at.invariant.closed
