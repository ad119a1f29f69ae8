use Rattle.std.proofs.Common.{◌≡◌, ◌∙◌, List, get_or, Contains, sym, subst}
use Rattle.std.proofs.lemmas.List.Elements.{Contains-get_or}
use Rattle.cache_ident.specs.declared.names.Name.{Name}
use Rattle.cache_ident.specs.Names.{first_name}
use Rattle.flat_state.specs.Dependence.{parents}
use Rattle.cached_machine.specs.Cached.{state_of}
use Rattle.board_chains.specs.Chains.{IsPart, StartsWith}
use Rattle.board_chains.specs.Lists.{with_also}
use Rattle.board_chains.proofs.ListLemmas.{also_starts, also_there}
use Rattle.board_chains.proofs.ChainLemmas.{all_parents_there, closed_at, one_parent_more, part_grows, room_for, starts_so}
use Rattle.board_chains.proofs.above.add_parents.Goals as goal

pub add-requires : goal.add-requires
add-requires c =
    let s = state_of c.args.machine.now in
    let loop = c.loop-parent in
    let above = c.as_slice-above.result.now in
    let parent : Name = get_or above loop.parent-index first_name in
    let are : above ≡ parents s c.args.name = c.as_slice-above.ensures.value ∙ c.parents-found.ensures in
    let some = c.requires.part in
    let depends : Contains (parents s c.args.name) parent = subst (λ (xs : List Name). Contains xs parent) are (Contains-get_or above loop.parent-index first_name c.loop-parent-test.true) in
    room_for s c.holds.ensures some.0 loop.names.items parent (loop.invariant.part some.0 some.1) (closed_at s c.holds.ensures some.0 c.args.name (some.1.among c.args.name c.requires.its) parent depends)

pub loop-parent-preserved : goal.loop-parent-preserved
loop-parent-preserved c =
    let s = state_of c.args.machine.now in
    let loop = c.loop-parent in
    let above = c.as_slice-above.result.now in
    let parent : Name = get_or above loop.parent-index first_name in
    let are : above ≡ parents s c.args.name = c.as_slice-above.ensures.value ∙ c.parents-found.ensures in
    let depends : Contains (parents s c.args.name) parent = subst (λ (xs : List Name). Contains xs parent) are (Contains-get_or above loop.parent-index first_name c.loop-parent-test.true) in
    let now : with_also loop.names.items parent ≡ c.add.new.names.items = sym c.add.ensures in
    let starts : StartsWith loop.names.items c.add.new.names.items = subst (StartsWith loop.names.items) now (also_starts loop.names.items parent) in
    record {
      part = λ n part. subst (IsPart s n) now (part_grows s c.holds.ensures n loop.names.items parent (loop.invariant.part n part) (closed_at s c.holds.ensures n c.args.name (part.among c.args.name c.requires.its) parent depends));
      starts = starts_so c.args.names.now.items loop.names.items c.add.new.names.items loop.invariant.starts starts;
      all = one_parent_more above loop.names.items c.add.new.names.items starts loop.parent-index first_name c.loop-parent-test.true loop.invariant.all (subst (λ (xs : List Name). Contains xs parent) now (also_there loop.names.items parent));
    }

pub returns-clause-has : goal.returns-clause-has
returns-clause-has c =
    let s = state_of c.args.machine.now in
    all_parents_there s c.args.name c.as_slice-above.result.now c.loop-parent.names.items (c.as_slice-above.ensures.value ∙ c.parents-found.ensures) c.loop-parent.parent-index c.loop-parent-test.false c.loop-parent.invariant.all
