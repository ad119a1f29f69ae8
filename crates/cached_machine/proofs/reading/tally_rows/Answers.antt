use Rattle.cache_ident.specs.declared.idents.Kind.TheVariants.{Mapping}
use Rattle.board_laws.specs.desc_parents.proofs.RowLemmas.{all_gone, fewer_gone}
use Rattle.board_laws.specs.desc_stores.specs.Contents.{names_of}
use Rattle.cached_machine.proofs.ReadLaws.{all_counted, few_counted, none_counted_more, one_counted_more}
use Rattle.cached_machine.proofs.reading.tally_rows.Goals as goal

pub add-requires : goal.add-requires
add-requires c =
    let contents = c.args.tables.now.contents in
    let loop = c.loop-name in
    let fewer = fewer_gone (names_of contents Mapping) c.into_iter-name-iterator.result (cc) loop.yielded _ loop.yielded_by _ _ c.next.ensures.steps c.in-Some.name c.in-Some.is in
    few_counted contents loop.yielded contents.space_count (names_of contents Mapping) loop.tally fewer c.requires loop.invariant

pub loop-name-preserved-in-Some-row_named : goal.loop-name-preserved-in-Some-row_named
loop-name-preserved-in-Some-row_named c =
    let contents = c.args.tables.now.contents in
    let loop = c.loop-name in
    one_counted_more contents loop.yielded contents.space_count c.in-Some.name c.add.new.self c.in-Some-row_named.row.now c.in-Some-row_named.ensures (c.add.ensures _ contents.space_count loop.invariant)

pub loop-name-preserved : goal.loop-name-preserved
loop-name-preserved c =
    let contents = c.args.tables.now.contents in
    let loop = c.loop-name in
    none_counted_more contents loop.yielded contents.space_count c.in-Some.name loop.tally c.in_default.ensures loop.invariant

pub returns : goal.returns
returns c = λ machine memory.
    let contents = c.args.tables.now.contents in
    let loop = c.loop-name in
    let all = all_gone (names_of contents Mapping) c.into_iter-name-iterator.result (cc) loop.yielded _ loop.yielded_by _ _ c.next.ensures.steps c.in-None.is in
    all_counted contents loop.yielded loop.tally all loop.invariant machine memory (c.known.ensures.listed machine memory).spaces
