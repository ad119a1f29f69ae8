use Rattle.std.proofs.Common.{None, [], ◌∙◌, arith}
use Rattle.thread_sets.specs.row_store.specs.Kept.{signal_names}
use Rattle.board_laws.specs.desc_parents.proofs.RowLemmas.{all_gone, fewer_gone}
use Rattle.cached_machine.proofs.ReadLaws.{all_rows, few_rows, few_signals, no_row_more, one_row_more}
use Rattle.cached_machine.proofs.reading.signal_rows.Goals as goal

pub push-requires : goal.push-requires
push-requires c =
    let contents = c.args.tables.now.contents in
    let loop = c.loop-name in
    let fewer = fewer_gone (signal_names contents.rows c.args.frame) c.into_iter-name-iterator.result (cc) loop.yielded _ loop.yielded_by _ _ c.next.ensures.steps c.in-Some.name c.in-Some.is in
    let few = few_rows contents loop.yielded c.in-Some.name loop.found.items loop.invariant in
    omega (arith, fewer, few, few_signals None [] contents c.known.ensures.one c.args.frame, c.requires None [])

pub loop-name-preserved-in-Some-row_named : goal.loop-name-preserved-in-Some-row_named
loop-name-preserved-in-Some-row_named c =
    let loop = c.loop-name in
    c.push.ensures.items ∙ one_row_more c.args.tables.now.contents loop.yielded c.in-Some.name loop.found.items loop.invariant c.in-Some-row_named.row.now c.in-Some-row_named.ensures

pub loop-name-preserved : goal.loop-name-preserved
loop-name-preserved c =
    let loop = c.loop-name in
    no_row_more c.args.tables.now.contents loop.yielded c.in-Some.name loop.found.items loop.invariant c.in_default.ensures

pub returns : goal.returns
returns c = λ machine memory.
    let contents = c.args.tables.now.contents in
    let loop = c.loop-name in
    let all = all_gone (signal_names contents.rows c.args.frame) c.into_iter-name-iterator.result (cc) loop.yielded _ loop.yielded_by _ _ c.next.ensures.steps c.in-None.is in
    all_rows machine memory contents c.args.frame loop.yielded loop.found.items loop.invariant all
