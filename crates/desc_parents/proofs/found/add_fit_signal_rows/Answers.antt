use Rattle.std.proofs.Common.{filter, sym, ◌∙◌, ap, subst, arith}
use Rattle.store_residents.specs.desc_stores.specs.Contents.{residents_of}
use Rattle.shown_state.specs.row_store.specs.Kept.{signal_names}
use Rattle.desc_parents.specs.Idents.{HasAlsoIdentsOf}
use Rattle.desc_parents.proofs.RowLemmas.{all_gone, few_idents, few_names, fewer_gone, fit_in, fit_names, none_more, one_more}
use Rattle.desc_parents.proofs.found.add_fit_signal_rows.Goals as goal

pub add-requires : goal.add-requires
add-requires c =
    let contents = c.args.stores.now in
    let loop = c.loop-name in
    let fewer = fewer_gone (signal_names contents.rows c.args.frame) c.into_iter-name-iterator.result (cc) loop.yielded _ loop.yielded_by _ _ c.next.ensures.steps c.in-Some.name c.in-Some.is in
    let few = few_names contents c.each_is_one.ensures c.args.frame c.requires.rows in
    let has = few_idents (residents_of contents) (fit_in contents) c.args.parents.now.items loop.yielded c.in-Some.name loop.parents.items loop.invariant in
    record { room = omega (arith, fewer, few, has, c.requires.room) }

pub loop-name-preserved-then-names_fit_row : goal.loop-name-preserved-then-names_fit_row
loop-name-preserved-then-names_fit_row c =
    let contents = c.args.stores.now in
    let loop = c.loop-name in
    one_more (residents_of contents) (fit_in contents) c.args.parents.now.items loop.yielded c.in-Some.name loop.parents.items c.add.new.parents.items loop.invariant (sym c.if-names_fit_row.ensures) c.add.ensures

pub loop-name-preserved : goal.loop-name-preserved
loop-name-preserved c =
    let contents = c.args.stores.now in
    let loop = c.loop-name in
    none_more (residents_of contents) (fit_in contents) c.args.parents.now.items loop.yielded c.in-Some.name loop.parents.items loop.invariant (sym c.if-names_fit_row.ensures)

pub returns : goal.returns
returns c =
    let contents = c.args.stores.now in
    let loop = c.loop-name in
    let all = all_gone (signal_names contents.rows c.args.frame) c.into_iter-name-iterator.result (cc) loop.yielded _ loop.yielded_by _ _ c.next.ensures.steps c.in-None.is in
    subst (HasAlsoIdentsOf (residents_of contents) c.args.parents.now.items loop.parents.items) (ap (filter (fit_in contents)) all ∙ fit_names contents c.each_is_one.ensures c.args.frame) loop.invariant
