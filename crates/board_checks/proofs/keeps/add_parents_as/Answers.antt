use Rattle.std.proofs.Common.{sym, subst}
use Rattle.desc_tables.specs.desc_stores.specs.Items.{shown}
use Rattle.board_checks.specs.Keeps.{IsOrIsAbove}
use Rattle.board_checks.proofs.KeepLemmas.{item_above, item_keeps, nothing_keeps}
use Rattle.board_checks.proofs.keeps.add_parents_as.Goals as goal

pub add_parents-requires : goal.add_parents-requires
add_parents-requires c =
    let contents = c.args.tables.now.contents in
    let some = c.requires.kept in
    record {
      formed = c.requires.formed;
      above = (some.0, some.1, some.2, subst (IsOrIsAbove contents some.0) (sym c.name.ensures) (item_above contents c.are_sound.ensures.sound.1.whole.one c.args.ident (shown c.in-Some.item) (sym c.in-Some.ensures) some.0 c.args.keep.now.items some.2 c.requires.its));
    }

pub returns-in-Some-clause-kept : goal.returns-in-Some-clause-kept
returns-in-Some-clause-kept c =
    let contents = c.args.tables.now.contents in
    λ root kept. c.add_parents.ensures.kept root kept (subst (IsOrIsAbove contents root) (sym c.name.ensures) (item_above contents c.are_sound.ensures.sound.1.whole.one c.args.ident (shown c.in-Some.item) (sym c.in-Some.ensures) root c.args.keep.now.items kept c.requires.its))

pub returns-in-Some-clause-has : goal.returns-in-Some-clause-has
returns-in-Some-clause-has c = item_keeps c.args.tables.now.contents c.are_sound.ensures.sound.1.whole.one c.args.ident (shown c.in-Some.item) (sym c.in-Some.ensures) c.add_parents.new.keep.items c.name.result c.name.ensures c.add_parents.ensures.has

pub returns-in_default-clause-has : goal.returns-in_default-clause-has
returns-in_default-clause-has c = nothing_keeps c.args.tables.now.contents c.are_sound.ensures.sound.1.whole.one c.args.ident c.args.keep.now.items c.in_default.ensures
