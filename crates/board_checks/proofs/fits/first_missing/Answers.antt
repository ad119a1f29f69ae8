use Rattle.std.proofs.Common.{sym, ◌∙◌}
use Rattle.desc_tables.specs.row_store.specs.Kept.{signal_names}
use Rattle.board_checks.specs.Facts.{is_missing}
use Rattle.board_checks.proofs.FitLemmas.{find_none_more, found_here, missing_row, none_found}
use Rattle.board_checks.proofs.fits.first_missing.Goals as goal

pub returns-then-is_missing : goal.returns-then-is_missing
returns-then-is_missing c =
    let contents = c.args.tables.now.contents in
    let loop = c.loop-name in
    sym (found_here (signal_names contents.rows c.args.frame) c.into_iter-name-iterator.result (cc) loop.yielded _ loop.yielded_by _ _ c.next.ensures.steps (is_missing contents) loop.invariant c.in-Some.name c.in-Some.is (sym c.if-is_missing.ensures))
    ∙ missing_row contents c.are_sound.ensures.sound.1.whole.one c.args.frame

pub loop-name-preserved : goal.loop-name-preserved
loop-name-preserved c = find_none_more (is_missing c.args.tables.now.contents) c.loop-name.yielded c.in-Some.name c.loop-name.invariant (sym c.if-is_missing.ensures)

pub returns : goal.returns
returns c =
    let contents = c.args.tables.now.contents in
    let loop = c.loop-name in
    sym (none_found (signal_names contents.rows c.args.frame) c.into_iter-name-iterator.result (cc) loop.yielded _ loop.yielded_by _ _ c.next.ensures.steps (is_missing contents) loop.invariant c.in-None.is)
    ∙ missing_row contents c.are_sound.ensures.sound.1.whole.one c.args.frame
