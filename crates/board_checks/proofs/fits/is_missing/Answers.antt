use Rattle.std.proofs.Common.{Some, sym, ◌∙◌, ap}
use Rattle.desc_tables.specs.desc_stores.specs.Items.{shown}
use Rattle.desc_tables.specs.shown_state.specs.Shown.{row_of_item}
use Rattle.desc_tables.specs.desc_parents.proofs.RowLemmas.{row_shown}
use Rattle.board_checks.proofs.FitLemmas.{ident_tested, is_none_told, missing_tested}
use Rattle.board_checks.proofs.fits.is_missing.Goals as goal

pub is_fit-requires : goal.is_fit-requires
is_fit-requires c =
    let found = c.in-Some-Mapping in
    let is = ap row_of_item (sym found.ensures ∙ ap (λ x. Some (shown x)) found.field-0-is) in
    record { frame = c.are_sound.ensures.sound.1.whole.rows.framed found.row.now (row_shown c.args.tables.now.contents c.are_sound.ensures.sound.1.whole.one c.args.name found.row.now is) }

pub returns-then-is_fit : goal.returns-then-is_fit
returns-then-is_fit c =
    let found = c.in-Some-Mapping in
    let is = ap row_of_item (sym found.ensures ∙ ap (λ x. Some (shown x)) found.field-0-is) in
    let none = is_none_told c.resident.result c.is_none.result c.is_none.ensures in
    let tested = ident_tested c.args.tables.now.contents c.are_sound.ensures.sound.1.whole.one c.args.name c.resident.result c.resident.ensures.found c.resident.ensures.absent in
    missing_tested c.args.tables.now.contents c.are_sound.ensures.sound.1.whole.one c.args.name found.row.now is c.resident.result tested _ c.is_none.result c.if-is_fit.ensures none
