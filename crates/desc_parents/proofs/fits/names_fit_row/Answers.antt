use Rattle.std.proofs.Common.{Some, ◌∙◌, ap, sym}
use Rattle.store_residents.specs.desc_stores.specs.Items.{shown}
use Rattle.shown_state.specs.Shown.{row_of_item}
use Rattle.desc_parents.proofs.RowLemmas.{row_shown}
use Rattle.desc_parents.proofs.fits.names_fit_row.Goals as goal

pub is_fit-requires : goal.is_fit-requires
is_fit-requires c =
    let found = c.in-Some-Mapping in
    let is = ap row_of_item (sym found.ensures ∙ ap (λ x. Some (shown x)) found.field-0-is) in
    record { frame = c.requires.rows.framed found.row.now (row_shown c.args.stores.now c.each_is_one.ensures c.args.name found.row.now is) }
