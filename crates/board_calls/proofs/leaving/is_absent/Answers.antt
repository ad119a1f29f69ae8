use Rattle.std.proofs.Common.{IfSome, IfNone, subst}
use Rattle.cache_ident.specs.Residents.{IsNameResident, IsResident}
use Rattle.phys_groups.specs.Rows.{row_name}
use Rattle.board_checks.specs.desc_stores.specs.Contents.{residents_of}
use Rattle.board_checks.specs.desc_tables.specs.Tables.{Held}
use Rattle.board_calls.proofs.RowLaws.{absent_told}
use Rattle.board_calls.proofs.leaving.is_absent.Goals as goal

pub returns : goal.returns
returns c =
    let row = c.args.row.now in
    let found = subst (λ (h : Held). IfSome c.resident.result (λ ident. IsResident (residents_of h.contents) ident (row_name row))) c.tables.ensures.tables c.resident.ensures.found in
    let absent = subst (λ (h : Held). IfNone c.resident.result (IsNameResident (residents_of h.contents) (row_name row) → ⊥)) c.tables.ensures.tables c.resident.ensures.absent in
    absent_told c.args.machine.now.held.contents c.known.ensures.one row c.resident.result found absent c.is_none.result c.is_none.ensures
