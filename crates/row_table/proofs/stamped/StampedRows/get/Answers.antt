use Rattle.std.proofs.Common.{◌∙◌, find, ap, sym}
use Rattle.std.specs.Map.{values_of}
use Rattle.row_table.specs.Pages.{is_of}
use Rattle.row_table.proofs.OnlyOne.{find-none}
use Rattle.row_table.proofs.StampLemmas.{no_row, row_at}
use Rattle.row_table.proofs.stamped.StampedRows.get.Goals as goal

pub returns-in_err-stamp : goal.returns-in_err-stamp
returns-in_err-stamp c =
    let entries = c.self.inside.rows.entries in
    rw c.from_residual.ensures
    (sym (find-none (is_of c.args.page) (values_of entries) (no_row entries c.self.inside.stamps c.self.invariant c.args.page (sym c.in_err-stamp.ensures.value)))
    ∙ ap (λ es. find (is_of c.args.page) (values_of es)) c.self.view_is)

pub returns : goal.returns
returns c =
    c.get-2.ensures.value
    ∙ row_at c.self.inside.rows.entries c.self.inside.stamps c.self.invariant c.args.page c.in_ok-stamp.stamp.now (sym c.in_ok-stamp.ensures.value)
    ∙ ap (λ es. find (is_of c.args.page) (values_of es)) c.self.view_is
