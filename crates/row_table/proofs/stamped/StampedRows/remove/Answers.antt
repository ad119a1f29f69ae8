use Rattle.std.proofs.Common.{◌∙◌, not, filter, find, ap, sym}
use Rattle.std.specs.Map.{values_of}
use Rattle.row_table.specs.Pages.{is_of}
use Rattle.row_table.proofs.OnlyOne.{filter-none, find-none}
use Rattle.row_table.proofs.StampLemmas.{AreStamped-remove, no_row, row_at, values_without}
use Rattle.row_table.proofs.stamped.StampedRows.remove.Goals as goal

pub returns-in_err-stamp-clause-row : goal.returns-in_err-stamp-clause-row
returns-in_err-stamp-clause-row c =
    let entries = c.self.inside.rows.entries in
    c.from_residual.ensures
    ∙ sym (find-none (is_of c.args.page) (values_of entries) (no_row entries c.self.inside.stamps c.self.invariant c.args.page (sym c.in_err-stamp.ensures.value)))
    ∙ ap (λ es. find (is_of c.args.page) (values_of es)) c.self.view_is

pub returns-in_err-stamp-clause-others : goal.returns-in_err-stamp-clause-others
returns-in_err-stamp-clause-others c =
    let entries = c.self.inside.rows.entries in
    sym (filter-none (is_of c.args.page) (values_of entries) (no_row entries c.self.inside.stamps c.self.invariant c.args.page (sym c.in_err-stamp.ensures.value)))
    ∙ ap (λ es. filter (λ row. not (is_of c.args.page row)) (values_of es)) c.self.view_is

pub invariant_of-self-2 : goal.invariant_of-self-2
invariant_of-self-2 c =
    rw c.remove-2.ensures.entries
    (AreStamped-remove c.self.inside.rows.entries c.self.inside.stamps c.self.invariant c.args.page c.in_ok-stamp.stamp (sym c.in_ok-stamp.ensures.value)
    c.remove.new.self (rw (← c.remove-2.ensures.entries) c.remove-2.ensures.ordered) c.remove.ensures.updates.0)

pub returns-clause-row : goal.returns-clause-row
returns-clause-row c =
    c.remove-2.ensures.value
    ∙ row_at c.self.inside.rows.entries c.self.inside.stamps c.self.invariant c.args.page c.in_ok-stamp.stamp (sym c.in_ok-stamp.ensures.value)
    ∙ ap (λ es. find (is_of c.args.page) (values_of es)) c.self.view_is

pub returns-clause-others : goal.returns-clause-others
returns-clause-others c =
    ap values_of c.remove-2.ensures.entries
    ∙ values_without c.self.inside.rows.entries c.self.inside.stamps c.self.invariant c.args.page c.in_ok-stamp.stamp (sym c.in_ok-stamp.ensures.value)
    ∙ ap (λ es. filter (λ row. not (is_of c.args.page row)) (values_of es)) c.self.view_is
