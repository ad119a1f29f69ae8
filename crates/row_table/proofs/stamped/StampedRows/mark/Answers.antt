use Rattle.std.proofs.Common.{◌∙◌, true, map, ap, sym}
use Rattle.std.specs.Map.{values_of}
use Rattle.row_table.specs.Pages.{is_of}
use Rattle.row_table.specs.Rows.{marked_on}
use Rattle.row_table.proofs.OnlyOne.{map-none, none_from_find}
use Rattle.row_table.proofs.ProperLemmas.{mark_if}
use Rattle.row_table.proofs.StampLemmas.{AreStamped-mark, no_row, row_at, values_marked}
use Rattle.row_table.proofs.stamped.StampedRows.mark.Goals as goal

pub invariant_of-self : goal.invariant_of-self
invariant_of-self c =
    let entries = c.self.inside.rows.entries in
    let row = c.in-Some-get_mut.row.now in
    let has = sym c.in-Some.ensures.value in
    let reads = sym (row_at entries c.self.inside.stamps c.self.invariant c.args.page c.in-Some.stamp.now has) ∙ sym c.in-Some-get_mut.ensures.value in
    let written = c.get_mut.follows.holds (mark_if true c.args.written row) in
    rw written.0 (AreStamped-mark entries c.self.inside.stamps c.self.invariant c.args.page c.in-Some.stamp.now has row reads c.args.written (rw (← written.0) written.4))

pub returns-in-Some-get_mut : goal.returns-in-Some-get_mut
returns-in-Some-get_mut c =
    let entries = c.self.inside.rows.entries in
    let row = c.in-Some-get_mut.row.now in
    let has = sym c.in-Some.ensures.value in
    let reads = sym (row_at entries c.self.inside.stamps c.self.invariant c.args.page c.in-Some.stamp.now has) ∙ sym c.in-Some-get_mut.ensures.value in
    ap values_of (c.get_mut.follows.holds (mark_if true c.args.written row)).0
    ∙ values_marked entries c.self.inside.stamps c.self.invariant c.args.page c.in-Some.stamp.now has row reads c.args.written
    ∙ ap (λ es. map (marked_on c.args.page c.args.written) (values_of es)) c.self.view_is

pub returns-in_default-get_mut : goal.returns-in_default-get_mut
returns-in_default-get_mut c =
    let entries = c.self.inside.rows.entries in
    let none = none_from_find (is_of c.args.page) (values_of entries)
    (sym (row_at entries c.self.inside.stamps c.self.invariant c.args.page c.in-Some.stamp.now (sym c.in-Some.ensures.value)) ∙ sym c.in_default-get_mut.ensures.value) in
    ap (λ m. values_of m.entries) c.get_mut.follows.holds-at-none
    ∙ sym (map-none (is_of c.args.page) (marked_on c.args.page c.args.written) (λ other fails. ap (λ b. mark_if b c.args.written other) fails) (values_of entries) none)
    ∙ ap (λ es. map (marked_on c.args.page c.args.written) (values_of es)) c.self.view_is

pub returns-in_default : goal.returns-in_default
returns-in_default c =
    let entries = c.self.inside.rows.entries in
    rw (← c.self.view_is)
    (sym (map-none (is_of c.args.page) (marked_on c.args.page c.args.written) (λ other fails. ap (λ b. mark_if b c.args.written other) fails) (values_of entries)
    (no_row entries c.self.inside.stamps c.self.invariant c.args.page (sym c.in_default.ensures.value))))
