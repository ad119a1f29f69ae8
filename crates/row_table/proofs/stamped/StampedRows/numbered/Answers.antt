use Rattle.std.proofs.Common.{◌∙◌, ◌∷◌, ◌++◌, [], ap, sym, subst}
use Rattle.std.specs.Map.{values_of}
use Rattle.row_table.specs.Stamps.{HaveOneRow}
use Rattle.row_table.proofs.PageLemmas.{none_before}
use Rattle.row_table.proofs.StampLemmas.{numbered_more}
use Rattle.row_table.proofs.stamped.StampedRows.numbered.Goals as goal

pub add-requires-clause-page : goal.add-requires-clause-page
add-requires-clause-page c =
    let whole = ap (λ rest. values_of c.loop-row.numbered ++ rest) (sym (rw c.in-Some.is at c.next.ensures.steps)) ∙ c.loop-row.invariant.0 in
    none_before (values_of c.loop-row.numbered) c.in-Some.row.now c.next.new.self (subst HaveOneRow (sym whole) c.iter-row-items.ensures.one_row)

pub loop-row-preserved : goal.loop-row-preserved
loop-row-preserved c =
    let whole = ap (λ rest. values_of c.loop-row.numbered ++ rest) (sym (rw c.in-Some.is at c.next.ensures.steps)) ∙ c.loop-row.invariant.0 in
    let is = c.in_ok-add.ensures.ok ∙ ap (λ place. c.loop-row.numbered ++ (place, c.in-Some.row.now) ∷ []) c.len-place.ensures in
    numbered_more c.loop-row.numbered c.add.new.self c.in-Some.row.now _ c.next.new.self whole c.loop-row.invariant.1 is
