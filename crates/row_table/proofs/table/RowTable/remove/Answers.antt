use Rattle.std.proofs.Common.{sym}
use Rattle.std.specs.Map.{values_of}
use Rattle.row_table.specs.Pages.{is_of}
use Rattle.row_table.proofs.OnlyOne.{filter-none, none_from_find}
use Rattle.row_table.proofs.SoundnessLemmas.{IsSound-remove}
use Rattle.row_table.proofs.table.RowTable.remove.Goals as goal

pub invariant_of-self : goal.invariant_of-self
invariant_of-self c =
    rw c.remove.ensures.others
    (IsSound-remove (values_of c.self.inside.rows) c.new.result c.in-Some.row c.self.inside.signals c.remove-in-Some.new.self c.self.invariant
    (sym c.in-Some.ensures.row) c.remove-in-Some.ensures)

pub invariant_of-self-in-None : goal.invariant_of-self-in-None
invariant_of-self-in-None c =
    let rows = values_of c.self.inside.rows in
    rw (c.remove.ensures.others, filter-none (is_of c.new.result) rows (none_from_find (is_of c.new.result) rows (sym c.in-None.ensures.row))) c.self.invariant
