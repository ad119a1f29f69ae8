use Rattle.std.proofs.Common.{◌≡◌, ◌++◌, length}
use Rattle.std.specs.Map.{keys_of, values_of}
use Rattle.row_table.specs.Stamps.{AreBelow}
use Rattle.row_table.proofs.stamped.StampedRows.numbered.Given as goal

abbrev pub invariant-loop-row : goal.invariant-loop-row
invariant-loop-row l = (values_of l.numbered ++ l.row-iterator ≡ values_of l.self) × AreBelow (length l.numbered) (keys_of l.numbered)
