use Rattle.std.proofs.Common.{◌≡◌, ◌≤◌, filter, length, take}
use Rattle.board_chains.specs.Ranks.{is_row}
use Rattle.board_chains.proofs.chains.row_parents.Given as goal

-- the rows so far
abbrev pub invariant-loop-parent : goal.invariant-loop-parent
invariant-loop-parent l = record {
  rows : l.rows.items ≡ filter is_row (take l.parent-index l.above);
  few : length l.rows.items ≤ l.parent-index;
}
