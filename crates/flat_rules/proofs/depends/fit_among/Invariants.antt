use Rattle.std.proofs.Common.{◌≡◌, ◌≤◌, filter, length, take}
use Rattle.flat_state.specs.Translation.{is_fit_row}
use Rattle.flat_rules.proofs.depends.fit_among.Given as goal

abbrev pub invariant-loop-row : goal.invariant-loop-row
invariant-loop-row g l = (l.fit.items ≡ filter (is_fit_row (g.T.Records.state l.tables)) (take l.row-index l.rows)) × (length l.fit.items ≤ l.row-index)
