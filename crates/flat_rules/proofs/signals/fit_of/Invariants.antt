use Rattle.std.proofs.Common.{◌≡◌, map, take}
use Rattle.flat_state.specs.Translation.{is_fit_row}
use Rattle.flat_rules.proofs.signals.fit_of.Given as goal

abbrev pub invariant-loop-row : goal.invariant-loop-row
invariant-loop-row g l = l.fit.items ≡ map (is_fit_row (g.T.Records.state l.tables)) (take l.row-index l.rows)
