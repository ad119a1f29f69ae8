use Rattle.std.proofs.Common.{◌≡◌, ◌<◌, ◌&&◌, List, filter, length, sym, subst, ap, ◌∙◌}
use Rattle.std.specs.List.{All}
use Rattle.phys_groups.specs.declared.rows.Row.{Row}
use Rattle.signal_pages.specs.Signals.{is_signal_row_of}
use Rattle.flat_state.specs.Translation.{is_fit_row}
use Rattle.flat_rules.proofs.Known.{filter-both, rows_known}
use Rattle.flat_rules.proofs.depends.signal_rows_of.Goals as goal

pub fit_among-requires-clause-known : goal.fit_among-requires-clause-known
fit_among-requires-clause-known g c =
    let s = g.T.Records.state c.args.tables.now in
    let frame = c.args.row.now.frame in
    let rows : filter (is_signal_row_of frame) s.rows ≡ c.deref.result.now = sym (c.deref.ensures.0 ∙ c.signal_rows.ensures) in
    subst (λ (rs : List Row). All (λ row. (row.space.0 < length s.spaces) × (row.frame.0 < 2048)) rs) rows (rows_known s c.holds.ensures (is_signal_row_of frame))

pub returns-then-row : goal.returns-then-row
returns-then-row g c =
    let s = g.T.Records.state c.args.tables.now in
    let frame = c.args.row.now.frame in
    let fit : c.fit_among.result.items ≡ filter (λ other. is_signal_row_of frame other && is_fit_row s other) s.rows = c.fit_among.ensures ∙ ap (filter (is_fit_row s)) (c.deref.ensures.0 ∙ c.signal_rows.ensures) ∙ filter-both (is_signal_row_of frame) (is_fit_row s) s.rows in
    rw c.if-row.true fit
