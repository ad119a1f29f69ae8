use Rattle.std.proofs.Common.{◌≡◌, ◌<◌, Bool, List, filter, length, map, sym, subst, ap, ap₂, ◌∙◌}
use Rattle.std.specs.List.{All}
use Rattle.phys_groups.specs.declared.rows.Row.{Row}
use Rattle.signal_pages.specs.Signals.{is_signal_row_of, receivers_in}
use Rattle.flat_state.specs.Translation.{is_fit_row}
use Rattle.flat_rules.proofs.Known.{receivers-of-signal-rows, rows_known}
use Rattle.flat_rules.proofs.signals.receivers_of.Goals as goal

pub fit_of-fit-requires-clause-known : goal.fit_of-fit-requires-clause-known
fit_of-fit-requires-clause-known g c =
    let s = g.T.Records.state c.args.tables.now in
    let rows : filter (is_signal_row_of c.args.frame) s.rows ≡ c.deref.result.now = sym (c.deref.ensures.0 ∙ c.signal_rows-rows.ensures) in
    subst (λ (rs : List Row). All (λ row. (row.space.0 < length s.spaces) × (row.frame.0 < 2048)) rs) rows (rows_known s c.holds.ensures (is_signal_row_of c.args.frame))

pub returns : goal.returns
returns g c =
    let s = g.T.Records.state c.args.tables.now in
    let frame = c.args.frame in
    let rows = c.signal_rows-rows.ensures in
    let fits : c.deref-3.result.now ≡ map (is_fit_row s) (filter (is_signal_row_of frame) s.rows) = c.deref-3.ensures.0 ∙ c.fit_of-fit.ensures ∙ ap (map (is_fit_row s)) (c.deref.ensures.0 ∙ rows) in
    c.receivers.ensures ∙ ap₂ (λ (rs : List Row) (fs : List Bool). receivers_in frame rs fs) (c.deref-2.ensures.0 ∙ rows) fits ∙ receivers-of-signal-rows frame (is_fit_row s) s.rows
