use Rattle.std.proofs.Common.{sym, ap, ◌∙◌}
use Rattle.std.specs.Option.{option_copied}
use Rattle.flat_rules.proofs.Known.{found_there, row_has_space, row_in_memory}
use Rattle.flat_rules.proofs.translation.is_fit.Goals as goal

pub is_fit_row-requires-clause-space : goal.is_fit_row-requires-clause-space
is_fit_row-requires-clause-space g c =
    let s = g.T.Records.state c.args.tables.now in
    let row = c.in-Some.row.now in
    row_has_space s c.holds.ensures row (found_there s c.holds.ensures c.args.space c.args.vpn.0 row (sym c.row.ensures ∙ ap option_copied c.in-Some.is))

pub is_fit_row-requires-clause-frame : goal.is_fit_row-requires-clause-frame
is_fit_row-requires-clause-frame g c =
    let s = g.T.Records.state c.args.tables.now in
    let row = c.in-Some.row.now in
    (row_in_memory s c.holds.ensures row (found_there s c.holds.ensures c.args.space c.args.vpn.0 row (sym c.row.ensures ∙ ap option_copied c.in-Some.is))).below
