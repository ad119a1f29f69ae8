use Rattle.std.proofs.Common.{◌≡◌, ◌/◌, Some, sym, ap, ◌∙◌}
use Rattle.std.specs.Option.{option_copied}
use Rattle.phys_groups.specs.Translation.{row_of}
use Rattle.flat_rules.proofs.Known.{found_space, found_there, row_in_memory}
use Rattle.flat_rules.proofs.translation.reached.Goals as goal

pub rights_of-requires : goal.rights_of-requires
rights_of-requires g c =
    let s = g.T.Records.state c.args.tables.now in
    let found : row_of s.rows c.args.space (c.args.va / 4096) ≡ Some c.in-Some.row.now = sym c.row.ensures ∙ ap option_copied c.in-Some.is in
    found_space s c.holds.ensures c.args.space (c.args.va / 4096) c.in-Some.row.now found

pub covers-requires : goal.covers-requires
covers-requires g c =
    let s = g.T.Records.state c.args.tables.now in
    let found : row_of s.rows c.args.space (c.args.va / 4096) ≡ Some c.in-Some.row.now = sym c.row.ensures ∙ ap option_copied c.in-Some.is in
    (row_in_memory s c.holds.ensures c.in-Some.row.now (found_there s c.holds.ensures c.args.space (c.args.va / 4096) c.in-Some.row.now found)).below

pub returns-clause-in_memory : goal.returns-clause-in_memory
returns-clause-in_memory g c =
    let s = g.T.Records.state c.args.tables.now in
    let found : row_of s.rows c.args.space (c.args.va / 4096) ≡ Some c.in-Some.row.now = sym c.row.ensures ∙ ap option_copied c.in-Some.is in
    row_in_memory s c.holds.ensures c.in-Some.row.now (found_there s c.holds.ensures c.args.space (c.args.va / 4096) c.in-Some.row.now found)
