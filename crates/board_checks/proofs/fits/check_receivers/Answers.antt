use Rattle.std.proofs.Common.{Some, refl, ◌∙◌, ap}
use Rattle.cache_ident.specs.declared.names.Name.{Name}
use Rattle.board_checks.proofs.FitLemmas.{message_tested, no_message, no_row_of_name, row_of_name}
use Rattle.board_checks.proofs.fits.check_receivers.Goals as goal

pub returns-then-not-row : goal.returns-then-not-row
returns-then-not-row c = no_message c.args.tables.now.contents c.args.row.now c.if-not-row.true

pub returns-in-Some-Mapping : goal.returns-in-Some-Mapping
returns-in-Some-Mapping c = row_of_name _ c.first_missing.result c.first_missing.ensures c.in-Some-Mapping.space c.in-Some-Mapping.vpn (c.in-Some-Mapping.is ∙ ap (λ (n : Name). Some n) c.in-Some-Mapping.field-0-is) ∙ message_tested c.args.tables.now.contents c.args.row.now c.if-not-row.false _ refl

pub returns-in_default-2 : goal.returns-in_default-2
returns-in_default-2 c = no_row_of_name _ c.first_missing.result c.first_missing.ensures c.in_default.is ∙ message_tested c.args.tables.now.contents c.args.row.now c.if-not-row.false _ refl
