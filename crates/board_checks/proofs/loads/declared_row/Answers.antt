use Rattle.std.proofs.Common.{Some, ◌∙◌, ap}
use Rattle.cache_ident.specs.declared.names.Name.TheVariants as name
use Rattle.desc_tables.specs.desc_stores.specs.Items.{shown}
use Rattle.desc_tables.specs.shown_state.specs.Shown.{row_of_item}
use Rattle.desc_tables.specs.desc_parents.proofs.RowLemmas.{row_shown}
use Rattle.board_checks.proofs.GivenLemmas.{only_row}
use Rattle.board_checks.proofs.loads.declared_row.Goals as goal

pub returns-clause-its : goal.returns-clause-its
returns-clause-its c = c.in_ok-found.ensures.its ∙ ap (λ x. Some (shown x)) c.in-Mapping.is

pub returns-clause-framed : goal.returns-clause-framed
returns-clause-framed c =
    let is = c.in_ok-found.ensures.its ∙ ap (λ x. Some (shown x)) c.in-Mapping.is in
    c.are_sound.ensures.sound.1.whole.rows.framed c.in-Mapping.value.now (row_shown c.args.tables.now.contents c.are_sound.ensures.sound.1.whole.one (name.Mapping c.args.space c.args.vpn) c.in-Mapping.value.now (ap row_of_item is))

pub unreachable-requires : goal.unreachable-requires
unreachable-requires c = only_row c.args.tables.now.contents c.args.space c.args.vpn c.in_ok-found.found.item c.in_ok-found.ensures.its c.in_default.not-Mapping
