use Rattle.std.proofs.Common.{Some, sym, ◌∙◌, ap}
use Rattle.std.specs.Option.{option_map}
use Rattle.board_checks.specs.desc_stores.specs.declared.items.ItemRef.{ItemRef}
use Rattle.board_checks.specs.desc_stores.specs.Contents.{item_as}
use Rattle.board_checks.specs.desc_stores.specs.Items.{shown}
use Rattle.board_checks.specs.desc_tables.specs.Tables.{Held}
use Rattle.board_core.specs.cached_machine.specs.Cached.{state_of}
use Rattle.board_calls.proofs.RowLaws.{row_known, row_there}
use Rattle.board_calls.proofs.leaving.goes.Goals as goal

pub is_fit-requires-clause-space : goal.is_fit-requires-clause-space
is_fit-requires-clause-space c =
    let m = c.args.machine.now in
    let is = ap (λ (h : Held). item_as h.contents c.args.ident) (sym c.tables.ensures.tables) ∙ sym c.get.ensures ∙ ap (option_map shown) (c.in-Some-Mapping.is ∙ ap (λ (r : ItemRef). Some r) c.in-Some-Mapping.field-0-is) in
    (row_known (state_of m) c.known.ensures.formed c.in-Some-Mapping.row.now (row_there (Some m.machine) m.memory m.held.contents c.known.ensures.one c.args.ident c.in-Some-Mapping.row.now is)).0

pub is_fit-requires-clause-frame : goal.is_fit-requires-clause-frame
is_fit-requires-clause-frame c =
    let m = c.args.machine.now in
    let is = ap (λ (h : Held). item_as h.contents c.args.ident) (sym c.tables.ensures.tables) ∙ sym c.get.ensures ∙ ap (option_map shown) (c.in-Some-Mapping.is ∙ ap (λ (r : ItemRef). Some r) c.in-Some-Mapping.field-0-is) in
    (row_known (state_of m) c.known.ensures.formed c.in-Some-Mapping.row.now (row_there (Some m.machine) m.memory m.held.contents c.known.ensures.one c.args.ident c.in-Some-Mapping.row.now is)).1
