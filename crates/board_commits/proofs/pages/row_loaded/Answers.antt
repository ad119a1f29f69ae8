use Rattle.std.proofs.Common.{◌≡◌, None, Some, ap, sym, ◌∙◌}
use Rattle.board_threads.specs.desc_stores.specs.declared.items.Item.TheVariants as item
use Rattle.board_threads.specs.desc_stores.specs.declared.items.ItemRef.{ItemRef}
use Rattle.board_threads.specs.desc_stores.specs.declared.items.ItemRef.TheVariants as ref
use Rattle.board_threads.specs.desc_stores.specs.Contents.{item_as}
use Rattle.board_threads.specs.desc_stores.specs.Items.{shown}
use Rattle.board_threads.specs.desc_tables.specs.Tables.{Held}
use Rattle.board_threads.specs.board_core.specs.Core.{contents_of}
use Rattle.board_threads.proofs.IdentLemmas.{row_named, shows_row}
use Rattle.board_commits.proofs.PageLaws.{row_is}
use Rattle.board_commits.proofs.pages.row_loaded.Goals as goal

pub unreachable-requires : goal.unreachable-requires
unreachable-requires c =
    let b = c.args.core.now in
    let found = row_named (contents_of b) c.tables.ensures.sound.1.whole.one c.args.ident c.args.space c.args.vpn c.requires.loaded in
    let none : None ≡ Some (item.Mapping found.0) = c.in_default.ensures ∙ ap (λ (h : Held). item_as h.contents c.args.ident) c.tables.ensures.tables ∙ found.1 in
    cc

pub unreachable-requires-in_default-item : goal.unreachable-requires-in_default-item
unreachable-requires-in_default-item c =
    let b = c.args.core.now in
    let found = row_named (contents_of b) c.tables.ensures.sound.1.whole.one c.args.ident c.args.space c.args.vpn c.requires.loaded in
    let its = shows_row (Some c.in-Some.item) found.0 (c.in-Some.ensures ∙ ap (λ (h : Held). item_as h.contents c.args.ident) c.tables.ensures.tables ∙ found.1) in
    let is : Some c.in-Some.item ≡ Some (ref.Mapping its.0) = its.1 in
    c.in_default-item.not-Mapping its.0 (cc)

pub returns : goal.returns
returns c =
    let b = c.args.core.now in
    let is : item_as (contents_of b) c.args.ident ≡ Some (item.Mapping c.in-Mapping.row.now) =
    ap (λ (h : Held). item_as h.contents c.args.ident) (sym c.tables.ensures.tables) ∙ sym c.in-Some.ensures ∙ ap (λ (r : ItemRef). Some (shown r)) c.in-Mapping.is in
    record { loaded = c.requires.loaded; there = sym (row_is b c.tables.ensures.sound.1.whole.one c.args.ident c.args.space c.args.vpn c.requires.loaded c.in-Mapping.row.now is) }
