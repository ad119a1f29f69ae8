use Rattle.std.proofs.Common.{◌≡◌, None, Some, ap, sym, ◌∙◌}
use Rattle.cache_ident.specs.declared.names.Name.TheVariants as name
use Rattle.board_checks.specs.desc_stores.specs.declared.items.Item.TheVariants as item
use Rattle.board_checks.specs.desc_stores.specs.declared.items.ItemRef.{ItemRef}
use Rattle.board_checks.specs.desc_stores.specs.declared.items.ItemRef.TheVariants as ref
use Rattle.board_checks.specs.desc_stores.specs.Contents.{item_as}
use Rattle.board_checks.specs.desc_stores.specs.Items.{shown}
use Rattle.board_checks.specs.desc_tables.specs.Tables.{Held}
use Rattle.board_checks.specs.shown_state.specs.Shown.{thread_of}
use Rattle.board_core.specs.cached_machine.specs.Cached.{Cached}
use Rattle.board_core.specs.Core.{contents_of}
use Rattle.board_threads.proofs.IdentLemmas.{content_named, record_named, shows_thread}
use Rattle.board_threads.proofs.checkouts.thread_loaded.Goals as goal

pub unreachable-requires : goal.unreachable-requires
unreachable-requires c =
    let b = c.args.core.now in
    let held : c.tables.result.now ≡ b.machine.held = c.tables.ensures.tables ∙ ap (λ (m : Cached). m.held) c.machine.ensures in
    let found = record_named (contents_of b) c.known.ensures.one c.args.ident c.args.no c.requires.loaded in
    let none : None ≡ Some (item.Thread found.0) = c.in_default.ensures ∙ ap (λ (h : Held). item_as h.contents c.args.ident) held ∙ found.1 in
    cc

pub unreachable-requires-in_default-item : goal.unreachable-requires-in_default-item
unreachable-requires-in_default-item c =
    let b = c.args.core.now in
    let held : c.tables.result.now ≡ b.machine.held = c.tables.ensures.tables ∙ ap (λ (m : Cached). m.held) c.machine.ensures in
    let found = record_named (contents_of b) c.known.ensures.one c.args.ident c.args.no c.requires.loaded in
    let its = shows_thread (Some c.in-Some.item) found.0 (c.in-Some.ensures ∙ ap (λ (h : Held). item_as h.contents c.args.ident) held ∙ found.1) in
    let is : Some c.in-Some.item ≡ Some (ref.Thread its.0) = its.1 in
    c.in_default-item.not-Thread its.0 (cc)

pub returns : goal.returns
returns c =
    let b = c.args.core.now in
    let held : c.tables.result.now ≡ b.machine.held = c.tables.ensures.tables ∙ ap (λ (m : Cached). m.held) c.machine.ensures in
    let is : item_as (contents_of b) c.args.ident ≡ Some (item.Thread c.in-Thread.thread.now) =
    ap (λ (h : Held). item_as h.contents c.args.ident) (sym held) ∙ sym c.in-Some.ensures ∙ ap (λ (r : ItemRef). Some (shown r)) c.in-Thread.is in
    sym (c.known.ensures.found.threads c.args.no.0 ∙ ap thread_of (content_named (contents_of b) c.known.ensures.one c.args.ident (name.Thread c.args.no) c.requires.loaded (item.Thread c.in-Thread.thread.now) is))
