-- What is loaded with the identifier is the row of its own page.
use Rattle.std.proofs.Common.{◌≡◌, Some, ap, ap₂, sym, ◌∙◌, subst}
use Rattle.std.proofs.lemmas.Bool.{eqb-true}
use Rattle.cache_ident.specs.declared.names.SpaceNo.{SpaceNo}
use Rattle.cache_ident.specs.declared.names.Vpn.{Vpn}
use Rattle.cache_ident.specs.declared.names.Name.TheVariants as name
use Rattle.cache_ident.specs.Residents.{IsResident}
use Rattle.board_threads.specs.desc_stores.specs.declared.items.Item.TheVariants as item
use Rattle.board_threads.specs.desc_stores.specs.declared.items.ItemRef.{ItemRef}
use Rattle.board_threads.specs.desc_stores.specs.Contents.{item_as, residents_of}
use Rattle.board_threads.specs.desc_stores.specs.Items.{shown}
use Rattle.board_threads.specs.desc_tables.specs.Tables.{Held}
use Rattle.board_threads.specs.board_checks.proofs.IdentifierLemmas.{item_resident}
use Rattle.board_threads.specs.board_core.specs.Core.{contents_of}
use Rattle.board_commits.proofs.PageLaws.{row_is}
use Rattle.board_commits.proofs.pages.row_as.Goals as goal

pub returns-in-Some-Mapping : goal.returns-in-Some-Mapping
returns-in-Some-Mapping c =
    let b = c.args.core.now in
    let one = c.tables.ensures.sound.1.whole.one in
    let row = c.in-Some-Mapping.row.now in
    let is : item_as (contents_of b) c.args.ident ≡ Some (item.Mapping row) =
    ap (λ (h : Held). item_as h.contents c.args.ident) (sym c.tables.ensures.tables) ∙ sym c.in-Some-Mapping.ensures ∙ ap (λ (r : ItemRef). Some (shown r)) c.in-Some-Mapping.field-0-is in
    let space : row.space ≡ c.args.space = ap (λ n. let s : SpaceNo = record { 0 = n } in s) (eqb-true row.space.0 c.args.space.0 (sym c.eq.ensures ∙ c.if-eq.true)) in
    let vpn : row.vpn ≡ c.args.vpn = ap (λ n. let v : Vpn = record { 0 = n } in v) (eqb-true row.vpn.0 c.args.vpn.0 (sym c.eq-then-eq.ensures ∙ c.if-eq-2.true)) in
    let named : name.Mapping row.space row.vpn ≡ name.Mapping c.args.space c.args.vpn = ap₂ (λ (s : SpaceNo) (v : Vpn). name.Mapping s v) space vpn in
    let loaded = subst (IsResident (residents_of (contents_of b)) c.args.ident) named (item_resident (contents_of b) c.args.ident one (item.Mapping row) is) in
    record { loaded = loaded; there = sym (row_is b one c.args.ident c.args.space c.args.vpn loaded row is) }
