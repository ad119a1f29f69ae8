use Rattle.std.proofs.Common.{◌≡◌, ◌<◌, Some, length, sym, ◌∙◌, ap, subst}
use Rattle.std.specs.Option.{option_map}
use Rattle.cache_ident.specs.declared.names.Name.TheVariants as name
use Rattle.cache_ident.specs.declared.names.ThreadNo.{ThreadNo}
use Rattle.board_laws.specs.desc_stores.specs.declared.items.Item.TheVariants as item
use Rattle.board_laws.specs.desc_stores.specs.Contents.{content_of}
use Rattle.board_laws.specs.desc_stores.specs.Items as items
use Rattle.cached_machine.proofs.StepLaws.{number_found}
use Rattle.cached_machine.proofs.stepping.note.Goals as goal

-- what is found under a number has it
pub note-requires : goal.note-requires
note-requires c =
    let found = c.in-Some-Thread in
    let contents = c.args.tables.now.contents in
    let is : content_of contents (name.Thread c.args.no) ≡ Some (item.Thread found.thread.now) = sym c.item_near.ensures ∙ ap (option_map items.shown) (found.is ∙ ap Some found.field-0-is) in
    subst (λ (number : ThreadNo). number.0 < length c.args.sets.now.completable) (sym (number_found contents c.args.no found.thread.now is)) c.requires
