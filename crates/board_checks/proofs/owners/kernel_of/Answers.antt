use Rattle.std.proofs.Common.{Some, None, ◌∙◌, ap}
use Rattle.desc_tables.specs.desc_stores.specs.declared.items.ItemRef.TheVariants as ref
use Rattle.desc_tables.specs.desc_parents.proofs.FitLemmas.{owner_found}
use Rattle.board_checks.proofs.owners.kernel_of.Goals as goal

pub returns-in-Some-Space : goal.returns-in-Some-Space
returns-in-Some-Space c =
    let found = c.in-Some-Space in
    owner_found c.args.tables.now.contents c.are_sound.ensures.sound.1.whole.one c.item_near.result (Some (ref.Space found.found)) (found.is ∙ ap Some found.field-0-is) c.args.space c.item_near.ensures

pub returns-in_default-2 : goal.returns-in_default-2
returns-in_default-2 c = owner_found c.args.tables.now.contents c.are_sound.ensures.sound.1.whole.one c.item_near.result None c.in_default.is c.args.space c.item_near.ensures
