use Rattle.std.proofs.Common.{Some, None, ◌∙◌, ap}
use Rattle.store_residents.specs.desc_stores.specs.declared.items.ItemRef.TheVariants as ref
use Rattle.desc_parents.proofs.FitLemmas.{owner_found}
use Rattle.desc_parents.proofs.fits.kernel_of.Goals as goal

pub returns-in-Some-Space : goal.returns-in-Some-Space
returns-in-Some-Space c =
    let found = c.in-Some-Space in
    owner_found c.args.stores.now c.each_is_one.ensures c.item.result (Some (ref.Space found.found)) (found.is ∙ ap Some found.field-0-is) c.args.space c.item.ensures

pub returns-in_default-2 : goal.returns-in_default-2
returns-in_default-2 c = owner_found c.args.stores.now c.each_is_one.ensures c.item.result None c.in_default.is c.args.space c.item.ensures
