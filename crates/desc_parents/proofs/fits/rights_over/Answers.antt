use Rattle.std.proofs.Common.{Some, None, ◌∙◌, ap}
use Rattle.store_residents.specs.desc_stores.specs.declared.items.ItemRef.TheVariants as ref
use Rattle.desc_parents.proofs.FitLemmas.{none_over, none_right, rights_found}
use Rattle.desc_parents.proofs.fits.rights_over.Goals as goal

pub returns-in_default : goal.returns-in_default
returns-in_default c = rw c.none-none.ensures (none_over c.args.stores.now c.args.space c.in_default.ensures)

pub returns-in-Some-Kernel : goal.returns-in-Some-Kernel
returns-in-Some-Kernel c =
    let found = c.in-Some-Kernel in
    rights_found c.args.stores.now c.each_is_one.ensures c.item.result (Some (ref.Kernel found.found)) (found.is ∙ ap Some found.field-0-is) c.args.space c.in-Some.kernel c.in-Some.ensures c.item.ensures

pub returns-in_default-item-2 : goal.returns-in_default-item-2
returns-in_default-item-2 c = λ group.
    rw c.none-none.ensures (none_right group ∙ rights_found c.args.stores.now c.each_is_one.ensures c.item.result None c.in_default-item.is c.args.space c.in-Some.kernel c.in-Some.ensures c.item.ensures group)
