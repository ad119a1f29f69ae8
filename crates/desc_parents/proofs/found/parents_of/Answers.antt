use Rattle.std.proofs.Common.{◌≡◌, [], ◌∷◌, Some, ap, subst}
use Rattle.cache_ident.specs.declared.names.Name.TheVariants as name
use Rattle.store_residents.specs.desc_stores.specs.declared.items.Item.TheVariants as item
use Rattle.store_residents.specs.desc_stores.specs.declared.items.ItemRef.{ItemRef}
use Rattle.store_residents.specs.desc_stores.specs.Contents.{content_of, residents_of}
use Rattle.store_residents.specs.desc_stores.specs.Items.{name_of, shown}
use Rattle.shown_state.specs.Shown.{row_of_item}
use Rattle.group_laws.specs.flat_state.specs.Dependence.{parents_of_row}
use Rattle.desc_parents.specs.Seen.{seen}
use Rattle.desc_parents.proofs.ParentLemmas.{are_apart, are_of_item}
use Rattle.desc_parents.proofs.RowLemmas.{from_nothing, parents_apart, row_shown}
use Rattle.desc_parents.proofs.found.parents_of.Goals as goal

pub add_those_of_row-requires-clause-there : goal.add_those_of_row-requires-clause-there
add_those_of_row-requires-clause-there c =
    let found = c.in-Mapping in
    let stands = subst (λ (r : ItemRef). content_of c.args.stores.now (name_of (shown r)) ≡ Some (shown r)) found.is c.requires.stands in
    row_shown c.args.stores.now c.each_is_one.ensures (name_of (item.Mapping found.row.now)) found.row.now (ap row_of_item stands)

-- a kernel depends on nothing
pub returns-in-Kernel-clause-parents : goal.returns-in-Kernel-clause-parents
returns-in-Kernel-clause-parents c =
    are_of_item c.args.stores.now c.each_is_one.ensures c.args.item c.in-Kernel.is c.requires.stands c.new-parents.result.items c.new-parents.ensures

pub returns-in-Space-clause-parents : goal.returns-in-Space-clause-parents
returns-in-Space-clause-parents c =
    are_of_item c.args.stores.now c.each_is_one.ensures c.args.item c.in-Space.is c.requires.stands c.add.new.parents.items
    (from_nothing (residents_of c.args.stores.now) (name.Kernel c.in-Space.space.now.kernel ∷ []) c.new-parents.result.items c.add.new.parents.items c.new-parents.ensures c.add.ensures)

pub returns-in-Thread-clause-parents : goal.returns-in-Thread-clause-parents
returns-in-Thread-clause-parents c =
    are_of_item c.args.stores.now c.each_is_one.ensures c.args.item c.in-Thread.is c.requires.stands c.add-in-Thread.new.parents.items
    (from_nothing (residents_of c.args.stores.now) (name.Space c.in-Thread.thread.now.space ∷ []) c.new-parents.result.items c.add-in-Thread.new.parents.items c.new-parents.ensures c.add-in-Thread.ensures)

pub returns-in-Mapping-clause-parents : goal.returns-in-Mapping-clause-parents
returns-in-Mapping-clause-parents c =
    are_of_item c.args.stores.now c.each_is_one.ensures c.args.item c.in-Mapping.is c.requires.stands c.add_those_of_row.new.parents.items c.add_those_of_row.ensures

pub returns-in-Mapping-clause-apart : goal.returns-in-Mapping-clause-apart
returns-in-Mapping-clause-apart c =
    let contents = c.args.stores.now in
    let one = c.each_is_one.ensures in
    are_apart contents one (parents_of_row (seen contents) c.in-Mapping.row.now) c.add_those_of_row.new.parents.items c.add_those_of_row.ensures (parents_apart contents one c.in-Mapping.row.now)
