use Rattle.std.proofs.Common.{◌≡◌, ◌∙◌, ap, sym, Some}
use Rattle.desc_parents.specs.flat_state.specs.Dependence.{owner}
use Rattle.desc_parents.specs.desc_stores.specs.declared.items.ItemRef.{ItemRef}
use Rattle.desc_parents.specs.desc_stores.specs.Contents.{content_of, Contents}
use Rattle.desc_parents.specs.desc_stores.specs.Items.{name_of, shown}
use Rattle.desc_parents.specs.desc_stores.specs.Sound.{IsExactlyOne}
use Rattle.desc_parents.specs.Seen.{seen}
use Rattle.desc_groups.proofs.OwnerLemmas.{owner_as_item, owner_of_item}
use Rattle.desc_groups.proofs.owners.owner_of.Goals as goal

of_content : (s : Contents) (one : IsExactlyOne s) {item as_is : ItemRef} → item ≡ as_is → content_of s (name_of (shown item)) ≡ Some (shown item) → owner_of_item (seen s) (shown as_is) ≡ owner (seen s) (name_of (shown item))
of_content s one {item = item} is there = ap (λ (x : ItemRef). owner_of_item (seen s) (shown x)) (sym is) ∙ owner_as_item s one (shown item) there

pub returns-in-Kernel : goal.returns-in-Kernel
returns-in-Kernel c = of_content c.args.stores.now c.each_is_one.ensures c.in-Kernel.is c.requires

pub returns-in-Space : goal.returns-in-Space
returns-in-Space c = of_content c.args.stores.now c.each_is_one.ensures c.in-Space.is c.requires

pub returns-in-Thread : goal.returns-in-Thread
returns-in-Thread c = c.kernel_of.ensures ∙ of_content c.args.stores.now c.each_is_one.ensures c.in-Thread.is c.requires

pub returns-in-Mapping : goal.returns-in-Mapping
returns-in-Mapping c = c.kernel_of-in-Mapping.ensures ∙ of_content c.args.stores.now c.each_is_one.ensures c.in-Mapping.is c.requires
