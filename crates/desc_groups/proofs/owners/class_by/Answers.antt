use Rattle.std.proofs.Common.{◌≡◌, ◌∙◌, ap, sym, Some}
use Rattle.cache_ident.specs.declared.idents.Ident.{Ident}
use Rattle.cache_ident.specs.Residents.{Resident}
use Rattle.desc_parents.specs.flat_state.specs.Names.{class_of}
use Rattle.desc_parents.specs.desc_stores.specs.declared.items.ItemRef.{ItemRef}
use Rattle.desc_parents.specs.desc_stores.specs.Contents.{item_as, resident_as, Contents}
use Rattle.desc_parents.specs.desc_stores.specs.Items.{shown}
use Rattle.desc_parents.specs.desc_stores.specs.Sound.{IsExactlyOne}
use Rattle.desc_parents.specs.Seen.{seen}
use Rattle.desc_groups.proofs.OwnerLemmas.{class_as_item, class_of_item, found_loaded}
use Rattle.desc_groups.proofs.owners.class_by.Goals as goal

-- the class of what is loaded is that of the content that was found
of_found : (s : Contents) (one : IsExactlyOne s) (ident : Ident) {item as_is : ItemRef} → item ≡ as_is → Some (shown item) ≡ item_as s ident → (r : Resident) → resident_as s ident ≡ Some r → class_of (seen s) r.name ≡ class_of_item (shown as_is)
of_found s one ident {item = item} is there r loaded =
    let found = found_loaded s one ident r (shown item) loaded there in
    ap (class_of (seen s)) (sym found.0) ∙ sym (class_as_item s one (shown item) found.1) ∙ ap (λ (x : ItemRef). class_of_item (shown x)) is

pub returns-in-Kernel : goal.returns-in-Kernel
returns-in-Kernel c = of_found c.args.stores.now c.requires.one c.args.ident c.in-Kernel.is c.in-Some.ensures

pub returns-in-Space : goal.returns-in-Space
returns-in-Space c = of_found c.args.stores.now c.requires.one c.args.ident c.in-Space.is c.in-Some.ensures

pub returns-in-Thread : goal.returns-in-Thread
returns-in-Thread c = of_found c.args.stores.now c.requires.one c.args.ident c.in-Thread.is c.in-Some.ensures

pub returns-in-Mapping : goal.returns-in-Mapping
returns-in-Mapping c = λ r loaded. of_found c.args.stores.now c.requires.one c.args.ident c.in-Mapping.is c.in-Some.ensures r loaded ∙ sym c.class_of_row.ensures
