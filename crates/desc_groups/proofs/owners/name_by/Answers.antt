use Rattle.std.proofs.Common.{◌∙◌, sym}
use Rattle.desc_parents.specs.desc_stores.specs.Items.{shown}
use Rattle.desc_groups.proofs.OwnerLemmas.{found_loaded}
use Rattle.desc_groups.proofs.owners.name_by.Goals as goal

pub returns : goal.returns
returns c = λ r loaded. sym (c.name.ensures ∙ (found_loaded c.args.stores.now c.requires.one c.args.ident r (shown c.in-Some.item) loaded c.in-Some.ensures).0)
