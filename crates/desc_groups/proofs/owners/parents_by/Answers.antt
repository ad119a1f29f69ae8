use Rattle.std.proofs.Common.{subst}
use Rattle.cache_ident.specs.declared.names.Name.{Name}
use Rattle.desc_parents.specs.desc_stores.specs.Contents.{residents_of}
use Rattle.desc_parents.specs.desc_stores.specs.Items.{shown}
use Rattle.desc_parents.specs.resident_pairs.specs.Among.{AreParents}
use Rattle.desc_parents.specs.store_residents.proofs.KindLemmas.{live_loaded}
use Rattle.desc_parents.specs.Seen.{seen}
use Rattle.desc_groups.proofs.OwnerLemmas.{found_loaded}
use Rattle.desc_groups.proofs.owners.parents_by.Goals as goal

pub parents_of-requires-clause-stands : goal.parents_of-requires-clause-stands
parents_of-requires-clause-stands c =
    let s = c.args.stores.now in
    let l = live_loaded s c.requires.one.sound c.args.ident c.requires.live in
    (found_loaded s c.requires.one c.args.ident l.0 (shown c.in-Some.item) l.1 c.in-Some.ensures).1

pub returns-clause-parents : goal.returns-clause-parents
returns-clause-parents c = λ r loaded.
    let s = c.args.stores.now in
    subst (λ (n : Name). AreParents (seen s) (residents_of s) n c.parents_of.result.items) (found_loaded s c.requires.one c.args.ident r (shown c.in-Some.item) loaded c.in-Some.ensures).0 c.parents_of.ensures.parents
