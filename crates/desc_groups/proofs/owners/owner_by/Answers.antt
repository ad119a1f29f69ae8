use Rattle.std.proofs.Common.{◌≡◌, ◌∙◌, ap, sym, Option, None, IsSome, subst}
use Rattle.cache_ident.specs.declared.names.KernelNo.{KernelNo}
use Rattle.desc_parents.specs.flat_state.specs.Dependence.{owner}
use Rattle.desc_parents.specs.desc_stores.specs.Contents.{residents_of}
use Rattle.desc_parents.specs.desc_stores.specs.Items.{shown}
use Rattle.desc_parents.specs.store_residents.proofs.KindLemmas.{live_loaded}
use Rattle.desc_parents.specs.store_residents.proofs.ResidentLemmas.{loaded_resident}
use Rattle.desc_parents.specs.Seen.{seen}
use Rattle.desc_groups.proofs.OwnerLemmas.{found_loaded, resident_owned}
use Rattle.desc_groups.proofs.owners.owner_by.Goals as goal

pub owner_of-requires : goal.owner_of-requires
owner_of-requires c =
    let s = c.args.stores.now in
    let one = c.each_is_one.ensures in
    let l = live_loaded s one.sound c.args.ident c.requires.live in
    (found_loaded s one c.args.ident l.0 (shown c.in-Some.item) l.1 c.in-Some.ensures).1

-- what is loaded has an owner
pub unreachable-requires-in_default-owner_of : goal.unreachable-requires-in_default-owner_of
unreachable-requires-in_default-owner_of c =
    let s = c.args.stores.now in
    let one = c.each_is_one.ensures in
    let l = live_loaded s one.sound c.args.ident c.requires.live in
    let named = (found_loaded s one c.args.ident l.0 (shown c.in-Some.item) l.1 c.in-Some.ensures).0 in
    let owned = resident_owned (seen s) (residents_of s) c.requires.whole.2.good l.0 (loaded_resident s one.sound c.args.ident l.0 l.1) in
    let none : None ≡ owner (seen s) l.0.name = c.in_default-owner_of.ensures ∙ ap (owner (seen s)) named in
    let some : IsSome {T = KernelNo} None = subst (λ (o : Option KernelNo). IsSome o) (sym none) owned in
    absurd (cc)

pub returns : goal.returns
returns c = λ r loaded.
    let s = c.args.stores.now in
    ap (owner (seen s)) (sym (found_loaded s c.each_is_one.ensures c.args.ident r (shown c.in-Some.item) loaded c.in-Some.ensures).0) ∙ sym c.in-Some-owner_of.ensures
