use Rattle.std.proofs.Common.{◌≡◌, Some, sym, subst}
use Rattle.cache_ident.specs.declared.names.Name.{Name}
use Rattle.desc_groups.specs.desc_stores.specs.Contents.{content_of, residents_of}
use Rattle.desc_groups.specs.desc_stores.specs.Items.{shown}
use Rattle.desc_groups.specs.desc_parents.specs.Seen.{seen}
use Rattle.desc_groups.specs.desc_parents.proofs.ParentLemmas.{are_of_none}
use Rattle.desc_groups.specs.resident_pairs.specs.Among.{AreParents}
use Rattle.desc_groups.specs.shown_state.proofs.ContentLemmas.{item_has_name}
use Rattle.desc_tables.specs.Tables.{Held}
use Rattle.desc_tables.proofs.tables.Tables.parents.Goals as goal

pub parents_of-requires-clause-stands : goal.parents_of-requires-clause-stands
parents_of-requires-clause-stands c =
    let s = c.self.inside.stores in
    let it = shown c.in-Some.item in
    let is : content_of s c.args.name ≡ Some it = sym c.in-Some.ensures in
    subst (λ (n : Name). content_of s n ≡ Some it) (sym (item_has_name s c.args.name it is)) is

pub returns-in-Some-clause-parents : goal.returns-in-Some-clause-parents
returns-in-Some-clause-parents c =
    let s = c.self.inside.stores in
    let it = shown c.in-Some.item in
    subst (λ (h : Held). AreParents (seen h.contents) (residents_of h.contents) c.args.name c.parents_of.result.items) c.self.view_is
    (subst (λ (n : Name). AreParents (seen s) (residents_of s) n c.parents_of.result.items) (item_has_name s c.args.name it (sym c.in-Some.ensures)) c.parents_of.ensures.parents)

-- what isn't there depends on nothing
pub returns-in-None-clause-parents : goal.returns-in-None-clause-parents
returns-in-None-clause-parents c =
    let s = c.self.inside.stores in
    subst (λ (h : Held). AreParents (seen h.contents) (residents_of h.contents) c.args.name c.new.result.items) c.self.view_is
    (are_of_none s c.each_is_one.ensures c.args.name (sym c.in-None.ensures) c.new.result.items c.new.ensures)
