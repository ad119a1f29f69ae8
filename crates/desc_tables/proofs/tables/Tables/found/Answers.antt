use Rattle.std.proofs.Common.{subst}
use Rattle.std.specs.Prelude.{IfNone, IfSome}
use Rattle.cache_ident.specs.Residents.{IsNameResident, IsResident}
use Rattle.desc_groups.specs.desc_stores.specs.declared.items.FoundItem.{FoundItem}
use Rattle.desc_groups.specs.desc_stores.specs.Contents.{residents_of}
use Rattle.desc_tables.specs.Tables.{Held}
use Rattle.desc_tables.proofs.ReadLemmas.{found_absent, found_loaded}
use Rattle.desc_tables.proofs.tables.Tables.found.Goals as goal

pub returns-clause-loaded : goal.returns-clause-loaded
returns-clause-loaded c =
    subst (λ (h : Held). IfSome c.found.result (λ (f : FoundItem). IfSome f.ident (λ ident. IsResident (residents_of h.contents) ident c.args.name))) c.self.view_is
    (found_loaded c.self.inside.stores c.self.invariant.0.whole.one.sound c.args.name c.found.result c.found.ensures.loaded)

pub returns-clause-shelved : goal.returns-clause-shelved
returns-clause-shelved c =
    subst (λ (h : Held). IfSome c.found.result (λ (f : FoundItem). IfNone f.ident (IsNameResident (residents_of h.contents) c.args.name → ⊥))) c.self.view_is
    (found_absent c.self.inside.stores c.self.invariant.0.whole.one.sound c.args.name c.found.result c.found.ensures.shelved)
