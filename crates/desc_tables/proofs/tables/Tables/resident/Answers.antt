use Rattle.std.proofs.Common.{subst}
use Rattle.std.specs.Prelude.{IfNone, IfSome}
use Rattle.cache_ident.specs.Residents.{IsNameResident, IsResident}
use Rattle.desc_groups.specs.desc_stores.specs.Contents.{residents_of}
use Rattle.desc_tables.specs.Tables.{Held}
use Rattle.desc_tables.proofs.ReadLemmas.{absent_resident, found_resident}
use Rattle.desc_tables.proofs.tables.Tables.resident.Goals as goal

pub returns-clause-found : goal.returns-clause-found
returns-clause-found c =
    subst (λ (h : Held). IfSome c.resident.result (λ ident. IsResident (residents_of h.contents) ident c.args.name)) c.self.view_is
    (found_resident c.self.inside.stores c.self.invariant.0.whole.one.sound c.args.name c.resident.result c.resident.ensures.found)

pub returns-clause-absent : goal.returns-clause-absent
returns-clause-absent c =
    subst (λ (h : Held). IfNone c.resident.result (IsNameResident (residents_of h.contents) c.args.name → ⊥)) c.self.view_is
    (absent_resident c.self.inside.stores c.self.invariant.0.whole.one.sound c.args.name c.resident.result c.resident.ensures.absent)
