use Rattle.std.proofs.Common.{◌↔◌, ◌≡◌, sym, ◌∙◌, subst}
use Rattle.cache_ident.specs.declared.idents.Standing.TheVariants.{Live}
use Rattle.cache_ident.specs.Residents.{IsIdentResident}
use Rattle.desc_groups.specs.desc_stores.specs.Contents.{residents_of}
use Rattle.desc_groups.specs.store_residents.proofs.ResidentLemmas.{live_iff}
use Rattle.desc_tables.specs.Tables.{Held}
use Rattle.desc_tables.proofs.tables.Tables.standing.Goals as goal

pub returns-clause-live : goal.returns-clause-live
returns-clause-live c =
    let iff = live_iff c.self.inside.stores c.self.invariant.0.whole.one.sound c.args.ident in
    subst (λ (h : Held). (c.standing.result ≡ Live) ↔ IsIdentResident (residents_of h.contents) c.args.ident) c.self.view_is
    (λ live. iff.0 (sym c.standing.ensures.standing ∙ live), λ there. c.standing.ensures.standing ∙ iff.1 there)
