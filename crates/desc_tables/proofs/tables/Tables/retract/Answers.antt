use Rattle.std.proofs.Common.{ap, sym, ◌∙◌, subst}
use Rattle.desc_groups.specs.flat_state.specs.Dependence.{owner}
use Rattle.desc_groups.specs.desc_stores.specs.Contents.{content_of, IsShelved}
use Rattle.desc_groups.specs.desc_parents.specs.Seen.{seen}
use Rattle.desc_tables.specs.Tables.{Held}
use Rattle.desc_tables.proofs.RetractLemmas.{shelved_row, sound_retracted}
use Rattle.desc_tables.proofs.tables.Tables.retract.Goals as goal

pub invariant_of-self : goal.invariant_of-self
invariant_of-self c =
    let stores = c.self.inside.stores in
    let sound = c.self.invariant.0 in
    let retracted = c.retract-row.ensures in
    let shelved = subst (λ (h : Held). IsShelved h.contents c.args.name) (sym c.self.view_is) c.requires.shelved in (
      sound_retracted c.self.inside.pairs.caps stores c.retract-row.new.self c.self.inside.gone.items c.self.inside.left.items c.self.inside.pairs.pairs sound c.each_is_one.ensures c.args.name c.requires.row shelved retracted.contents retracted.names retracted.only
          retracted.residents retracted.cells (retracted.owned (owner (seen stores)) sound.whole.owned),
      c.self.invariant.1,
      c.self.invariant.2,
      c.self.invariant.3,
    )

pub returns-clause-was : goal.returns-clause-was
returns-clause-was c =
    let shelved = subst (λ (h : Held). IsShelved h.contents c.args.name) (sym c.self.view_is) c.requires.shelved in
    ap (λ (h : Held). content_of h.contents c.args.name) (sym c.self.view_is) ∙ shelved_row c.self.inside.stores c.self.invariant.0.whole.one c.args.name c.retract-row.result c.requires.row shelved c.retract-row.ensures.was
