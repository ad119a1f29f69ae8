use Rattle.std.proofs.Common.{Bool, IsSome, ap, sym, ◌∙◌, subst}
use Rattle.cache_ident.specs.declared.names.Name.TheVariants as name
use Rattle.desc_groups.specs.flat_state.specs.Dependence.{owner}
use Rattle.desc_groups.specs.run_journal.specs.Legal.{AreGood}
use Rattle.desc_groups.specs.desc_stores.specs.Contents.{content_of, residents_of}
use Rattle.desc_groups.specs.shown_state.specs.Shown.{shown}
use Rattle.desc_groups.specs.desc_parents.specs.Seen.{seen}
use Rattle.desc_tables.specs.Calls.{with_rights}
use Rattle.desc_tables.specs.Tables.{Held}
use Rattle.desc_tables.proofs.RightsLemmas.{kernel_there, shown_granted, sound_granted}
use Rattle.desc_tables.proofs.tables.Tables.set_rights.Goals as goal

pub invariant_of-self : goal.invariant_of-self
invariant_of-self c =
    let stores = c.self.inside.stores in
    let sound = c.self.invariant.0 in
    let right : Bool × Bool = (c.args.read, c.args.write) in
    let there = kernel_there stores c.args.kernel (subst (λ (h : Held). IsSome (content_of h.contents (name.Kernel c.args.kernel))) (sym c.self.view_is) c.requires.there) in
    let good = subst (λ (h : Held). AreGood (with_rights (seen h.contents) c.args.kernel c.args.group right) (residents_of h.contents)) (sym c.self.view_is) c.requires.good in (
      sound_granted stores c.grant.new.stores sound.whole.one c.args.kernel c.args.group right there.0 there.1 (c.grant.ensures.contents there.0 there.1) c.grant.ensures.only c.self.inside.pairs.caps c.self.inside.gone.items c.self.inside.left.items c.self.inside.pairs.pairs
          sound c.each_is_one.ensures c.grant.ensures.residents c.grant.ensures.slots (c.grant.ensures.owned (owner (seen stores)) sound.whole.owned) good,
      c.self.invariant.1,
      c.self.invariant.2,
      c.self.invariant.3,
    )

pub returns-clause-shows : goal.returns-clause-shows
returns-clause-shows c = λ machine memory.
    let stores = c.self.inside.stores in
    let right : Bool × Bool = (c.args.read, c.args.write) in
    let there = kernel_there stores c.args.kernel (subst (λ (h : Held). IsSome (content_of h.contents (name.Kernel c.args.kernel))) (sym c.self.view_is) c.requires.there) in
    shown_granted stores c.grant.new.stores c.self.invariant.0.whole.one c.args.kernel c.args.group right there.0 there.1 (c.grant.ensures.contents there.0 there.1) c.grant.ensures.only machine memory
    ∙ ap (λ (h : Held). with_rights (shown machine memory h.contents) c.args.kernel c.args.group right) c.self.view_is
