use Rattle.std.proofs.Common.{◌≡◌, false, refl, sym, ◌∙◌, arith}
use Rattle.std.proofs.lemmas.Bool.{false≢true, not-false}
use Rattle.cache_ident.specs.Names.{kind_of}
use Rattle.residents.specs.run_journal.specs.Legal.{is_kind}
use Rattle.residents.specs.run_journal.proofs.KindLemmas.{kind_is}
use Rattle.journal_tables.proofs.TableLemmas.{good_of, lowest_of, may_load_of}
use Rattle.journal_tables.proofs.tables.Tables.may_load.Goals as goal

pub returns-then-not-stays_good-clause-may : goal.returns-then-not-stays_good-clause-may
returns-then-not-stays_good-clause-may c = λ k state loads are. (
  λ e. absurd (false≢true e),
  λ may. absurd (false≢true ((c.if-not-stays_good.ensures k.residents are.those (record { ident = c.args.ident; name = c.args.name; locked = false }) refl).1 (good_of k c.args.ident c.args.name c.args.flat.now state may))),
)

pub returns-then-is_named-clause-may : goal.returns-then-is_named-clause-may
returns-then-is_named-clause-may c = λ k state loads are. (λ e. absurd (false≢true e), λ may. absurd (may.absent ((c.if-is_named.ensures k.residents are.those).0 refl)))

pub returns-clause-may : goal.returns-clause-may
returns-clause-may c = λ k state loads are.
    let kind : c.args.ident.kind ≡ kind_of c.args.name = kind_is c.args.ident.kind c.kind.result (not-false (is_kind c.args.ident.kind c.kind.result) (sym c.if-ne.ensures)) ∙ c.kind.ensures in
    let serial : c.args.ident.serial ≡ k.loads = omega arith in (
      λ e.
          let slot = c.has_lowest_slot.ensures.has.0 e in
          may_load_of c.args.self.now k c.args.ident c.args.name c.args.flat.now are state
          ((c.if-not-stays_good.ensures k.residents are.those (record { ident = c.args.ident; name = c.args.name; locked = false }) refl).0 refl)
          (λ named. false≢true ((c.if-is_named.ensures k.residents are.those).1 named))
          kind serial slot.0 slot.1,
      λ may. c.has_lowest_slot.ensures.has.1 (lowest_of c.args.self.now k c.args.ident c.args.name c.args.flat.now are state may),
    )
