use Rattle.std.proofs.Common.{refl, sym, subst}
use Rattle.std.proofs.lemmas.Bool.{not-false, not-true}
use Rattle.residents.specs.flat_state.specs.State.{FlatState}
use Rattle.residents.specs.flat_state.specs.Dependence.{owner}
use Rattle.residents.specs.run_journal.specs.Legal.{MayUnlock, first_ident}
use Rattle.residents.specs.run_journal.proofs.Others.{other_ident}
use Rattle.residents.specs.Tables.{resident_of}
use Rattle.journal_tables.specs.Locks.{RecountsIf}
use Rattle.journal_tables.proofs.TableLemmas.{of_unlocked, not_unlocked}
use Rattle.journal_tables.proofs.tables.Tables.unlock.Goals as goal

pub returns-in_default : goal.returns-in_default
returns-in_default c = λ k state are. (λ may. c.in_default.ensures k.residents are.those may.resident may.there may.its, are)

pub returns-then-not-held : goal.returns-then-not-held
returns-then-not-held c = λ k state are. (not_unlocked c.args.self.now k c.args.ident c.in-Some.held are (c.in-Some.ensures k.residents are.those) (not-true c.in-Some.held.locked c.if-not-held.true), are)

pub returns : goal.returns
returns c = λ k state are.
    let is = c.in-Some.ensures k.residents are.those in
    let on = not-false c.in-Some.held.locked c.if-not-held.false in
    let may : MayUnlock k c.args.ident = record {
      resident = resident_of c.in-Some.held;
      there = is.0;
      its = is.1;
      locked = on;
      not_first = other_ident c.args.ident first_ident (sym c.if-eq.ensures);
    } in (
      may,
      λ cpu. of_unlocked c.args.self.now _ k c.args.ident c.in-Some.held cpu are is refl refl refl may on (c.set_lock.ensures k.residents are.those is.0)
          (subst (λ (s : FlatState). RecountsIf c.in-Some.held.locked c.args.self.now.locks c.forget_lock.new.locks (owner s c.in-Some.held.name) c.in-Some.held.ident.kind) (sym state) c.forget_lock.ensures),
    )
