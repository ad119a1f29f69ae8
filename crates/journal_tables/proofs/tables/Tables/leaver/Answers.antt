use Rattle.std.proofs.Common.{Option, refl, sym, subst}
use Rattle.std.specs.Prelude.{MatchOption}
use Rattle.std.proofs.lemmas.Bool.{false≢true}
use Rattle.cache_ident.specs.declared.idents.Cause.TheVariants as causes
use Rattle.residents.specs.declared.list.Held.{Held}
use Rattle.residents.specs.run_journal.specs.Legal.{MayLeave, first_ident}
use Rattle.residents.specs.run_journal.proofs.Others.{other_ident}
use Rattle.journal_tables.specs.Tables.{MayLeaveAs}
use Rattle.journal_tables.proofs.TableLemmas.{not_last, may_leave}
use Rattle.journal_tables.proofs.tables.Tables.leaver.Goals as goal

pub returns-in_err-held : goal.returns-in_err-held
returns-in_err-held c = λ k are.
    subst (λ (o : Option Held). MatchOption o (MayLeave k c.args.ident causes.Dependent → ⊥) (MayLeaveAs k c.args.ident)) (sym c.from_residual.ensures)
    (λ may. c.in_err-held.ensures k.residents are.those may.resident may.there may.its)

pub returns-then-has : goal.returns-then-has
returns-then-has c = λ k are.
    let child = c.if-has.ensures.0 refl in
    not_last c.args.self.now k c.args.ident c.in_ok-held.held are (c.in_ok-held.ensures k.residents are.those) child.0 child.1

pub returns : goal.returns
returns c = λ k are.
    may_leave c.args.self.now k c.args.ident c.in_ok-held.held are (c.in_ok-held.ensures k.residents are.those) (other_ident c.args.ident first_ident (sym c.if-eq.ensures))
    (λ child pair. false≢true (c.if-has.ensures.1 (child, pair)))
