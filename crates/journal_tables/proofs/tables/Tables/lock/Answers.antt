use Rattle.std.proofs.Common.{refl, ap, sym, ◌∙◌, arith}
use Rattle.residents.specs.flat_state.specs.State.{FlatState}
use Rattle.residents.specs.flat_state.specs.Dependence.{owner}
use Rattle.residents.specs.run_journal.specs.Legal.{limit_of}
use Rattle.journal_tables.proofs.TableLemmas.{of_locked, not_ownerless, not_locked, not_full, may_lock}
use Rattle.journal_tables.proofs.tables.Tables.lock.Goals as goal

pub returns-in_default : goal.returns-in_default
returns-in_default c = λ k state are. (λ may. c.in_default.ensures k.residents are.those may.resident may.there may.its, are)

pub returns-in_default-owner : goal.returns-in_default-owner
returns-in_default-owner c = λ k state are. (
  not_ownerless c.args.self.now k c.args.ident c.in-Some.held are (c.in-Some.ensures k.residents are.those) (c.in_default-owner.ensures ∙ ap (λ (s : FlatState). owner s c.in-Some.held.name) (sym state)),
  are,
)

pub returns-then-held : goal.returns-then-held
returns-then-held c = λ k state are. (not_locked c.args.self.now k c.args.ident c.in-Some.held are (c.in-Some.ensures k.residents are.those) c.if-held.true, are)

pub returns-then-count-limit : goal.returns-then-count-limit
returns-then-count-limit c = λ k state are. (
  not_full c.args.self.now k c.args.ident c.in-Some.held are (c.in-Some.ensures k.residents are.those) c.in-Some-owner.kernel
      (c.in-Some-owner.ensures ∙ ap (λ (s : FlatState). owner s c.in-Some.held.name) (sym state))
      (let count = c.count.ensures in let limit = c.limit.ensures ∙ ap (λ (s : FlatState). limit_of s c.in-Some-owner.kernel c.args.ident.kind) (sym state) in let full = c.if-count-limit.true in omega arith),
  are,
)

pub returns : goal.returns
returns c = λ k state are.
    let is = c.in-Some.ensures k.residents are.those in
    let owned = c.in-Some-owner.ensures ∙ ap (λ (s : FlatState). owner s c.in-Some.held.name) (sym state) in
    let may = may_lock c.args.self.now k c.args.ident c.in-Some.held are is c.in-Some-owner.kernel owned c.if-held.false
    (let count = c.count.ensures in let limit = c.limit.ensures ∙ ap (λ (s : FlatState). limit_of s c.in-Some-owner.kernel c.args.ident.kind) (sym state) in let room = c.if-count-limit.false in omega arith) in
    (may, λ cpu. of_locked c.args.self.now _ k c.args.ident c.in-Some.held cpu are is refl refl refl c.in-Some-owner.kernel may c.if-held.false (sym owned) (c.set_lock.ensures k.residents are.those is.0) c.in_ok-add.ensures)
