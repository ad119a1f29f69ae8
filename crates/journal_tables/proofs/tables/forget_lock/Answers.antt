use Rattle.std.proofs.Common.{Bool, Option, refl, sym, subst}
use Rattle.std.proofs.lemmas.Bool.{not-false, not-true}
use Rattle.cache_ident.specs.declared.names.KernelNo.{KernelNo}
use Rattle.residents.specs.flat_state.specs.Dependence.{owner}
use Rattle.journal_tables.specs.Locks.{RecountsFor, RecountsIf}
use Rattle.journal_tables.proofs.tables.forget_lock.Goals as goal

pub returns-then-not-held : goal.returns-then-not-held
returns-then-not-held c =
    subst (λ (b : Bool). RecountsIf b c.args.locks.now c.args.locks.now (owner c.args.flat.now c.args.held.name) c.args.held.ident.kind) (sym (not-true c.args.held.locked c.if-not-held.true)) refl

pub returns : goal.returns
returns c =
    subst (λ (b : Bool). RecountsIf b c.args.locks.now c.forget.new.self (owner c.args.flat.now c.args.held.name) c.args.held.ident.kind) (sym (not-false c.args.held.locked c.if-not-held.false))
    (subst (λ (o : Option KernelNo). RecountsFor c.args.locks.now c.forget.new.self o c.args.held.ident.kind) c.owner.ensures c.forget.ensures)
