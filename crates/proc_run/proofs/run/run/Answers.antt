use Rattle.std.proofs.Common.{ℕ, subst, ◌∙◌}
use Rattle.run_journal.specs.Legal.{first_ident}
use Rattle.proc_run.specs.Running.{IsRun}
use Rattle.proc_run.proofs.Opened.{may_be_sealed, sealed_begins, sealed_limit}
use Rattle.proc_run.proofs.run.run.Goals as goal

pub seal-requires : goal.seal-requires
seal-requires g c = may_be_sealed c.args.decls.now c.args.limit c.in_ok-board.board c.requires.fit c.requires.kernel c.in_ok-board.ensures

pub run_on_several-requires-clause-begins : goal.run_on_several-requires-clause-begins
run_on_several-requires-clause-begins g c = λ lifetimes within. sealed_begins c.args.decls.now c.args.limit c.in_ok-board.board c.seal.new.board first_ident c.in_ok-board.ensures c.in_ok-seal.ensures

pub returns-clause-run : goal.returns-clause-run
returns-clause-run g c =
    let sealed = sealed_limit c.args.decls.now c.args.limit c.in_ok-board.board c.seal.new.board first_ident c.in_ok-board.ensures c.in_ok-seal.ensures in
    subst (λ (n : ℕ). IsRun c.args.decls.now n c.run_on_one.new.board) (c.in_ok-board-2.ensures.limit ∙ sealed) c.in_ok-run_on_one.ensures
