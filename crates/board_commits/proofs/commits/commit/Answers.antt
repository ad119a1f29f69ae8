use Rattle.std.proofs.Common.{List, Contains, slice_get, sym, ap, subst, ◌∙◌}
use Rattle.std.proofs.lemmas.Result.{err_from_is_err_and}
use Rattle.cache_ident.specs.Residents.{Resident}
use Rattle.flat_rules.specs.flat_state.specs.State.{FlatState}
use Rattle.board_threads.specs.board_checks.proofs.WhyLaws.{passed_why}
use Rattle.board_commits.proofs.CommitLaws.{commit_tells}
use Rattle.board_commits.proofs.MadeLaws.{committed_before}
use Rattle.board_commits.proofs.commits.commit.Goals as goal

pub returns-in_err-no-clause-enough : goal.returns-in_err-no-clause-enough
returns-in_err-no-clause-enough c = λ spare.
    passed_why c.from_residual-in_err-no.result c.in_err-no.field-0.0 (err_from_is_err_and c.from_residual-in_err-no.result c.from_residual-in_err-no.ensures.1)
    _ c.in_err-no.ensures.exact (commit_tells c.args.core.now c.args.ticket.now c.args.quantum.now)

pub run-requires-clause-views : goal.run-requires-clause-views
run-requires-clause-views c = λ t is v there.
    let r = c.in_ok-no.ensures.may.views t (ap (λ (s : FlatState). slice_get s.threads c.in_ok-no.no.0) (sym c.make_entries.ensures.only.only.state) ∙ is) v there in
    (r.0, subst (λ (rs : List Resident). Contains rs r.0) (sym c.make_entries.ensures.only.only.loaded.residents) r.1, r.2)

pub returns-clause-committed : goal.returns-clause-committed
returns-clause-committed c =
    let done = c.run.ensures in
    committed_before c.args.ticket.now c.args.quantum.now c.args.core.now c.make_entries.new.self c.run.new.self c.make_entries.ensures.only c.in_ok-no.no c.in_ok-no.ensures.may c.steps.ensures.local_run
    done.entries done.loaded done.marks done.lasts done.steps done.sealed done.checkouts done.spare done.held
