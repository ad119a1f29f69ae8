use Rattle.std.proofs.Common.{ℕ, sym, subst}
use Rattle.proc_run.specs.declared.outcome.RunStatus.{RunStatus}
use Rattle.proc_run.specs.declared.outcome.Kept.TheVariants as kept
use Rattle.proc_run.specs.Running.{IsRun}
use Rattle.proc_run.specs.Outcomes.{IsRunAnswer}
use Rattle.proc_run.proofs.Answered.{run_is_answer}
use Rattle.proc_run.proofs.machine.answered.Goals as goal

pub returns : goal.returns
returns g c bs is_scenario =
    let f = c.in_ok-run.run' in
    let ran = subst (λ (limit : ℕ). IsRun c.args.decls.now limit f.board) c.from.ensures c.in_ok-run.ensures.run in
    subst (λ (status : RunStatus). IsRunAnswer c.args.account c.args.options.now.steps bs status (kept.Board f.board) c.in_ok-text.text.items) (sym c.status_of.ensures)
    (run_is_answer c.args.account c.args.options.now.steps c.args.decls.now bs f.board f.settled c.in_ok-text.text.items ran c.in_ok-run.ensures.settled c.in_ok-text.ensures is_scenario)
