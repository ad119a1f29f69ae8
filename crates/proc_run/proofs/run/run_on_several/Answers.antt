use Rattle.std.proofs.lemmas.Result.{IfOk-weaker}
use Rattle.proc_run.proofs.Opened.{begins_still}
use Rattle.proc_run.proofs.run.run_on_several.Goals as goal

pub returns-clause-begins : goal.returns-clause-begins
returns-clause-begins g c =
    IfOk-weaker c.run_side_by_side.result _ _ (λ after more. begins_still c.args.decls.now c.args.board after c.requires.begins more) c.run_side_by_side.ensures.grew
