use Rattle.std.proofs.lemmas.Result.{IfOk-weaker}
use Rattle.proc_run.proofs.Answered.{by_words}
use Rattle.proc_run.proofs.machine.due.Goals as goal

pub returns-in-Ok-clause-due : goal.returns-in-Ok-clause-due
returns-in-Ok-clause-due g c =
    IfOk-weaker c.due_by.result _ _ (λ d h. by_words c.args.words.now c.in-Ok.options _ _ d.status d.kept d.text.items c.in-Ok.ensures.meant h) c.due_by.ensures.due
