use Rattle.std.proofs.Common.{◌∙◌}
use Rattle.std.proofs.lemmas.Result.{IfOk-weaker}
use Rattle.proc_run.proofs.Answered.{by_text, from_seed}
use Rattle.proc_run.proofs.machine.due_by.Goals as goal

pub returns-in_ok-generate-in-Gen-clause-due : goal.returns-in_ok-generate-in-Gen-clause-due
returns-in_ok-generate-in-Gen-clause-due g c =
    let o = c.args.options.now in
    let bs = c.deref.result.now in
    IfOk-weaker c.due_for.result _ _ (λ d h. by_text o _ _ bs d.status d.kept d.text.items (from_seed o.mode o.seed _ bs c.in-Gen.is (c.deref.ensures.value ∙ c.in_ok-generate-in-Gen.ensures)) h) c.due_for.ensures.due
