use Rattle.std.proofs.lemmas.Result.{IfOk-weaker}
use Rattle.due_text.proofs.Inputs.{failed_by}
use Rattle.v_drive.proofs.Answering.{by_words, is_taken}
use Rattle.v_drive.proofs.machine.due.Goals as goal

pub returns-in-Ok-clause-due : goal.returns-in-Ok-clause-due
returns-in-Ok-clause-due g c =
    IfOk-weaker c.due_of.result _ _ (λ d h. by_words c.args.words.now c.in-Ok.steps _ _ d.ending d.text.items c.in-Ok.ensures h) c.due_of.ensures.due

pub returns-in-Ok-clause-unread : goal.returns-in-Ok-clause-unread
returns-in-Ok-clause-unread g c none = absurd (is_taken c.args.words.now c.in-Ok.steps c.in-Ok.ensures none)

pub returns-in-Ok-clause-fault : goal.returns-in-Ok-clause-fault
returns-in-Ok-clause-fault g c = failed_by c.due_of.result _ _ (λ risen. (risen, is_taken c.args.words.now c.in-Ok.steps c.in-Ok.ensures)) c.due_of.ensures.fault
