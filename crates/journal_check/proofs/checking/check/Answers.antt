use Rattle.std.proofs.lemmas.Result.{IfOk-weaker}
use Rattle.journal_check.proofs.Prefixes.{verdict_legal, legal_yes}
use Rattle.journal_check.proofs.checking.check.Goals as goal

pub returns-clause-legal : goal.returns-clause-legal
returns-clause-legal c = IfOk-weaker c.checked.result _ _ (λ v is. verdict_legal c.args.scenario.now c.args.journal.now.entries v (rw c.decls.ensures at is)) c.checked.ensures

pub returns-clause-all : goal.returns-clause-all
returns-clause-all c rest legal begins = IfOk-weaker c.checked.result _ _ (λ v is. legal_yes c.args.scenario.now c.args.journal.now.entries rest v (rw c.decls.ensures at is) legal begins) c.checked.ensures
