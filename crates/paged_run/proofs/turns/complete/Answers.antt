use Rattle.paged_steps.specs.memory_laws.specs.Apart.{over}
use Rattle.paged_steps.proofs.Knowing.{knows_none}
use Rattle.paged_run.proofs.Trapped.{trapped_completion}
use Rattle.paged_run.proofs.Fitting.{completed_memory, completed_one}
use Rattle.paged_run.proofs.turns.complete.Goals as goal

pub returns-clause-goes : goal.returns-clause-goes
returns-clause-goes c = λ pages held m means.
    let call = c.requires in
    (m, means, completed_one c.args.tables.now c.complete.new.tables m c.args.no call.thread c.args.journal.now.entries c.push.new.self.entries call.there call.completable c.in_ok-complete.ensures.ok c.in_ok-push.ensures.ok, λ knows. knows_none (over c.complete.new.tables m) c.forget.new.self c.forget.ensures.none)

pub returns-clause-calls : goal.returns-clause-calls
returns-clause-calls c =
    let call = c.requires in
    rw c.in_ok-complete.ensures.ok (trapped_completion c.args.tables.now c.args.no.0 call.thread call.there call.completable)

pub returns-clause-memory : goal.returns-clause-memory
returns-clause-memory c = completed_memory c.args.tables.now c.complete.new.tables c.args.no.0 c.in_ok-complete.ensures.ok
