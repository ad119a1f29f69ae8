use Rattle.std.proofs.Common.{arith}
use Rattle.paged_steps.specs.memory_laws.specs.Apart.{over}
use Rattle.paged_steps.proofs.Knowing.{knows_nothing}
use Rattle.paged_run.proofs.Whole.{whole_run}
use Rattle.paged_run.proofs.run.run_paged.Goals as goal

pub run_on-requires : goal.run_on-requires
run_on-requires g c =
    let opened = c.in_ok-pager.ensures.opened in
    record { room = opened.room; frames = opened.frames; within = omega (arith, opened.steps) }

pub write_back-requires : goal.write_back-requires
write_back-requires g c = record { store = c.in_ok-settled.ensures.ready.frames.same }

pub returns-clause-run : goal.returns-clause-run
returns-clause-run g c = λ bytes told.
    let opened = c.in_ok-pager.ensures.opened in
    let first = c.in_ok-pager.ensures.memory bytes told in
    let ran = c.in_ok-settled.ensures.over in
    let p = c.in_ok-pager.pager in
    let last = ran.goes first.0 first.1 (knows_nothing (over p.tables first.0) p.order opened.nobody) in
    let q = c.run_on.new.self in
    whole_run c.args.decls.now c.args.steps (over p.tables first.0) (over q.tables last.0) p.journal.entries q.journal.entries ran.count q.steps c.in_ok-settled.settled c.in_ok-report.report.items _
    c.requires.fit first.2 opened.entries last.2 (omega (arith, ran.steps, opened.steps)) last.3 ran.ended c.in_ok-report.ensures (c.in_ok-write_back.ensures.memory last.0 last.1)
