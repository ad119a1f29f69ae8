use Rattle.std.proofs.Common.{refl, ◌∙◌, arith}
use Rattle.cache_board.specs.board_commits.proofs.CopyLaws.{all_of}
use Rattle.board_turns.proofs.Runs.{few_steps}
use Rattle.board_turns.proofs.quanta.run_ahead.Goals as goal

pub loop-init : goal.loop-init
loop-init g c =
    let run = c.run-paused in
    let port = c.args.port.now in
    record {
      views = all_of (g.P.Processor.seen port) c.args.ticket.now.thread c.args.quantum.now run.new.self run.ensures.copies c.requires.views;
      few = few_steps c.args.limit c.args.quantum.now run.new.self run.result run.ensures.run c.requires.few;
      same = refl;
      continued = g.met.P.Processor.as_a_port port port (g.met.P.Port.stays port);
    }

pub loop-preserved : goal.loop-preserved
loop-preserved g c =
    let run = c.run-paused-in-loop in
    let page = c.page in
    let before = c.loop.invariant in
    record {
      views = all_of (g.P.Processor.seen page.new.self) c.args.ticket.now.thread page.new.quantum run.new.self run.ensures.copies (page.ensures.views before.views);
      few = few_steps c.args.limit page.new.quantum run.new.self run.result run.ensures.run (omega (arith, page.ensures.steps, before.few));
      same = page.ensures.same ∙ before.same;
      continued = g.met.P.Processor.further c.args.port.now c.loop.port page.new.self before.continued page.ensures.continued;
    }
