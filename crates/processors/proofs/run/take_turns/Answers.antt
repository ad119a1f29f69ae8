use Rattle.processors.proofs.run.take_turns.Goals as goal

pub turns-init : goal.turns-init
turns-init g c =
    let look = c.look in
    record {
      so = look.ensures.so;
      ready = look.ensures.ready;
      kept = look.ensures.kept;
      continued = look.ensures.continued;
    }

pub turns-preserved : goal.turns-preserved
turns-preserved g c =
    let before = c.turns.port in
    let after = c.turn.new.port in
    record {
      so = c.in-Ok.ensures.so;
      ready = c.in-Ok.ensures.ready;
      kept = c.turn.ensures.kept;
      continued = g.met.P.Processor.further c.args.port.now before after c.turns.invariant.continued c.turn.ensures.continued;
    }
