use Rattle.std.proofs.Common.{subst}
use Rattle.app_kernel.specs.owner_ports.specs.Boards.{OnTold}
use Rattle.board_turns.specs.declared.committed.Committed.{Committed}
use Rattle.board_turns.specs.Paces.{beat_of}
use Rattle.board_turns.proofs.Later.{begun_ready}
use Rattle.board_turns.proofs.Told.{leaves_lost, leaves_taken, stays_longer, Tries}
use Rattle.board_turns.proofs.quanta.run_quantum.Goals as goal

pub returns-in-Taken-clause-told : goal.returns-in-Taken-clause-told
returns-in-Taken-clause-told g c =
    let m = g.P.Port.board c.loop-tried.port in
    let b = g.P.Port.board c.try_steps.new.port in
    let tries = subst (λ (x : Committed). OnTold m b (Tries (beat_of c.args.pace) c.args.ticket.now c.try_steps.new.next x)) c.in-Taken.is c.in_ok-tried.ensures.told in
    leaves_taken (beat_of c.args.pace) c.args.ticket.now (g.P.Port.board c.args.port.now) m b c.loop-tried.invariant.told c.try_steps.new.next c.in-Taken.looked tries

pub returns-in-Lost-clause-told : goal.returns-in-Lost-clause-told
returns-in-Lost-clause-told g c =
    let m = g.P.Port.board c.loop-tried.port in
    let b = g.P.Port.board c.try_steps.new.port in
    let tries = subst (λ (x : Committed). OnTold m b (Tries (beat_of c.args.pace) c.args.ticket.now c.try_steps.new.next x)) c.in-Lost.is c.in_ok-tried.ensures.told in
    leaves_lost (beat_of c.args.pace) c.args.ticket.now (g.P.Port.board c.args.port.now) m b c.loop-tried.invariant.told c.try_steps.new.next tries

pub loop-tried-preserved : goal.loop-tried-preserved
loop-tried-preserved g c =
    let L = g.met.P.Processor in
    let before = c.loop-tried.port in
    let after = c.try_steps.new.port in
    let m = g.P.Port.board before in
    let b = g.P.Port.board after in
    let tries = subst (λ (x : Committed). OnTold m b (Tries (beat_of c.args.pace) c.args.ticket.now c.try_steps.new.next x)) c.in-TooMany.is c.in_ok-tried.ensures.told in
    record {
      own = L.owns before after c.args.ticket.now c.try_steps.ensures.continued c.loop-tried.invariant.own;
      ready = begun_ready (g.P.Processor.seen after) c.try_steps.new.quantum c.begin.new.self c.args.ticket.now c.begin.ensures c.try_steps.ensures.kept;
      told = stays_longer (beat_of c.args.pace) c.args.ticket.now (g.P.Port.board c.args.port.now) m b c.loop-tried.invariant.told c.try_steps.new.next c.in-TooMany.left tries;
      continued = L.further c.args.port.now before after c.loop-tried.invariant.continued c.try_steps.ensures.continued;
    }
