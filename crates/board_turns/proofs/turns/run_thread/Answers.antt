use Rattle.std.proofs.Common.{Bool, Some, subst}
use Rattle.std.specs.Prelude.{IfSome}
use Rattle.app_kernel.specs.owner_ports.specs.Boards.{OnTold}
use Rattle.app_kernel.specs.reach_laws.specs.Reaching.{IsOwned}
use Rattle.board_turns.specs.Holds.{found_if, IsReadyFor}
use Rattle.board_turns.specs.Paces.{beat_of}
use Rattle.board_turns.proofs.Later.{kept_later}
use Rattle.board_turns.proofs.Told.{found_behind, granted, grown_owned, told_then, Leaves}
use Rattle.board_turns.proofs.turns.run_thread.Goals as goal

pub returns-in_err-ran-clause-owned : goal.returns-in_err-ran-clause-owned
returns-in_err-ran-clause-owned g c =
    let before = c.args.port.now in
    let after = c.run_quantum.new.port in
    grown_owned (g.P.Port.board before) (g.P.Port.board after) (g.P.Processor.progress before) (g.P.Processor.progress after) (g.met.P.Processor.grew before after c.run_quantum.ensures.continued) c.args.owners.now

pub returns-then-ran-clause-owned : goal.returns-then-ran-clause-owned
returns-then-ran-clause-owned g c =
    let before = c.args.port.now in
    let after = c.run_quantum.new.port in
    grown_owned (g.P.Port.board before) (g.P.Port.board after) (g.P.Processor.progress before) (g.P.Processor.progress after) (g.met.P.Processor.grew before after c.run_quantum.ensures.continued) c.args.owners.now

pub returns-in_err-grant-clause-kept : goal.returns-in_err-grant-clause-kept
returns-in_err-grant-clause-kept g c =
    let ran = c.run_quantum.new.port in
    let after = c.grant.new.port in
    kept_later (g.P.Processor.seen ran) (g.P.Processor.seen after) c.run_quantum.new.quantum (g.met.P.Processor.grows ran after c.grant.ensures.continued) c.run_quantum.ensures.kept

pub returns-in_ok-grant-clause-kept : goal.returns-in_ok-grant-clause-kept
returns-in_ok-grant-clause-kept g c =
    let ran = c.run_quantum.new.port in
    let after = c.grant.new.port in
    kept_later (g.P.Processor.seen ran) (g.P.Processor.seen after) c.run_quantum.new.quantum (g.met.P.Processor.grows ran after c.grant.ensures.continued) c.run_quantum.ensures.kept

pub returns-in_err-grant-clause-owned : goal.returns-in_err-grant-clause-owned
returns-in_err-grant-clause-owned g c =
    let before = c.args.port.now in
    let ran = c.run_quantum.new.port in
    let known = c.args.owners.now in
    told_then (g.P.Port.board before) (g.P.Port.board ran) (g.P.Port.board c.grant.new.port) (λ x. IsOwned x known) (λ x. IsOwned x known) (λ x. IsOwned x c.grant.new.owners)
    (grown_owned (g.P.Port.board before) (g.P.Port.board ran) (g.P.Processor.progress before) (g.P.Processor.progress ran) (g.met.P.Processor.grew before ran c.run_quantum.ensures.continued) known) c.grant.ensures.owned

pub returns-in_ok-grant-clause-owned : goal.returns-in_ok-grant-clause-owned
returns-in_ok-grant-clause-owned g c =
    let before = c.args.port.now in
    let ran = c.run_quantum.new.port in
    let known = c.args.owners.now in
    told_then (g.P.Port.board before) (g.P.Port.board ran) (g.P.Port.board c.grant.new.port) (λ x. IsOwned x known) (λ x. IsOwned x known) (λ x. IsOwned x c.grant.new.owners)
    (grown_owned (g.P.Port.board before) (g.P.Port.board ran) (g.P.Processor.progress before) (g.P.Processor.progress ran) (g.met.P.Processor.grew before ran c.run_quantum.ensures.continued) known) c.grant.ensures.owned

pub returns-then-ran-clause-ready : goal.returns-then-ran-clause-ready
returns-then-ran-clause-ready g c =
    subst (λ (looked : Bool). IfSome (found_if looked c.run_quantum.new.next) (IsReadyFor (g.P.Processor.seen c.run_quantum.new.port) c.run_quantum.new.quantum)) c.if-ran.true c.in_ok-ran.ensures.ready

pub returns-then-ran-clause-told : goal.returns-then-ran-clause-told
returns-then-ran-clause-told g c =
    let a = g.P.Port.board c.args.port.now in
    let b = g.P.Port.board c.run_quantum.new.port in
    let leaves = subst (λ (looked : Bool). OnTold a b (Leaves (beat_of c.args.pace) c.args.ticket.now (found_if looked c.run_quantum.new.next))) c.if-ran.true c.in_ok-ran.ensures.told in
    found_behind (beat_of c.args.pace) c.args.ticket.now c.args.owners.now a b (Some c.run_quantum.new.next) leaves

pub returns-in_ok-grant-clause-told : goal.returns-in_ok-grant-clause-told
returns-in_ok-grant-clause-told g c =
    let a = g.P.Port.board c.args.port.now in
    let m = g.P.Port.board c.run_quantum.new.port in
    let leaves = subst (λ (looked : Bool). OnTold a m (Leaves (beat_of c.args.pace) c.args.ticket.now (found_if looked c.run_quantum.new.next))) c.if-ran.false c.in_ok-ran.ensures.told in
    granted (beat_of c.args.pace) c.args.ticket.now c.args.owners.now a m (g.P.Port.board c.grant.new.port) c.grant.new.owners leaves c.grant.ensures.rests
