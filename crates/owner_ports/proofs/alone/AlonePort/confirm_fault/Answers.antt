use Rattle.std.proofs.Common.{ℕ, refl, subst, sym, arith}
use Rattle.owner_ports.specs.Brought.{HasGained}
use Rattle.owner_ports.proofs.Gaining.{called_on, ended_gains}
use Rattle.owner_ports.proofs.alone.AlonePort.confirm_fault.Goals as goal

pub returns-clause-followed : goal.returns-clause-followed
returns-clause-followed c =
    let old = c.args.self.now.board.now in
    let before = c.args.self.now.brought in
    let call = c.confirm_fault-answer in
    let gains = ended_gains old call.new.self call.ensures.event c.args.thread before call.result (omega arith) call.ensures.ended in
    (refl, called_on old call.new.self call.ensures.event call.ensures.on, subst (λ (n : ℕ). HasGained old before call.new.self n) (sym c.brought_after-self.ensures) gains)
