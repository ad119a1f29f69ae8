use Rattle.std.proofs.Common.{refl, arith}
use Rattle.board_turns.proofs.Growing.{grown_by}
use Rattle.board_turns.proofs.alone.AloneProcessor.leave_and_heal.Goals as goal

pub returns-clause-continued : goal.returns-clause-continued
returns-clause-continued c =
    let stepped = c.in_ok-leave_and_heal.ensures.stepped in
    let sum = c.saturating_add-self.ensures in
    (refl, grown_by c.args.self.now.board.now c.leave_and_heal.new.board c.leave_and_heal.ensures.event c.args.self.now.brought c.saturating_add-self.result (omega (arith, sum)) (omega (arith, sum, stepped)))
