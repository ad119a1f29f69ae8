use Rattle.std.proofs.Common.{ℕ, refl, ap, arith}
use Rattle.board_turns.specs.Holds.{taken_by}
use Rattle.board_turns.proofs.Growing.{grown_by, grown_event}
use Rattle.board_turns.proofs.alone.AloneProcessor.commit.Goals as goal

pub returns-in_err-committed-clause-continued : goal.returns-in_err-committed-clause-continued
returns-in_err-committed-clause-continued c = (refl, grown_event c.args.self.now.board.now c.commit.new.board c.commit.ensures.event c.args.self.now.brought)

pub returns-clause-continued : goal.returns-clause-continued
returns-clause-continued c =
    let same = ap (λ (n : ℕ). taken_by c.in_ok-committed.committed n) c.steps-steps.ensures.steps in
    let most = c.brought_by-self.ensures.most in
    let taken = c.in_ok-committed.ensures.taken in
    (refl, grown_by c.args.self.now.board.now c.commit.new.board c.commit.ensures.event c.args.self.now.brought c.brought_by-self.result c.brought_by-self.ensures.rose (omega (arith, same, most, taken)))
