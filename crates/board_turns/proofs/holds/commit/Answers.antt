use Rattle.std.proofs.Common.{None, subst}
use Rattle.board_turns.specs.declared.committed.Committed.{Committed}
use Rattle.board_turns.specs.Holds.{found_if, HasCommitted}
use Rattle.board_turns.proofs.Looking.{taken_then}
use Rattle.board_turns.proofs.holds.commit.Goals as goal

pub returns-in-Taken-clause-committed : goal.returns-in-Taken-clause-committed
returns-in-Taken-clause-committed c =
    let ticket = c.args.ticket.now in
    let q = c.args.quantum.now in
    let old = c.args.board.now in
    let mid = c.commit_steps.new.board in
    let before = c.args.next.now in
    let taken = subst (λ (x : Committed). HasCommitted ticket q None old mid before x) c.in-Taken.is (c.in_ok-commit_steps.ensures.committed before) in
    taken_then ticket q c.args.want_first old mid c.look_if.new.board (found_if c.in-Taken.looked before) (found_if c.look_if.result c.look_if.new.next) taken c.look_if.ensures.looked

pub returns-in-TooMany-clause-committed : goal.returns-in-TooMany-clause-committed
returns-in-TooMany-clause-committed c =
    let next = c.args.next.now in
    subst (λ (x : Committed). HasCommitted c.args.ticket.now c.args.quantum.now None c.args.board.now c.commit_steps.new.board next x) c.in-TooMany.is (c.in_ok-commit_steps.ensures.committed next)

pub returns-in-Lost-clause-committed : goal.returns-in-Lost-clause-committed
returns-in-Lost-clause-committed c =
    let next = c.args.next.now in
    subst (λ (x : Committed). HasCommitted c.args.ticket.now c.args.quantum.now None c.args.board.now c.commit_steps.new.board next x) c.in-Lost.is (c.in_ok-commit_steps.ensures.committed next)
