use Rattle.std.proofs.Common.{◌∙◌}
use Rattle.cache_board.proofs.EventLaws.{commit_event}
use Rattle.cache_board.proofs.board.Board.commit.Goals as goal

pub returns-clause-event : goal.returns-clause-event
returns-clause-event c =
    let same = c.deref_mut.ensures.value ∙ c.self.view_is in
    commit_event c.args.self.now c.deref_mut.result.now c.commit-committed.new.core same c.holds.ensures.sound c.holds-2.ensures.sound c.commit-committed.result _ c.args.ticket.now c.args.quantum.now c.commit-committed.ensures.refused c.commit-committed.ensures.committed
