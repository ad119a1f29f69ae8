use Rattle.std.proofs.Common.{subst, ◌∙◌}
use Rattle.cache_ident.specs.declared.names.ThreadNo.{ThreadNo}
use Rattle.board_core.specs.Core.{Recorded}
use Rattle.board_commits.specs.board_threads.specs.Posts.{HasComeBack, IsOutWith}
use Rattle.cache_board.proofs.EventLaws.{marks_event}
use Rattle.cache_board.proofs.board.Board.leave.Goals as goal

pub returns-clause-event : goal.returns-clause-event
returns-clause-event c =
    let same = c.deref_mut.ensures.value ∙ c.self.view_is in
    marks_event c.args.ticket.now.cpu c.args.self.now c.deref_mut.result.now c.leave.new.core same c.holds.ensures.sound c.holds-2.ensures.sound c.leave.ensures.only

pub returns-clause-back : goal.returns-clause-back
returns-clause-back c =
    let same = c.deref_mut.ensures.value ∙ c.self.view_is in
    subst (λ (b : Recorded). (whom : ThreadNo) → IsOutWith b c.args.ticket.now whom → HasComeBack whom b c.leave.new.core) same c.leave.ensures.back
