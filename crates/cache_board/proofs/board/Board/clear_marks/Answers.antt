use Rattle.std.proofs.Common.{◌∙◌}
use Rattle.cache_board.proofs.EventLaws.{marks_event}
use Rattle.cache_board.proofs.board.Board.clear_marks.Goals as goal

pub returns-clause-event : goal.returns-clause-event
returns-clause-event c =
    let same = c.deref_mut.ensures.value ∙ c.self.view_is in
    λ cpu. marks_event cpu c.args.self.now c.deref_mut.result.now c.clear_marks.new.core same c.holds.ensures.sound c.holds-2.ensures.sound c.clear_marks.ensures.only
