use Rattle.std.proofs.Common.{◌∙◌}
use Rattle.cache_board.proofs.EventLaws.{room_event}
use Rattle.cache_board.proofs.board.Board.reserve.Goals as goal

pub returns-clause-event : goal.returns-clause-event
returns-clause-event c =
    let same = c.deref_mut.ensures.value ∙ c.self.view_is in
    λ cpu. room_event cpu c.args.self.now c.deref_mut.result.now c.reserve-reserved.new.self same c.holds.ensures.sound c.holds-2.ensures.sound c.reserve-reserved.ensures.only
