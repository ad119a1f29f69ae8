use Rattle.std.proofs.Common.{◌∙◌}
use Rattle.cache_board.proofs.EventLaws.{seal_event}
use Rattle.cache_board.proofs.board.Board.seal.Goals as goal

pub returns-clause-event : goal.returns-clause-event
returns-clause-event c =
    let same = c.deref_mut.ensures.value ∙ c.self.view_is in
    seal_event c.args.self.now c.deref_mut.result.now c.seal-sealed.new.core same c.holds.ensures.sound c.holds-2.ensures.sound c.seal-sealed.result _ c.seal-sealed.ensures.refused c.seal-sealed.ensures.sealed
