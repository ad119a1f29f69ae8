use Rattle.std.proofs.Common.{◌∙◌}
use Rattle.cache_board.proofs.EventLaws.{completion_goes_on}
use Rattle.cache_board.proofs.board.Board.complete.Goals as goal

pub returns-clause-on : goal.returns-clause-on
returns-clause-on c =
    let same = c.deref_mut.ensures.value ∙ c.self.view_is in
    completion_goes_on c.args.cpu c.args.self.now c.deref_mut.result.now c.complete-completed.new.core same c.holds.ensures.sound c.holds-2.ensures.sound c.complete-completed.result _ c.args.thread c.complete-completed.ensures.refused c.complete-completed.ensures.completed

pub returns-clause-event : goal.returns-clause-event
returns-clause-event c = record { grew = (returns-clause-on c).grew; was = c.holds.ensures.sound; sound = c.holds-2.ensures.sound }
