use Rattle.std.proofs.Common.{◌∙◌, false}
use Rattle.cache_board.proofs.EventLaws.{lock_goes_on}
use Rattle.cache_board.proofs.board.Board.unlock.Goals as goal

pub returns-clause-on : goal.returns-clause-on
returns-clause-on c =
    let same = c.deref_mut.ensures.value ∙ c.self.view_is in
    lock_goes_on c.args.cpu c.args.self.now c.deref_mut.result.now c.unlock-unlocked.new.core same c.holds.ensures.sound c.holds-2.ensures.sound c.unlock-unlocked.result _ c.args.ident false c.unlock-unlocked.ensures.refused c.unlock-unlocked.ensures.unlocked

pub returns-clause-event : goal.returns-clause-event
returns-clause-event c = record { grew = (returns-clause-on c).grew; was = c.holds.ensures.sound; sound = c.holds-2.ensures.sound }
