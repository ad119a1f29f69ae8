use Rattle.std.proofs.Common.{◌∙◌, true}
use Rattle.cache_board.proofs.EventLaws.{lock_goes_on}
use Rattle.cache_board.proofs.board.Board.lock.Goals as goal

pub returns-clause-on : goal.returns-clause-on
returns-clause-on c =
    let same = c.deref_mut.ensures.value ∙ c.self.view_is in
    lock_goes_on c.args.cpu c.args.self.now c.deref_mut.result.now c.lock-locked.new.core same c.holds.ensures.sound c.holds-2.ensures.sound c.lock-locked.result _ c.args.ident true c.lock-locked.ensures.refused c.lock-locked.ensures.locked

pub returns-clause-event : goal.returns-clause-event
returns-clause-event c = record { grew = (returns-clause-on c).grew; was = c.holds.ensures.sound; sound = c.holds-2.ensures.sound }
