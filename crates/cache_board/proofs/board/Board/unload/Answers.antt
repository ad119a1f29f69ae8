use Rattle.std.proofs.Common.{◌∙◌}
use Rattle.cache_board.proofs.EventLaws.{unload_goes_on}
use Rattle.cache_board.proofs.board.Board.unload.Goals as goal

pub returns-clause-on : goal.returns-clause-on
returns-clause-on c =
    let same = c.deref_mut.ensures.value ∙ c.self.view_is in
    unload_goes_on c.args.cpu c.args.self.now c.deref_mut.result.now c.unload-unloaded.new.core same c.holds.ensures.sound c.holds-2.ensures.sound c.unload-unloaded.result _ c.args.ident c.unload-unloaded.ensures.refused c.unload-unloaded.ensures.unloaded

pub returns-clause-event : goal.returns-clause-event
returns-clause-event c = record { grew = (returns-clause-on c).grew; was = c.holds.ensures.sound; sound = c.holds-2.ensures.sound }
