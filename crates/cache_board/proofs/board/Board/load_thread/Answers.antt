use Rattle.std.proofs.Common.{◌∙◌}
use Rattle.cache_ident.specs.declared.names.Name.TheVariants as name
use Rattle.cache_board.proofs.EventLaws.{load_goes_on}
use Rattle.cache_board.proofs.board.Board.load_thread.Goals as goal

pub returns-clause-on : goal.returns-clause-on
returns-clause-on c =
    let same = c.deref_mut.ensures.value ∙ c.self.view_is in
    load_goes_on c.args.cpu c.args.self.now c.deref_mut.result.now c.load_thread-loaded.new.core same c.holds.ensures.sound c.holds-2.ensures.sound c.load_thread-loaded.result _ (name.Thread c.args.thread) c.load_thread-loaded.ensures.refused c.load_thread-loaded.ensures.loaded

pub returns-clause-event : goal.returns-clause-event
returns-clause-event c = record { grew = (returns-clause-on c).grew; was = c.holds.ensures.sound; sound = c.holds-2.ensures.sound }
