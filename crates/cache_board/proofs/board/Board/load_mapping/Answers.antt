use Rattle.std.proofs.Common.{◌∙◌}
use Rattle.cache_board.proofs.EventLaws.{row_goes_on}
use Rattle.cache_board.proofs.board.Board.load_mapping.Goals as goal

pub returns-clause-on : goal.returns-clause-on
returns-clause-on c =
    let same = c.deref_mut.ensures.value ∙ c.self.view_is in
    row_goes_on c.args.cpu c.args.self.now c.deref_mut.result.now c.load_mapping-loaded.new.core same c.holds.ensures.sound c.holds-2.ensures.sound c.load_mapping-loaded.result _ c.args.vpn _ c.load_mapping-loaded.ensures.refused c.load_mapping-loaded.ensures.loaded

pub returns-clause-event : goal.returns-clause-event
returns-clause-event c = record { grew = (returns-clause-on c).grew; was = c.holds.ensures.sound; sound = c.holds-2.ensures.sound }
