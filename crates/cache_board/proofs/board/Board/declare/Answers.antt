use Rattle.std.proofs.Common.{◌∙◌}
use Rattle.cache_board.proofs.EventLaws.{declare_event}
use Rattle.cache_board.proofs.board.Board.declare.Goals as goal

pub returns-clause-event : goal.returns-clause-event
returns-clause-event c =
    let same = c.deref_mut.ensures.value ∙ c.self.view_is in
    declare_event c.args.self.now c.deref_mut.result.now c.declare-declared.new.core same c.holds.ensures.sound c.holds-2.ensures.sound c.declare-declared.result _ c.args.decl.now c.declare-declared.ensures.refused c.declare-declared.ensures.declared
