use Rattle.std.proofs.Common.{rules, ap, ◌∙◌}
use Rattle.turn_lock.proofs.Entering.{looks_for_turn}
use Rattle.turn_lock.proofs.turn.Turn.wait_for_turn.Goals as goal

pub load-serving-requires : goal.load-serving-requires
load-serving-requires g c = (
  search rules,
  search rules,
  looks_for_turn g.V.History.entries g.V.History.maker _ _ _ c.args.ticket (ap (λ m. m.0.stage) c.loop.invariant.2 ∙ c.requires.drawn),
)
