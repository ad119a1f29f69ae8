use Rattle.std.proofs.Common.{◌∙◌}
use Rattle.flat_events.proofs.CallEnds.{same_effect}
use Rattle.flat_events.proofs.asked.effect_of.Goals as goal

pub returns : goal.returns
returns c = λ number queue. c.effect.ensures.effect ∙ same_effect c.args.no number c.args.context.now _ queue
