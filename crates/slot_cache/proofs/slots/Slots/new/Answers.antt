use Rattle.std.proofs.Common.{ap, ◌∙◌}
use Rattle.slot_cache.specs.Slots.{padded}
use Rattle.slot_cache.proofs.PadLemmas.{pad_none}
use Rattle.slot_cache.proofs.slots.Slots.new.Goals as goal

pub returns : goal.returns
returns c = ap (padded c.args.cap) c.in_ok-written.ensures.items ∙ pad_none c.args.cap
