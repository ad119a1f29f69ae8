use Rattle.number_set.proofs.SetLemmas.{sound_empty}
use Rattle.number_set.proofs.set.NumberSet.new.Goals as goal

pub invariant_of-result : goal.invariant_of-result
invariant_of-result c = sound_empty c.new.result.items c.new-2.result.items c.new.ensures.items c.new-2.ensures.items
