use Rattle.declared_names.proofs.OrderLemmas.{sound-new}
use Rattle.declared_names.proofs.names.DeclaredNames.new.Goals as goal

pub invariant_of-result : goal.invariant_of-result
invariant_of-result c = sound-new c.new.result c.new-2.result c.new.ensures c.new-2.ensures
