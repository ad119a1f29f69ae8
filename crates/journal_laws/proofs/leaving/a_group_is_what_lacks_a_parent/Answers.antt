use Rattle.run_journal.specs.flat_state.specs.Events.{flat}
use Rattle.run_journal.specs.flat_state.proofs.FormedEvents.{flat_formed}
use Rattle.journal_laws.proofs.GroupLaw.{group_if, order_if}
use Rattle.journal_laws.proofs.leaving.a_group_is_what_lacks_a_parent.Goals as goal

pub returns : goal.returns
returns c = λ es before after gone root left whole good. (order_if (flat es) (flat_formed es) before after gone root left whole good, group_if (flat es) (flat_formed es) before after gone root left whole good)
