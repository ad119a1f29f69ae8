use Rattle.run_journal.proofs.LegalGrowth.{unloaded_grows, displaced_grows}
use Rattle.run_journal.proofs.laws.a_group_leaves_in_its_order.Goals as goal

pub returns : goal.returns
returns c = record {
  unloaded = unloaded_grows;
  displaced = displaced_grows;
}
