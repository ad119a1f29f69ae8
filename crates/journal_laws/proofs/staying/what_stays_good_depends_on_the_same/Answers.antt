use Rattle.run_journal.specs.flat_state.proofs.FormedEvents.{flat_formed}
use Rattle.run_journal.specs.flat_state.specs.Events.{flat}
use Rattle.journal_laws.proofs.SameDependence.{depends_on_same, owner_stays, frame_stays, class_stays}
use Rattle.journal_laws.proofs.staying.what_stays_good_depends_on_the_same.Goals as goal

pub returns : goal.returns
returns c = record {
  depends = λ es e rs before after r there parent. depends_on_same (flat es) e (flat_formed es) rs before after r there parent;
  owner = λ es e name before after. owner_stays (flat es) e (flat_formed es) name before after;
  frame = λ es e name before after. frame_stays (flat es) e (flat_formed es) name before after;
  class = λ es e name before after. class_stays (flat es) e (flat_formed es) name before after;
}
