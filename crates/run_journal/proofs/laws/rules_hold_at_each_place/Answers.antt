use Rattle.run_journal.proofs.PointLaws.{keeps_legal, keeps_begins, legal_keeps}
use Rattle.run_journal.proofs.laws.rules_hold_at_each_place.Goals as goal

pub returns : goal.returns
returns c = record {
  legal = keeps_legal;
  begins = keeps_begins;
  keeps = legal_keeps;
}
