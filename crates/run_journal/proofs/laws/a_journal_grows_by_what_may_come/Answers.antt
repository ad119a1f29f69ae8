use Rattle.run_journal.specs.Told.{nothing_told}
use Rattle.run_journal.proofs.Growth.{legal-split}
use Rattle.run_journal.proofs.LegalGrowth.{grows}
use Rattle.run_journal.proofs.laws.a_journal_grows_by_what_may_come.Goals as goal

pub returns : goal.returns
returns c = record {
  grows = grows;
  begins = λ j es legal. (legal-split nothing_told j es legal.each).0;
  goes_on = λ j es legal. (legal-split nothing_told j es legal.each).1;
}
