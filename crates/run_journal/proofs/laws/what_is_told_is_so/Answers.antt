use Rattle.run_journal.specs.Told.{nothing_told}
use Rattle.run_journal.proofs.Growth.{residents_told_from, sealed_from}
use Rattle.run_journal.proofs.Standings.{stands_as}
use Rattle.run_journal.proofs.LegalGrowth.{state_told, loads_told}
use Rattle.run_journal.proofs.laws.what_is_told_is_so.Goals as goal

pub returns : goal.returns
returns c = record {
  state = state_told;
  residents = λ j. residents_told_from nothing_told j;
  loads = loads_told;
  sealed = λ j. sealed_from nothing_told j;
  standing = stands_as;
}
