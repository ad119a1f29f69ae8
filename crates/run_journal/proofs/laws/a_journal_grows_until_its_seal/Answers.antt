use Rattle.std.proofs.Common.{refl, arith}
use Rattle.run_journal.specs.declared.entries.Entry.TheVariants.{Declared}
use Rattle.run_journal.proofs.LegalGrowth.{grown, sealed_grows}
use Rattle.run_journal.proofs.laws.a_journal_grows_until_its_seal.Goals as goal

pub returns : goal.returns
returns c = record {
  declared = λ j d legal unsealed fits. grown j (Declared d) legal (unsealed, fits) (omega arith) tt refl;
  sealed = sealed_grows;
}
