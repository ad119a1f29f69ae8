use Rattle.std.proofs.Common.{refl}
use Rattle.run_journal.specs.declared.entries.Entry.TheVariants.{Loaded, Locked, Unlocked, Ran, Ended, Completed}
use Rattle.run_journal.specs.Told.{told}
use Rattle.run_journal.proofs.LegalGrowth.{grown, not_first_load}
use Rattle.run_journal.proofs.laws.a_journal_grows_behind_its_seal.Goals as goal

pub returns : goal.returns
returns c = record {
  loaded = λ j ident name cpu legal sealed some few may. grown j (Loaded ident name cpu) legal sealed few may (not_first_load (told j).loads some);
  locked = λ j ident cpu legal sealed few may. grown j (Locked ident cpu) legal sealed few may refl;
  unlocked = λ j ident cpu legal sealed few may. grown j (Unlocked ident cpu) legal sealed few may refl;
  ran = λ j thread steps cpu legal sealed few may. grown j (Ran thread steps cpu) legal sealed few may refl;
  ended = λ j thread cpu legal sealed few may. grown j (Ended thread cpu) legal sealed few may refl;
  completed = λ j thread cpu legal sealed few may. grown j (Completed thread cpu) legal sealed few may refl;
}
