use Rattle.std.proofs.Common.{ℕ, [], ap, ◌∙◌, arith}
use Rattle.run_journal.specs.Standing.{standing_of, standing_from}
use Rattle.cache_ident.specs.declared.idents.Standing.TheVariants.{Never}
use Rattle.run_journal.specs.Told.{nothing_told}
use Rattle.run_journal.proofs.Growth.{erase-append, steps-append, residents_from-append, standing_from-append, told_from-append}
use Rattle.run_journal.proofs.LegalGrowth.{flat-append}
use Rattle.run_journal.proofs.laws.a_longer_journal_tells_more.Goals as goal

pub returns : goal.returns
returns c = record {
  events = erase-append;
  state = flat-append;
  steps = steps-append;
  residents = λ j es. residents_from-append [] j es;
  standing = λ j es ident. standing_from-append 0 ident Never j es ∙ ap (λ (n : ℕ). standing_from n ident (standing_of j ident) es) (omega arith);
  told = λ j es. told_from-append nothing_told j es;
}
