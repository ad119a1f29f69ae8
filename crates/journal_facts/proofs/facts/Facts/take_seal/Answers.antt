use Rattle.std.proofs.Common.{[], refl, sym}
use Rattle.std.proofs.lemmas.Bool.{false≢true}
use Rattle.run_journal.specs.declared.entries.Entry.TheVariants.{Sealed}
use Rattle.run_journal.specs.Told.{told_after}
use Rattle.journal_groups.specs.journal_tables.proofs.Staying.{of_sealed}
use Rattle.journal_facts.proofs.Standing.{stand_more}
use Rattle.journal_facts.proofs.facts.Facts.take_seal.Goals as goal

pub returns : goal.returns
returns c = λ k are. (
  refl,
  c.go_on.ensures (told_after k Sealed)
      (stand_more c.args.self.now _ k (told_after k Sealed) [] are.stand refl refl (of_sealed c.args.self.now.tables k are.stand.tables) are.stand.loads refl (λ off. absurd (false≢true (sym off))))
      refl refl refl,
)
