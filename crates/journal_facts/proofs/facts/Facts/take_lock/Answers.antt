use Rattle.std.proofs.Common.{ℕ, refl}
use Rattle.run_journal.specs.declared.entries.Entry.TheVariants.{Locked}
use Rattle.run_journal.specs.Told.{told_after}
use Rattle.run_journal.specs.Legal.{MayLock}
use Rattle.journal_facts.specs.Facts.{AreFactsOf}
use Rattle.journal_facts.proofs.Standing.{match_map, stand_on}
use Rattle.journal_facts.proofs.facts.Facts.take_lock.Goals as goal

pub returns : goal.returns
returns c = λ k are sealed.
    match_map _ _ _ (MayLock k c.args.ident × ((cpu : ℕ) → AreFactsOf c.go_on.new.self (told_after k (Locked c.args.ident cpu)))) (MayLock k c.args.ident → ⊥) (c.in_ok-may.ensures k are.stand.state are.stand.tables)
    (λ may. (
      may.0,
      λ cpu. c.go_on.ensures (told_after k (Locked c.args.ident cpu))
          (stand_on c.args.self.now _ k (told_after k (Locked c.args.ident cpu)) are.stand sealed refl refl (may.1 cpu) are.stand.loads refl refl)
          refl refl refl,
    ))
    (λ not. not.0)
