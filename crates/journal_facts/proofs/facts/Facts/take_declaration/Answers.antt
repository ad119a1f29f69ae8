use Rattle.std.proofs.Common.{[], ◌∷◌, refl, sym}
use Rattle.flat_state.specs.declared.events.Event.TheVariants.{Declare}
use Rattle.run_journal.specs.declared.entries.Entry.TheVariants.{Declared}
use Rattle.run_journal.specs.Told.{told_after}
use Rattle.journal_groups.specs.journal_tables.proofs.Staying.{of_declared}
use Rattle.journal_facts.proofs.Standing.{stand_more}
use Rattle.journal_facts.proofs.facts.Facts.take_declaration.Goals as goal

pub returns : goal.returns
returns c = λ k are unsealed. (
  refl,
  c.go_on.ensures (told_after k (Declared c.args.decl))
      (stand_more c.args.self.now _ k (told_after k (Declared c.args.decl)) (Declare c.args.decl ∷ []) are.stand refl (sym c.in_ok-apply.ensures.ok)
      (of_declared c.args.self.now.tables k c.args.decl are.stand.tables (are.stand.early unsealed)) are.stand.loads are.stand.seal are.stand.early)
      refl refl refl,
)
