use Rattle.std.proofs.Common.{◌≡◌, ℕ, ap, refl, sym, ◌∙◌}
use Rattle.std.proofs.lemmas.Bool.{false≢true}
use Rattle.run_journal.specs.declared.entries.Entry.TheVariants.{Loaded}
use Rattle.run_journal.specs.Told.{due_after_load, told_after}
use Rattle.run_journal.specs.Legal.{MayLoad}
use Rattle.journal_facts.specs.Facts.{AreFactsOf}
use Rattle.journal_facts.specs.Order.{beginning_of}
use Rattle.journal_facts.proofs.Standing.{match_map, number_more, stand_on}
use Rattle.journal_facts.proofs.facts.Facts.take_load.Goals as goal

pub returns-then-not-has_made : goal.returns-then-not-has_made
returns-then-not-has_made c = λ k are sealed may. false≢true (sym c.if-not-has_made.true ∙ (c.has_made.ensures k are).1 may.serial)

pub returns : goal.returns
returns c = λ k are sealed.
    let loads : c.args.ident.serial ≡ k.loads = (c.has_made.ensures k are).0 c.if-not-has_made.false in
    match_map _ _ _ (MayLoad k c.args.ident c.args.name × ((cpu : ℕ) → AreFactsOf c.go_on.new.self (told_after k (Loaded c.args.ident c.args.name cpu)))) (MayLoad k c.args.ident c.args.name → ⊥)
    (c.in_ok-may.ensures k are.stand.state (sym loads) are.stand.tables)
    (λ may. (
      may.0,
      λ cpu. c.go_on.ensures (told_after k (Loaded c.args.ident c.args.name cpu))
          (stand_on c.args.self.now _ k (told_after k (Loaded c.args.ident c.args.name cpu)) are.stand sealed refl refl (may.1 cpu) (number_more c.checked_add-self.result c.args.ident.serial k.loads loads c.checked_add-self.ensures) refl refl)
          refl refl (c.behind_load.ensures ∙ ap (λ (n : ℕ). beginning_of (due_after_load n)) loads),
    ))
    (λ not. not.0)
