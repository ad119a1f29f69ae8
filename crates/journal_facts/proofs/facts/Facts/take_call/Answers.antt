use Rattle.std.proofs.Common.{ℕ, [], ◌∷◌, refl, sym, ◌∙◌, subst}
use Rattle.std.proofs.lemmas.Bool.{false≢true}
use Rattle.flat_state.specs.declared.events.Event.TheVariants.{Complete}
use Rattle.flat_state.specs.State.{FlatState}
use Rattle.run_journal.specs.declared.entries.Entry.TheVariants.{Completed}
use Rattle.run_journal.specs.Told.{told_after}
use Rattle.run_journal.specs.Legal.{MayComplete, AreGood}
use Rattle.journal_groups.specs.journal_rules.specs.Relied.{AreRelyingOn}
use Rattle.journal_groups.specs.journal_rules.specs.Running.{LeavesGood}
use Rattle.journal_groups.specs.journal_tables.proofs.Staying.{of_completed}
use Rattle.journal_facts.specs.Facts.{AreFactsOf}
use Rattle.journal_facts.proofs.Standing.{late, match_map, stand_more}
use Rattle.journal_facts.proofs.facts.Facts.take_call.Goals as goal

pub returns-then-not-has : goal.returns-then-not-has
returns-then-not-has c = λ k are sealed may. false≢true (sym c.if-not-has.true ∙ (c.has.ensures k are).1 may.resident)

pub returns : goal.returns
returns c = λ k are sealed.
    let thread = c.args.thread in
    let after = λ (cpu : ℕ). told_after k (Completed thread cpu) in
    let there = (c.has.ensures k are).0 c.if-not-has.false in
    match_map _ _ _ (MayComplete k thread × ((cpu : ℕ) → AreFactsOf c.go_on.new.self (after cpu))) (MayComplete k thread → ⊥)
    (c.in_ok-done.ensures k.residents (c.residents.ensures k are.stand.tables)
    (subst (λ (s : FlatState). AreRelyingOn c.relying.result.now s k.residents) are.stand.state (c.relying.ensures k are.stand.tables))
    (subst (λ (s : FlatState). AreGood s k.residents) are.stand.state are.stand.tables.whole.good))
    (λ done.
    let leaves = subst (λ (s : FlatState). LeavesGood s k.residents thread) (sym are.stand.state) done.0 in
    let may : MayComplete k thread = record { resident = there; fits = leaves.fits; good = leaves.good } in (
      may,
      λ cpu. c.go_on.ensures (after cpu)
          (stand_more c.args.self.now _ k (after cpu) (Complete thread ∷ []) are.stand refl (sym done.1) (of_completed c.args.self.now.tables k are.stand.events thread cpu are.stand.made are.stand.tables may) are.stand.loads are.stand.seal
          (late k.sealed sealed))
          refl refl refl,
    ))
    (λ not may. not (subst (λ (s : FlatState). LeavesGood s k.residents thread) are.stand.state (record { fits = may.fits; good = may.good })))
