use Rattle.std.proofs.Common.{◌<◌, ℕ, replicate, refl, sym, ◌∙◌, subst, arith}
use Rattle.std.proofs.lemmas.Bool.{false≢true}
use Rattle.flat_state.specs.declared.events.Event.TheVariants.{Step}
use Rattle.flat_state.specs.State.{FlatState}
use Rattle.run_journal.specs.declared.entries.Entry.TheVariants.{Ran}
use Rattle.run_journal.specs.Told.{told_after}
use Rattle.run_journal.specs.Legal.{MayRun}
use Rattle.journal_groups.specs.journal_rules.specs.Running.{MayStepOn}
use Rattle.journal_groups.specs.journal_tables.proofs.Staying.{of_ran}
use Rattle.journal_facts.specs.Facts.{AreFactsOf}
use Rattle.journal_facts.proofs.Standing.{late, match_map, stand_more}
use Rattle.journal_facts.proofs.facts.Facts.take_steps.Goals as goal

pub returns-then-steps-eq0 : goal.returns-then-steps-eq0
returns-then-steps-eq0 c = λ k are sealed may. let some = may.some in let none = c.if-steps-eq0.true in omega arith

pub returns-then-not-has : goal.returns-then-not-has
returns-then-not-has c = λ k are sealed may. false≢true (sym c.if-not-has.true ∙ (c.has.ensures k are).1 may.resident)

pub returns : goal.returns
returns c = λ k are sealed.
    let thread = c.args.thread in
    let steps = c.args.steps in
    let after = λ (cpu : ℕ). told_after k (Ran thread steps cpu) in
    let there = (c.has.ensures k are).0 c.if-not-has.false in
    let some : 0 < steps = omega arith in
    match_map _ _ _ (MayRun k thread steps × ((cpu : ℕ) → AreFactsOf c.go_on.new.self (after cpu))) (MayRun k thread steps → ⊥)
    (c.in_ok-ran.ensures k.residents (c.residents.ensures k are.stand.tables))
    (λ ran.
    let each = subst (λ (s : FlatState). MayStepOn s k.residents thread steps) (sym are.stand.state) ran.0 in
    let may : MayRun k thread steps = record { some = some; resident = there; each = each } in (
      may,
      λ cpu. c.go_on.ensures (after cpu)
          (stand_more c.args.self.now _ k (after cpu) (replicate steps (Step thread)) are.stand refl (sym ran.1) (of_ran c.args.self.now.tables k thread steps cpu are.stand.tables may) are.stand.loads are.stand.seal
          (late k.sealed sealed))
          refl refl refl,
    ))
    (λ not may. not (subst (λ (s : FlatState). MayStepOn s k.residents thread steps) are.stand.state may.each))
