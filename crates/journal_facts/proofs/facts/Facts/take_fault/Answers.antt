use Rattle.std.proofs.Common.{[], ◌∷◌, true, refl, sym, ◌∙◌, subst}
use Rattle.std.proofs.lemmas.Bool.{false≢true}
use Rattle.flat_state.specs.declared.events.Event.TheVariants.{Step}
use Rattle.flat_state.specs.State.{FlatState}
use Rattle.run_journal.specs.declared.entries.Entry.TheVariants.{Ended}
use Rattle.run_journal.specs.Told.{told_after}
use Rattle.run_journal.specs.Legal.{MayEnd, MayStep}
use Rattle.journal_groups.specs.journal_tables.proofs.Staying.{of_ended}
use Rattle.journal_facts.proofs.Standing.{late, stand_more}
use Rattle.journal_facts.proofs.facts.Facts.take_fault.Goals as goal

pub returns-then-not-has : goal.returns-then-not-has
returns-then-not-has c = λ k are sealed may. false≢true (sym c.if-not-has.true ∙ (c.has.ensures k are).1 may.resident)

pub returns-then-not-may_step : goal.returns-then-not-may_step
returns-then-not-may_step c = λ k are sealed may.
    let step = subst (λ (s : FlatState). MayStep s k.residents c.args.thread true) are.stand.state may.step in
    false≢true (sym c.if-not-may_step.true ∙ (c.may_step.ensures k.residents (c.residents.ensures k are.stand.tables)).1 step)

pub returns : goal.returns
returns c = λ k are sealed.
    let thread = c.args.thread in
    let step = (c.may_step.ensures k.residents (c.residents.ensures k are.stand.tables)).0 c.if-not-may_step.false in
    let may : MayEnd k thread = record {
      resident = (c.has.ensures k are).0 c.if-not-has.false;
      step = subst (λ (s : FlatState). MayStep s k.residents thread true) (sym are.stand.state) step;
    } in (
      may,
      λ cpu. c.go_on.ensures (told_after k (Ended thread cpu))
          (stand_more c.args.self.now _ k (told_after k (Ended thread cpu)) (Step thread ∷ []) are.stand refl (sym c.in_ok-apply.ensures.ok) (of_ended c.args.self.now.tables k thread cpu are.stand.tables may) are.stand.loads are.stand.seal
          (late k.sealed sealed))
          refl refl refl,
    )
