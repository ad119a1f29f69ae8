use Rattle.std.proofs.Common.{◌≡◌, sym, ap, subst₂, ◌∙◌, Some}
use Rattle.std.specs.List.{slice_get}
use Rattle.std.proofs.lemmas.Option.{same_Some}
use Rattle.cache_ident.specs.declared.names.SpaceNo.{SpaceNo}
use Rattle.rv32_exec.specs.declared.contexts.Context.{Context}
use Rattle.rv32_exec.specs.Steps.{OnMiss}
use Rattle.flat_state.specs.declared.records.FlatThread.{FlatThread}
use Rattle.flat_state.specs.State.{FlatState}
use Rattle.flat_state.specs.Step.{outcome}
use Rattle.flat_events.specs.Readings.{RanIn, unsignalled}
use Rattle.flat_events.proofs.RunLaws.{step_state}
use Rattle.flat_events.proofs.steps.take_step.Goals as goal

pub returns-clause-state : goal.returns-clause-state
returns-clause-state g c = λ t at.
    let old = g.T.Records.state c.args.tables.now in
    let now = g.T.Records.state c.run_in-stepped.new.tables in
    let n = c.args.no.0 in
    let first = g.T.Records.shown c.thread_at-thread.result.now in
    let after = c.run_in-stepped.new.context in
    let there : slice_get now.threads n ≡ Some first = ap (λ (u : FlatState). slice_get u.threads n) c.run_in-stepped.ensures.ran.state ∙ c.thread_at-thread.ensures.thread in
    let ran : RanIn old first.space first.context now after c.run_in-stepped.result = subst₂ (λ (p : SpaceNo) (x : Context). RanIn old p x now after c.run_in-stepped.result) c.space_of-space.ensures c.context_of.ensures c.run_in-stepped.ensures.ran in
    let missed : OnMiss c.run_in-stepped.result ((after ≡ first.context) × (now ≡ old)) = rw c.context_of.ensures at c.run_in-stepped.ensures.missed in
    c.put.ensures.state first there
    ∙ step_state old now n first after c.run_in-stepped.result c.status_after-status.result ran missed (c.status_after-status.ensures first there)
    ∙ ap (unsignalled old n) (same_Some first t (sym c.thread_at-thread.ensures.thread ∙ at))

pub returns-clause-answer : goal.returns-clause-answer
returns-clause-answer g c = λ t at.
    let old = g.T.Records.state c.args.tables.now in
    let now = g.T.Records.state c.run_in-stepped.new.tables in
    let first = g.T.Records.shown c.thread_at-thread.result.now in
    let after = c.run_in-stepped.new.context in
    let ran : RanIn old first.space first.context now after c.run_in-stepped.result = subst₂ (λ (p : SpaceNo) (x : Context). RanIn old p x now after c.run_in-stepped.result) c.space_of-space.ensures c.context_of.ensures c.run_in-stepped.ensures.ran in
    ran.answered ∙ ap (λ (u : FlatThread). (outcome old u).answer) (same_Some first t (sym c.thread_at-thread.ensures.thread ∙ at))
