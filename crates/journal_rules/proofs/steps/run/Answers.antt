use Rattle.std.proofs.Common.{◌≡◌, ℕ, false, refl, ap, sym, ◌∙◌, subst, arith}
use Rattle.std.proofs.lemmas.Bool.{false≢true}
use Rattle.flat_state.specs.declared.events.Event.TheVariants.{Step}
use Rattle.flat_state.specs.State.{FlatState}
use Rattle.flat_state.specs.Events.{applied}
use Rattle.run_journal.specs.Legal.{MayStep, after_steps}
use Rattle.journal_rules.specs.Running.{MayStepOn}
use Rattle.journal_rules.proofs.Stepping.{one_more, on_none, on_more}
use Rattle.journal_rules.proofs.steps.run.Goals as goal

pub loop-init : goal.loop-init
loop-init c = (refl, λ rs those. on_none c.args.flat.now rs c.args.thread)

pub loop-preserved : goal.loop-preserved
loop-preserved c = (
  c.in_ok-apply.ensures.ok ∙ ap (λ (s : FlatState). applied s (Step c.args.thread)) c.loop.invariant.0 ∙ sym (one_more c.args.flat.now c.args.thread c.loop.counter),
  λ rs those. on_more c.args.flat.now rs c.args.thread c.loop.counter (c.loop.invariant.1 rs those) (subst (λ (s : FlatState). MayStep s rs c.args.thread false) c.loop.invariant.0 ((c.if-not-may_step.ensures rs those).0 refl)),
)

pub returns-then-not-may_step : goal.returns-then-not-may_step
returns-then-not-may_step c = λ rs those on.
    false≢true ((c.if-not-may_step.ensures rs those).1 (subst (λ (s : FlatState). MayStep s rs c.args.thread false) (sym c.loop.invariant.0) (on c.loop.counter (omega arith))))

pub returns : goal.returns
returns c = λ rs those.
    let whole : c.loop.counter ≡ c.args.steps = omega arith in
    (subst (λ (n : ℕ). MayStepOn c.args.flat.now rs c.args.thread n) whole (c.loop.invariant.1 rs those), c.loop.invariant.0 ∙ ap (after_steps c.args.flat.now c.args.thread) whole)
