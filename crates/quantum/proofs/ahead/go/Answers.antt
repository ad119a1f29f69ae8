-- Each step goes one further, or is the last.
use Rattle.std.proofs.Common.{◌≡◌, false, None, ap, sym, ◌∙◌, subst}
use Rattle.rv32_exec.specs.Steps.{after_step}
use Rattle.page_views.specs.Views.{has_message, pages_of_views, Table}
use Rattle.quantum.specs.Ahead.{ahead_over, signals_next}
use Rattle.quantum.proofs.Going.{goes_on, message_stays, run_by, run_limit, run_signal, Took}
use Rattle.quantum.proofs.Looking.{quiet_action}
use Rattle.quantum.proofs.ahead.go.Goals as goal
use Rattle.quantum.proofs.ahead.go.Goals.{After-take-stepped, else-watched-via-then-watched+else-signals_next, else-watched-via-else-watched}

-- The step was taken over the views that were looked at, and is no store that signals.
record IsTaken (c : After-take-stepped) : Type 0 where
  took : Took c.loop-steps.context c.loop-steps.views c.take-stepped.new.context c.take-stepped.new.views c.take-stepped.result
  quiet : signals_next (ahead_over c.loop-steps.context c.loop-steps.context c.loop-steps.views c.loop-steps.steps None) ≡ false

is_taken : (c : After-take-stepped) → IsTaken c
is_taken c =
    let t : Table = c.loop-steps.views in
    let looked : (c.else-watched.views ≡ t) × (signals_next (ahead_over c.loop-steps.context c.loop-steps.context t c.loop-steps.steps None) ≡ false) =
    elim c.else-watched.branch [
      | else-watched-via-then-watched+else-signals_next w ↦ (w.views-is ∙ w.signals_next.ensures.views, sym w.signals_next.ensures.answer ∙ w.if-signals_next.false)
      | else-watched-via-else-watched w ↦ (w.views-is, quiet_action t.views (sym c.loop-steps.invariant.watched ∙ w.if-watched.false) _)
    ] in
    let is = c.take-stepped.ensures in
    let over : Took c.loop-steps.context c.else-watched.views c.take-stepped.new.context c.take-stepped.new.views c.take-stepped.result =
    record { context = is.context; views = is.views; answer = is.answer; missed = is.missed } in
    record {
      took = subst (λ (u : Table). Took c.loop-steps.context u c.take-stepped.new.context c.take-stepped.new.views c.take-stepped.result) looked.0 over;
      quiet = looked.1;
    }

pub returns-then-signals_next : goal.returns-then-signals_next
returns-then-signals_next c = λ first.
    let before = ahead_over first c.args.context.now c.args.views.now c.args.from None in
    let now = c.loop-steps in
    rw c.signals_next.ensures.views
    (run_signal c.args.limit before first now.context now.views now.steps (now.invariant.going first) c.loop-steps-test.true (sym c.signals_next.ensures.answer ∙ c.if-signals_next.true))

pub returns-in_default : goal.returns-in_default
returns-in_default c = λ first.
    let before = ahead_over first c.args.context.now c.args.views.now c.args.from None in
    let now = c.loop-steps in
    let is = is_taken (goal.at.returns-in_default c).After-take-stepped in
    run_by c.args.limit before first now.context now.views now.steps (now.invariant.going first) c.loop-steps-test.true c.take-stepped.new.context c.take-stepped.new.views c.take-stepped.result is.took is.quiet
    c.went_by.result c.went_by.ensures

pub loop-steps-preserved : goal.loop-steps-preserved
loop-steps-preserved c =
    let now = c.loop-steps in
    let is = is_taken (goal.at.loop-steps-preserved c).After-take-stepped in
    record {
      aligned = c.take-stepped.ensures.aligned;
      watched = now.invariant.watched ∙ sym (ap (λ (t : Table). has_message t.views) is.took.views ∙ message_stays now.views.views (after_step now.context (pages_of_views now.views.views)).pages);
      going = λ first.
          let before = ahead_over first c.args.context.now c.args.views.now c.args.from None in
          goes_on c.args.limit before first now.context now.views now.steps (now.invariant.going first) c.loop-steps-test.true c.take-stepped.new.context c.take-stepped.new.views c.take-stepped.result is.took is.quiet c.in-Next.is;
    }

pub returns : goal.returns
returns c = λ first.
    let before = ahead_over first c.args.context.now c.args.views.now c.args.from None in
    let now = c.loop-steps in
    run_limit c.args.limit before (ahead_over first now.context now.views now.steps None) (now.invariant.going first) c.loop-steps-test.false
