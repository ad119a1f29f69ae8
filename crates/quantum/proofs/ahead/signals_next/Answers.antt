-- The space fetches and decodes what the next action is made of, and leaves the views.
use Rattle.std.proofs.Common.{List, Option, Some, None, ap, ap₂, sym, ◌∙◌}
use Rattle.std.specs.Result.{result_ok}
use Rattle.rv32_exec.specs.declared.actions.Action.{Action}
use Rattle.page_views.specs.Views.{pages_of_views, Table, View}
use Rattle.quantum.specs.Ahead.{signals_by}
use Rattle.quantum.proofs.Looking.{action_at, no_action}
use Rattle.quantum.proofs.ViewPages.{same_table}
use Rattle.quantum.proofs.ahead.signals_next.Goals as goal

pub returns-in_default-clause-answer : goal.returns-in_default-clause-answer
returns-in_default-clause-answer c =
    ap (signals_by c.args.views.now.views) (sym (no_action c.args.context.now (pages_of_views c.args.views.now.views) (sym c.fetch.ensures ∙ ap result_ok c.in_default.is)))

pub returns-in-Some-clause-answer : goal.returns-in-Some-clause-answer
returns-in-Some-clause-answer c =
    let vs = c.args.views.now.views in
    c.signals.ensures
    ∙ ap₂ (λ (ws : List View) (a : Option Action). signals_by ws a) (ap (λ (t : Table). t.views) (same_table c.args.views.now c.instruction.new.self c.instruction.ensures.kept c.instruction.ensures.pages))
    (ap (λ (a : Action). Some a) c.action_for.ensures.action
    ∙ sym (action_at c.args.context.now (pages_of_views vs) c.in-Ok.word (sym c.fetch.ensures ∙ ap result_ok c.in-Ok.is) (Some c.in-Some.instr) (sym c.in-Some.is ∙ c.instruction.ensures.decoded)))

pub returns-in-Some-clause-views : goal.returns-in-Some-clause-views
returns-in-Some-clause-views c = same_table c.args.views.now c.instruction.new.self c.instruction.ensures.kept c.instruction.ensures.pages

pub returns-in-None-clause-answer : goal.returns-in-None-clause-answer
returns-in-None-clause-answer c =
    ap (signals_by c.args.views.now.views) (sym (action_at c.args.context.now (pages_of_views c.args.views.now.views) c.in-Ok.word (sym c.fetch.ensures ∙ ap result_ok c.in-Ok.is) None (sym c.in-None.is ∙ c.instruction.ensures.decoded)))

pub returns-in-None-clause-views : goal.returns-in-None-clause-views
returns-in-None-clause-views c = same_table c.args.views.now c.instruction.new.self c.instruction.ensures.kept c.instruction.ensures.pages
