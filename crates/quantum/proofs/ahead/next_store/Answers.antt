-- The space fetches what the next action is made of.
use Rattle.std.proofs.Common.{Some, None, ap, sym, ◌∙◌}
use Rattle.std.specs.Result.{result_ok}
use Rattle.rv32_exec.specs.declared.actions.Action.{Action}
use Rattle.page_views.specs.Views.{pages_of_views}
use Rattle.quantum.specs.Ahead.{store_by}
use Rattle.quantum.proofs.Looking.{action_at, no_action}
use Rattle.quantum.proofs.ahead.next_store.Goals as goal

pub returns-in_default : goal.returns-in_default
returns-in_default c =
    let vs = c.args.views.now.views in
    ap (store_by c.args.context.now vs) (sym (no_action c.args.context.now (pages_of_views vs) (sym c.fetch.ensures ∙ ap result_ok c.in_default.is)))

pub returns-in-Some : goal.returns-in-Some
returns-in-Some c =
    let vs = c.args.views.now.views in
    c.store_of.ensures
    ∙ ap (store_by c.args.context.now vs)
    (ap (λ (a : Action). Some a) c.action_for.ensures.action
    ∙ sym (action_at c.args.context.now (pages_of_views vs) c.in-Ok.word (sym c.fetch.ensures ∙ ap result_ok c.in-Ok.is) (Some c.in-Some.instr) (sym c.in-Some.is ∙ c.decode.ensures.table)))

pub returns-in-None : goal.returns-in-None
returns-in-None c =
    let vs = c.args.views.now.views in
    ap (store_by c.args.context.now vs)
    (sym (action_at c.args.context.now (pages_of_views vs) c.in-Ok.word (sym c.fetch.ensures ∙ ap result_ok c.in-Ok.is) None (sym c.in-None.is ∙ c.decode.ensures.table)))
