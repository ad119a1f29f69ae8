use Rattle.std.proofs.Common.{◌≡◌, ◌<◌, ◌∙◌, Bool, false, length, sym, ap, ap₂, arith}
use Rattle.std.proofs.lemmas.List.Folds.{list_any_more}
use Rattle.std.proofs.lemmas.Option.{get_or_from_slice_get}
use Rattle.std.specs.Prelude.{◌||◌}
use Rattle.flat_state.specs.Call.{is_completable}
use Rattle.paged_steps.proofs.order.first_completable.Goals as goal

pub loop-at-preserved : goal.loop-at-preserved
loop-at-preserved c =
    let u = c.thread_at.result.now in
    let ts = c.args.tables.now.threads in
    let i = c.loop-at.at in
    let low : i < length ts = omega arith in
    let is = get_or_from_slice_get ts i u u c.thread_at.ensures.thread in
    let not_its : is_completable u ≡ false = sym c.is_completable.ensures ∙ c.if-is_completable.false in
    list_any_more is_completable ts i u low ∙ ap₂ (λ (a b : Bool). a || b) c.loop-at.invariant (ap is_completable is ∙ not_its)
