-- One view more happened.
use Rattle.std.proofs.Common.{set, arith, ap, sym, ◌∙◌}
use Rattle.std.proofs.lemmas.List.Edits.{map_over_more}
use Rattle.page_views.specs.Views.{as_happened}
use Rattle.page_views.proofs.table.happen_each.Goals as goal

pub loop-i-preserved : goal.loop-i-preserved
loop-i-preserved c =
    let f = as_happened c.args.place in
    ap (set c.loop-i.views c.loop-i.i) (c.happen_if.ensures ∙ ap f (sym c.index-views-i.is))
    ∙ map_over_more f c.args.views.now c.loop-i.views c.loop-i.i c.index-views-i.result (omega arith) c.loop-i.invariant c.index-views-i.is
