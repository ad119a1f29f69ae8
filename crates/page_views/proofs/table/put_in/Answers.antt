-- One view more has the bytes.
use Rattle.std.proofs.Common.{set, arith, ap, sym, ◌∙◌}
use Rattle.std.proofs.lemmas.List.Edits.{map_over_more}
use Rattle.rv32_exec.specs.Pages.{size_of}
use Rattle.page_views.specs.Views.{put_in_view}
use Rattle.page_views.proofs.table.put_in.Goals as goal

pub loop-i-preserved : goal.loop-i-preserved
loop-i-preserved c =
    let f = put_in_view c.args.frame (size_of c.args.width) c.args.at c.args.value in
    ap (set c.loop-i.views c.loop-i.i) (c.put_if.ensures ∙ ap f (sym c.index-views-i.is))
    ∙ map_over_more f c.args.views.now c.loop-i.views c.loop-i.i c.index-views-i.result (omega arith) c.loop-i.invariant c.index-views-i.is
