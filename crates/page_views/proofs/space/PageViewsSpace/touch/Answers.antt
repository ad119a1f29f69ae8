use Rattle.std.proofs.Common.{◌/◌, List, ap, ◌∙◌}
use Rattle.cache_ident.specs.declared.names.Vpn.{Vpn}
use Rattle.page_views.specs.Views.{mark_view_of, pages_of_views, rest_of, Copied, Table}
use Rattle.page_views.proofs.Tables.{copies_mapped, mark_copied, touched_is}
use Rattle.page_views.proofs.space.PageViewsSpace.touch.Goals as goal

pub returns-clause-marks : goal.returns-clause-marks
returns-clause-marks c = ap (λ (t : Table). pages_of_views t.views) c.mark.ensures ∙ touched_is c.args.self.now.views c.args.va c.args.access

pub returns-clause-kept : goal.returns-clause-kept
returns-clause-kept c =
    let page : Vpn = record { 0 = c.args.va / 4096 } in
    ap rest_of c.mark.ensures
    ∙ ap (λ (cs : List Copied). (c.args.self.now.most, cs, c.args.self.now.kept)) (copies_mapped (mark_view_of page c.args.access) (mark_copied page c.args.access) c.args.self.now.views)
