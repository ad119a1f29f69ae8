-- The view of the page has the mark already.
use Rattle.std.proofs.Common.{◌≡◌, ◌/◌, List, map, take, ap, arith, subst}
use Rattle.std.proofs.lemmas.Bool.{OnTrue_at}
use Rattle.cache_ident.specs.declared.names.Vpn.{Vpn}
use Rattle.page_views.specs.Views.{mark_view_of, Table, View}
use Rattle.page_views.proofs.Spotting.{marked_already}
use Rattle.page_views.proofs.table.PageViews.mark.Goals as goal

pub returns-then-is_marked : goal.returns-then-is_marked
returns-then-is_marked c =
    let q = c.self.inside in
    let t = c.args.self.now in
    let vpn : Vpn = record { 0 = c.args.va / 4096 } in
    let f = mark_view_of vpn c.args.access in
    let at = OnTrue_at c.if-is_marked.true c.is_marked.ensures in
    ap (λ (vs : List View). record t { views = vs })
    (subst (λ (vs : List View). vs ≡ map f vs) (ap (λ (u : Table). u.views) c.self.view_is)
    (marked_already c.args.access (take q.index.count q.views.items) q.spots (c.args.va / 4096) at.0 c.self.invariant.0.one_a_page (c.self.invariant.2 c.args.access) at.1 (omega (arith, c.ranges.va.fits))))
