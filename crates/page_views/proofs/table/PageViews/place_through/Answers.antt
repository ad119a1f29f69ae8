-- The view that is noted is the one that the access goes through.
use Rattle.std.proofs.Common.{◌≡◌, ◌/◌, ◌<◌, List, find, length, take, ap, arith, subst}
use Rattle.std.specs.Prelude.{slice_get}
use Rattle.std.proofs.lemmas.Option.{slice_get_within}
use Rattle.cache_ident.specs.declared.names.Vpn.{Vpn}
use Rattle.page_views.specs.Views.{is_of_page, where_flagged, Table, View}
use Rattle.page_views.proofs.Spotting.{spot_found, spot_through}
use Rattle.page_views.proofs.table.PageViews.place_through.Goals as goal

pub returns-in-Some-clause-view : goal.returns-in-Some-clause-view
returns-in-Some-clause-view c =
    let q = c.self.inside in
    let vpn : Vpn = record { 0 = c.args.va / 4096 } in
    subst (λ (vs : List View). slice_get vs c.in-Some.place ≡ where_flagged c.args.access (find (is_of_page vpn) vs)) (ap (λ (u : Table). u.views) c.self.view_is)
    (spot_through c.args.access (take q.index.count q.views.items) q.spots (c.args.va / 4096) c.in-Some.place c.in-Some.ensures.0 c.self.invariant.0.one_a_page (c.self.invariant.2 c.args.access) c.in-Some.ensures.1 (omega (arith, c.ranges.va.fits)))

pub returns-in-Some-clause-within : goal.returns-in-Some-clause-within
returns-in-Some-clause-within c =
    let q = c.self.inside in
    let vs = take q.index.count q.views.items in
    let at = spot_found c.args.access vs q.spots (c.args.va / 4096) c.in-Some.place c.in-Some.ensures.0 c.self.invariant.0.one_a_page (c.self.invariant.2 c.args.access) c.in-Some.ensures.1 (omega (arith, c.ranges.va.fits)) in
    subst (λ (ws : List View). c.in-Some.place < length ws) (ap (λ (u : Table). u.views) c.self.view_is) (slice_get_within vs c.in-Some.place at.0 at.1)
