-- The view is at the place that was noted, or is looked for, and where none was noted there is none.
use Rattle.std.proofs.Common.{ℕ, Option, Some, find, sym, ap, ◌∙◌}
use Rattle.std.specs.List.{position}
use Rattle.page_views.specs.Lines.{page_number, seen_at}
use Rattle.page_views.specs.Views.{is_of_page, Table}
use Rattle.page_views.proofs.Indexing.{none_noted, position_seen}
use Rattle.page_views.proofs.Tables.{place_found, same_page}
use Rattle.page_views.proofs.table.PageViews.place.Goals as goal

pub returns-in_default-clause-view : goal.returns-in_default-clause-view
returns-in_default-clause-view c =
    let q = c.self.inside in
    sym (none_noted page_number q.index.pages c.args.vpn.0 _ (c.place.ensures ∙ ap (λ o. Some o) c.in_default.is) c.self.invariant.1.pages)
    ∙ ap (λ (t : Table). find (is_of_page c.args.vpn) t.views) c.self.view_is

pub returns-then-eq-clause-view : goal.returns-then-eq-clause-view
returns-then-eq-clause-view c =
    let q = c.self.inside in
    let table = c.self.invariant.0 in
    ap (λ (t : Table). seen_at (Some c.in-Some.noted) t.views) (sym c.self.view_is)
    ∙ place_found c.args.vpn q.index.count c.in-Some.noted q.views.items c.index.result.now table.one_a_page table.within c.if-place-self.true c.index.ensures (same_page c.index.result.now c.args.vpn c.vpn.result c.eq.result c.vpn.ensures c.eq.ensures c.if-eq.true)
    ∙ ap (λ (t : Table). find (is_of_page c.args.vpn) t.views) c.self.view_is

pub returns-clause-view : goal.returns-clause-view
returns-clause-view c =
    ap (λ (o : Option ℕ). seen_at o c.args.self.now.views) (c.place_in.ensures.place ∙ ap (position (is_of_page c.args.vpn)) c.as_slice.ensures.views)
    ∙ position_seen (is_of_page c.args.vpn) c.args.self.now.views
