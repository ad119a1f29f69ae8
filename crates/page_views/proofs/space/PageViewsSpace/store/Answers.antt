-- A store to the frame of the view that it goes through is a store to the page of that view.
use Rattle.std.proofs.Common.{List, map, is_some, ap, sym, ◌∙◌}
use Rattle.rv32_exec.specs.Pages.{size_of}
use Rattle.rv32_exec.specs.declared.statuses.Access.TheVariants.{Write}
use Rattle.page_views.specs.Lines.{seen_at}
use Rattle.page_views.specs.Views.{pages_of_views, put_in_view, rest_of, Copied, Table}
use Rattle.page_views.proofs.Indexing.{view_there}
use Rattle.page_views.proofs.Tables.{copies_mapped, not_stored, put_copied, stored_is, translates_is}
use Rattle.page_views.proofs.space.PageViewsSpace.store.Goals as goal

pub returns-in_default-clause-found : goal.returns-in_default-clause-found
returns-in_default-clause-found c =
    sym (translates_is c.args.self.now.views Write c.args.va ∙ ap is_some (sym c.place_through.ensures.view ∙ ap (λ o. seen_at o c.args.self.now.views) c.in_default.is))

pub returns-in_default-clause-bytes : goal.returns-in_default-clause-bytes
returns-in_default-clause-bytes c = not_stored c.args.self.now.views c.args.va c.args.width c.args.value (sym c.place_through.ensures.view ∙ ap (λ o. seen_at o c.args.self.now.views) c.in_default.is)

pub returns-clause-found : goal.returns-clause-found
returns-clause-found c =
    let at = view_there c.args.self.now.views c.in-Some.place c.in-Some.ensures.within in
    sym (translates_is c.args.self.now.views Write c.args.va ∙ ap is_some (sym c.in-Some.ensures.view ∙ at.1))

pub returns-clause-bytes : goal.returns-clause-bytes
returns-clause-bytes c =
    let vs = c.args.self.now.views in
    let at = view_there vs c.in-Some.place c.in-Some.ensures.within in
    ap (λ (t : Table). pages_of_views t.views) (c.put.ensures at.0 at.1)
    ∙ (ap (λ n. pages_of_views (map (put_in_view at.0.frame (size_of c.args.width) n c.args.value) vs)) c.offset.ensures.offset
    ∙ stored_is vs c.args.va c.args.width c.args.value at.0 (sym c.in-Some.ensures.view ∙ at.1))

pub returns-clause-kept : goal.returns-clause-kept
returns-clause-kept c =
    let vs = c.args.self.now.views in
    let at = view_there vs c.in-Some.place c.in-Some.ensures.within in
    ap rest_of (c.put.ensures at.0 at.1)
    ∙ ap (λ (cs : List Copied). (c.args.self.now.most, cs, c.args.self.now.kept))
    (copies_mapped (put_in_view at.0.frame (size_of c.args.width) c.offset.result c.args.value) (put_copied at.0.frame (size_of c.args.width) c.offset.result c.args.value) vs)
