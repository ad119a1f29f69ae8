-- The one view of the page has the mark.
use Rattle.std.proofs.Common.{◌<◌, List, find, length, map, Some, sym, ap, subst, ◌∙◌}
use Rattle.cache_ident.specs.declared.names.Vpn.{Vpn}
use Rattle.flat_rules.specs.flat_state.specs.Translation.{wants}
use Rattle.page_views.specs.Lines.{seen_at}
use Rattle.page_views.specs.Views.{is_of_page, mark_view_of, Table, View}
use Rattle.page_views.proofs.Indexing.{index_within}
use Rattle.page_views.proofs.Spotting.{marked_noted_if}
use Rattle.page_views.proofs.Tables.{mark_copied, marked_there, none_marked, table_after, table_changed}
use Rattle.page_views.proofs.table.PageViews.mark_searched.Goals as goal

pub invariant_of-self : goal.invariant_of-self
invariant_of-self c =
    let q = c.self.inside in
    let vpn : Vpn = record { 0 = c.args.page } in
    let f = mark_view_of vpn c.args.access in
    let same = mark_copied vpn c.args.access in
    let table = c.self.invariant.0 in
    let found = ap (λ (t : Table). seen_at (Some c.in-Some.place) t.views) c.self.view_is ∙ c.in-Some.ensures.view ∙ ap (λ (t : Table). find (is_of_page vpn) t.views) (sym c.self.view_is) in
    let below = subst (λ (t : Table). c.in-Some.place < length t.views) (sym c.self.view_is) c.in-Some.ensures.within in
    let became = marked_there vpn c.args.access q.index.count c.in-Some.place q.views.items c.index_mut.result.now c.mark.new.self table.one_a_page table.within below found c.index_mut.ensures.value c.mark.ensures in
    rw c.note_if.ensures (
      table_changed f same q.most q.index.count q.views.items _ table became,
      index_within f same q.index.count q.views.items _ q.index table.within became c.self.invariant.1,
      marked_noted_if c.wants-allowed.result c.args.page c.args.access q.index.count c.in-Some.place q.views.items _ c.index.result.now q.spots table.within below found c.index.ensures (c.wants-allowed.ensures ∙ ap (wants c.args.access) c.flags.ensures) became c.self.invariant.2,
    )

pub returns-in-Some : goal.returns-in-Some
returns-in-Some c =
    let q = c.self.inside in
    let vpn : Vpn = record { 0 = c.args.page } in
    let f = mark_view_of vpn c.args.access in
    let table = c.self.invariant.0 in
    let found = ap (λ (t : Table). seen_at (Some c.in-Some.place) t.views) c.self.view_is ∙ c.in-Some.ensures.view ∙ ap (λ (t : Table). find (is_of_page vpn) t.views) (sym c.self.view_is) in
    let below = subst (λ (t : Table). c.in-Some.place < length t.views) (sym c.self.view_is) c.in-Some.ensures.within in
    let became = marked_there vpn c.args.access q.index.count c.in-Some.place q.views.items c.index_mut.result.now c.mark.new.self table.one_a_page table.within below found c.index_mut.ensures.value c.mark.ensures in
    table_after f q.most q.index.count q.views.items _ table.within became ∙ ap (λ (t : Table). record t { views = map f t.views }) c.self.view_is

pub returns-in_default : goal.returns-in_default
returns-in_default c =
    let t = c.args.self.now in
    let vpn : Vpn = record { 0 = c.args.page } in
    ap (λ (vs : List View). record t { views = vs }) (none_marked vpn c.args.access t.views (sym (ap (λ o. seen_at o t.views) (sym c.in_default.is) ∙ c.place.ensures.view)))
