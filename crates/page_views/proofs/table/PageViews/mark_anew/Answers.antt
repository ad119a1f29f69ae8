-- The view that is noted of the page has the mark.
use Rattle.std.proofs.Common.{◌≡◌, ◌<◌, find, length, map, take, get_or, Some, true, sym, ap, ◌∙◌, arith}
use Rattle.std.specs.Prelude.{slice_get}
use Rattle.std.proofs.lemmas.List.{get_or-take, length-take-le}
use Rattle.std.proofs.lemmas.Option.{get_or_from_slice_get, slice_get_within}
use Rattle.cache_ident.specs.declared.names.Vpn.{Vpn}
use Rattle.flat_rules.specs.flat_state.specs.Translation.{wants}
use Rattle.page_views.specs.Lines.{seen_at}
use Rattle.page_views.specs.Views.{is_of_page, mark_view_of, Table, View}
use Rattle.page_views.proofs.Indexing.{index_within}
use Rattle.page_views.proofs.Spotting.{marked_noted_if, spot_found}
use Rattle.page_views.proofs.Tables.{mark_copied, marked_there, table_after, table_changed}
use Rattle.page_views.proofs.table.PageViews.mark_anew.Goals as goal

-- the view at the place, among those that there are
seen : (c : goal.After-mark-2) → (v : View) × (slice_get (take c.self.inside.index.count c.self.inside.views.items) c.in-Some.place ≡ Some v) × (find (is_of_page (record { 0 = c.args.page })) (take c.self.inside.index.count c.self.inside.views.items) ≡ Some v) × (wants c.args.access v.flags ≡ true)
seen c =
    let q = c.self.inside in
    let at = spot_found c.args.access (take q.index.count q.views.items) q.spots c.args.page c.in-Some.place c.in-Some.ensures.0 c.self.invariant.0.one_a_page (c.self.invariant.2 c.args.access) c.in-Some.ensures.1 c.requires in
    (at.0, at.1, at.2, at.3)

pub invariant_of-self : goal.invariant_of-self
invariant_of-self c =
    let q = c.self.inside in
    let vpn : Vpn = record { 0 = c.args.page } in
    let f = mark_view_of vpn c.args.access in
    let same = mark_copied vpn c.args.access in
    let table = c.self.invariant.0 in
    let at = seen c in
    let vs = take q.index.count q.views.items in
    let below : c.in-Some.place < length vs = slice_get_within vs c.in-Some.place at.0 at.1 in
    let found : seen_at (Some c.in-Some.place) vs ≡ find (is_of_page vpn) vs = at.1 ∙ sym at.2 in
    let became = marked_there vpn c.args.access q.index.count c.in-Some.place q.views.items c.index_mut.result.now c.mark.new.self table.one_a_page table.within below found c.index_mut.ensures.value c.mark.ensures in
    let short : c.in-Some.place < q.index.count = omega (arith, below, length-take-le q.index.count q.views.items table.within) in
    let is : at.0 ≡ get_or q.views.items c.in-Some.place at.0 = sym (get_or_from_slice_get vs c.in-Some.place at.0 at.0 at.1) ∙ get_or-take q.index.count q.views.items c.in-Some.place at.0 short in
    rw (c.mark-2.ensures c.in-Some.place c.in-Some.ensures.0 c.in-Some.ensures.1) (
      table_changed f same q.most q.index.count q.views.items _ table became,
      index_within f same q.index.count q.views.items _ q.index table.within became c.self.invariant.1,
      marked_noted_if true c.args.page c.args.access q.index.count c.in-Some.place q.views.items _ at.0 q.spots table.within below found is (sym at.3) became c.self.invariant.2,
    )

pub returns : goal.returns
returns c =
    let q = c.self.inside in
    let vpn : Vpn = record { 0 = c.args.page } in
    let f = mark_view_of vpn c.args.access in
    let table = c.self.invariant.0 in
    let at = seen c in
    let vs = take q.index.count q.views.items in
    let below : c.in-Some.place < length vs = slice_get_within vs c.in-Some.place at.0 at.1 in
    let found : seen_at (Some c.in-Some.place) vs ≡ find (is_of_page vpn) vs = at.1 ∙ sym at.2 in
    let became = marked_there vpn c.args.access q.index.count c.in-Some.place q.views.items c.index_mut.result.now c.mark.new.self table.one_a_page table.within below found c.index_mut.ensures.value c.mark.ensures in
    table_after f q.most q.index.count q.views.items _ table.within became ∙ ap (λ (t : Table). record t { views = map f t.views }) c.self.view_is
