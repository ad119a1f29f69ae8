-- Each view of the frame has the bytes, and all of them are one where no two are of one frame.
use Rattle.std.proofs.Common.{◌≡◌, ◌++◌, ◌<◌, length, map, take, drop, Some, sym, ap, subst, ◌∙◌}
use Rattle.std.specs.Prelude.{slice_get}
use Rattle.rv32_exec.specs.Pages.{size_of}
use Rattle.page_views.specs.Views.{put_in_view, table_of, Table, View}
use Rattle.page_views.proofs.Indexing.{index_within}
use Rattle.page_views.proofs.Spotting.{spotted_put}
use Rattle.page_views.proofs.Tables.{frame_there, put_copied, put_there, table_after, table_changed, written_over, length-mapped}
use Rattle.page_views.proofs.table.PageViews.put.Goals as goal

pub invariant_of-self : goal.invariant_of-self
invariant_of-self c =
    let q = c.self.inside in
    let count = size_of c.args.width in
    let f = put_in_view c.frame-frame.result count c.args.at c.args.value in
    let same = put_copied c.frame-frame.result count c.args.at c.args.value in
    let table = c.self.invariant.0 in
    let became : c.put_in.new.views ≡ map f (take q.index.count q.views.items) ++ drop q.index.count q.views.items = rw c.deref_mut.ensures.value at c.put_in.ensures in
    let size : length c.put_in.new.views ≡ length q.views.items = ap length became ∙ length-mapped f q.index.count q.views.items table.within in
    rw (written_over q.views.len q.views.items c.put_in.new.views q.views.ok.0 size) (
      table_changed f same q.most q.index.count q.views.items c.put_in.new.views table became,
      index_within f same q.index.count q.views.items c.put_in.new.views q.index table.within became c.self.invariant.1,
      spotted_put c.frame-frame.result count c.args.at c.args.value q.index.count q.views.items c.put_in.new.views q.spots table.within became c.self.invariant.2,
    )

pub returns-then-self : goal.returns-then-self
returns-then-self c = λ v there.
    let q = c.self.inside in
    let count = size_of c.args.width in
    let f = put_in_view v.frame count c.args.at c.args.value in
    let table = c.self.invariant.0 in
    let at : slice_get (take q.index.count q.views.items) c.args.place ≡ Some v = ap (λ (t : Table). slice_get t.views c.args.place) c.self.view_is ∙ there in
    let frame = c.frame-frame.ensures ∙ ap (λ (w : View). w.frame) (frame_there q.index.count c.args.place q.views.items c.index.result.now v table.within c.index.ensures at) in
    let became : c.put_in.new.views ≡ map f (take q.index.count q.views.items) ++ drop q.index.count q.views.items =
    subst (λ fr. c.put_in.new.views ≡ map (put_in_view fr count c.args.at c.args.value) (take q.index.count q.views.items) ++ drop q.index.count q.views.items) frame (rw c.deref_mut.ensures.value at c.put_in.ensures) in
    let size : length c.put_in.new.views ≡ length q.views.items = ap length became ∙ length-mapped f q.index.count q.views.items table.within in
    ap (table_of q.most q.index.count) (written_over q.views.len q.views.items c.put_in.new.views q.views.ok.0 size)
    ∙ table_after f q.most q.index.count q.views.items c.put_in.new.views table.within became ∙ ap (λ (t : Table). record t { views = map f t.views }) c.self.view_is

pub invariant_of-self-else-self : goal.invariant_of-self-else-self
invariant_of-self-else-self c =
    let q = c.self.inside in
    let count = size_of c.args.width in
    let v = c.index_mut.result.now in
    let f = put_in_view v.frame count c.args.at c.args.value in
    let same = put_copied v.frame count c.args.at c.args.value in
    let table = c.self.invariant.0 in
    let below = subst (λ (t : Table). c.args.place < length t.views) (sym c.self.view_is) c.requires.there in
    let became = put_there count c.args.at c.args.value q.index.count c.args.place q.views.items v c.put.new.self (c.self.invariant.1.apart c.if-self.false) table.within below c.index_mut.ensures.value c.put.ensures in (
      table_changed f same q.most q.index.count q.views.items _ table became,
      index_within f same q.index.count q.views.items _ q.index table.within became c.self.invariant.1,
      spotted_put v.frame count c.args.at c.args.value q.index.count q.views.items _ q.spots table.within became c.self.invariant.2,
    )

pub returns-else-self : goal.returns-else-self
returns-else-self c = λ v there.
    let q = c.self.inside in
    let count = size_of c.args.width in
    let w = c.index_mut.result.now in
    let table = c.self.invariant.0 in
    let below = subst (λ (t : Table). c.args.place < length t.views) (sym c.self.view_is) c.requires.there in
    let at : slice_get (take q.index.count q.views.items) c.args.place ≡ Some v = ap (λ (t : Table). slice_get t.views c.args.place) c.self.view_is ∙ there in
    let is = frame_there q.index.count c.args.place q.views.items w v table.within c.index_mut.ensures.value at in
    let became = put_there count c.args.at c.args.value q.index.count c.args.place q.views.items w c.put.new.self (c.self.invariant.1.apart c.if-self.false) table.within below c.index_mut.ensures.value c.put.ensures in
    table_after (put_in_view w.frame count c.args.at c.args.value) q.most q.index.count q.views.items _ table.within became
    ∙ ap (λ (t : Table). record t { views = map (put_in_view w.frame count c.args.at c.args.value) t.views }) c.self.view_is
    ∙ ap (λ (x : View). record c.args.self.now { views = map (put_in_view x.frame count c.args.at c.args.value) c.args.self.now.views }) is
