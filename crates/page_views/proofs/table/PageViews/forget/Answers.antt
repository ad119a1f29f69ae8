-- Of no slot do the bytes carry a place, and none is a view.
use Rattle.std.proofs.Common.{◌≡◌, List, [], Option, length, sym, ap, ◌∙◌, arith, None}
use Rattle.std.specs.Prelude.{replicate}
use Rattle.page_views.specs.Views.{nothing_kept, Dated, Table, View}
use Rattle.page_views.proofs.Keeping.{none_of}
use Rattle.page_views.proofs.Tables.{cleared_count, written_over}
use Rattle.page_views.proofs.table.PageViews.forget.Goals as goal

pub returns : goal.returns
returns c =
    let q = c.self.inside in
    let slots = c.forget_each.new.views in
    let size : length slots ≡ length q.views.items = omega (arith, c.forget_each.auto.views, ap length c.deref_mut.ensures.value) in
    let cleared = c.self.view_is ∙ c.clear.ensures in
    let most : q.most ≡ c.args.self.now.most = ap (λ (t : Table). t.most) cleared in
    let none : q.index.count ≡ 0 = cleared_count q.index.count q.views.items c.self.invariant.0.within (ap (λ (t : Table). t.views) cleared) in
    let kept = none_of q.most slots (c.forget_each.ensures ∙ ap (λ (xs : List View). replicate (length xs) None) c.deref_mut.ensures.value ∙ ap (λ n. replicate n None) (sym size)) (omega (arith, size, c.self.invariant.0.all)) in
    rw (written_over q.views.len q.views.items slots q.views.ok.0 size, none)
    (ap (λ (ks : List (Option Dated)). let t : Table = record { most = q.most; views = []; kept = ks } in t) kept
    ∙ ap (λ n. let t : Table = record { most = n; views = []; kept = nothing_kept n } in t) most)
