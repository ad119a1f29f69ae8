-- The table has a view more, and the index tells of it.
use Rattle.std.proofs.Common.{◌≡◌, ◌+◌, length, find, take, set, refl, sym, ap, ◌∙◌, arith}
use Rattle.std.specs.Prelude.{is_some}
use Rattle.std.proofs.Math.ListN.{length-set}
use Rattle.page_views.specs.Origins.{viewed_beside}
use Rattle.page_views.specs.Views.{is_of_frame, table_of, with_filled, Table}
use Rattle.page_views.proofs.Indexing.{index_filled}
use Rattle.page_views.proofs.Keeping.{table_with}
use Rattle.page_views.proofs.Spotting.{spotted_filled}
use Rattle.page_views.proofs.Tables.{slot_behind, table_filled, written_over}
use Rattle.page_views.proofs.table.PageViews.add.Goals as goal

pub fill_at-requires-clause-room : goal.fill_at-requires-clause-room
fill_at-requires-clause-room c =
    let q = c.self.inside in
    let below = slot_behind q.most q.index.count q.views.items c.args.origin.vpn c.self.invariant.0 (rw (← c.self.view_is) at c.requires.room) in
    omega (arith, below, ap length c.deref_mut.ensures.value)

pub invariant_of-self : goal.invariant_of-self
invariant_of-self c =
    let q = c.self.inside in
    let n = q.index.count in
    let slots = q.views.items in
    let v = viewed_beside (take n slots) c.args.origin c.args.bytes.now in
    let room = rw (← c.self.view_is) at c.requires.room in
    let below = slot_behind q.most n slots c.args.origin.vpn c.self.invariant.0 room in
    let shared = c.has_frame-shared.ensures ∙ ap (λ (t : Table). is_some (find (is_of_frame c.args.origin.frame) t.views)) (sym c.self.view_is) in
    let became : c.fill_at.new.views ≡ set slots n v = rw c.deref_mut.ensures.value at c.fill_at.ensures in
    rw (c.add.ensures, c.note_view.ensures) (
      table_filled q.most q.views.len n slots c.fill_at.new.views v q.views.ok.0 below c.self.invariant.0 room became,
      index_filled q.views.len n slots c.fill_at.new.views v c.args.origin c.has_frame-shared.result q.index q.views.ok.0 below became refl refl refl shared c.self.invariant.1,
      spotted_filled q.views.len n slots c.fill_at.new.views v c.args.origin q.spots q.views.ok.0 below became refl refl c.self.invariant.2,
    )

pub returns : goal.returns
returns c =
    let q = c.self.inside in
    let n = q.index.count in
    let slots = q.views.items in
    let v = viewed_beside (take n slots) c.args.origin c.args.bytes.now in
    let below = slot_behind q.most n slots c.args.origin.vpn c.self.invariant.0 (rw (← c.self.view_is) at c.requires.room) in
    let became : c.fill_at.new.views ≡ set slots n v = rw c.deref_mut.ensures.value at c.fill_at.ensures in
    let size : length c.fill_at.new.views ≡ length slots = ap length became ∙ length-set slots n v in
    rw c.add.ensures
    (ap (table_of q.most (n + 1)) (written_over q.views.len slots c.fill_at.new.views q.views.ok.0 size ∙ became)
    ∙ table_with q.most n slots v below
    ∙ ap (λ (t : Table). with_filled t (viewed_beside t.views c.args.origin c.args.bytes.now)) c.self.view_is)
