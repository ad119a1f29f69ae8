-- A slot that keeps the page is the view that is added, and the index tells of it.
use Rattle.std.proofs.Common.{◌≡◌, ℕ, ◌+◌, ◌<◌, Bool, true, false, List, length, find, take, set, Option, None, refl, ap, ap₂, sym, ◌∙◌, subst, arith}
use Rattle.std.specs.Prelude.{◌&&◌, is_some, not}
use Rattle.std.proofs.Math.ListN.{length-set}
use Rattle.std.proofs.lemmas.Option.{get_or_from_slice_get, slice_get_within}
use Rattle.page_views.specs.Index.{IsIndex}
use Rattle.page_views.specs.Origins.{viewed}
use Rattle.page_views.specs.Spots.{AreAllSpotted}
use Rattle.page_views.specs.Views.{can_fill, can_refill, is_of_frame, is_touched_of, table_of, IsExchanged, IsRefilled, IsSlotSince, Table, View}
use Rattle.page_views.proofs.Indexing.{copied_some, index_filled, none_is}
use Rattle.page_views.proofs.Keeping.{again, at_count, refilled, some_since, table_exchanged}
use Rattle.page_views.proofs.Spotting.{spotted_filled}
use Rattle.page_views.proofs.Tables.{table_filled, written_over}
use Rattle.page_views.proofs.table.PageViews.refill.Goals as goal

pub exchange-requires-clause-behind : goal.exchange-requires-clause-behind
exchange-requires-clause-behind c = c.in-Some.ensures.found.behind

pub exchange-requires-clause-within : goal.exchange-requires-clause-within
exchange-requires-clause-within c =
    let at : IsSlotSince c.self.inside.views.items c.self.inside.index.count c.args.frame c.args.since c.in-Some.slot = rw c.deref.ensures.value at c.in-Some.ensures.found in
    omega (arith, slice_get_within c.self.inside.views.items c.in-Some.slot at.view at.there, ap length c.deref_mut.ensures.value)

pub recall_at-requires : goal.recall_at-requires
recall_at-requires c =
    let q = c.self.inside in
    let at : IsSlotSince q.views.items q.index.count c.args.frame c.args.since c.in-Some.slot = rw c.deref.ensures.value at c.in-Some.ensures.found in
    let ex : IsExchanged q.index.count c.in-Some.slot q.views.items c.exchange.new.views = rw c.deref_mut.ensures.value at c.exchange.ensures in
    let below = slice_get_within c.exchange.new.views q.index.count at.view (at_count q.index.count c.in-Some.slot q.views.items c.exchange.new.views ex c.args.vpn c.args.frame c.args.flags c.args.row c.args.since at) in
    subst (λ (vs : List View). q.index.count < length vs) (sym (c.deref_mut-2.ensures.value ∙ written_over q.views.len q.views.items c.exchange.new.views q.views.ok.0 ex.size)) below

-- the slots once one was recalled
became : (c : goal.After-add) (at : IsSlotSince c.self.inside.views.items c.self.inside.index.count c.args.frame c.args.since c.in-Some.slot)
    (ex : IsExchanged c.self.inside.index.count c.in-Some.slot c.self.inside.views.items c.exchange.new.views)
    → c.recall_at.new.views ≡ set c.exchange.new.views c.self.inside.index.count (again c.self.inside.index.count c.in-Some.slot c.self.inside.views.items c.exchange.new.views ex c.args.vpn c.args.frame c.args.flags c.args.row c.args.since at)
became c at ex =
    let q = c.self.inside in
    let n = q.index.count in
    let mid = c.exchange.new.views in
    let whole = written_over q.views.len q.views.items mid q.views.ok.0 ex.size in
    let taken : c.taken.result ≡ at.view.taken = c.taken.ensures ∙ ap (λ (v : View). v.taken) (c.index.ensures ∙ get_or_from_slice_get q.views.items c.in-Some.slot at.view c.index.result.now at.there) in
    (rw (c.deref_mut-2.ensures.value, whole) at c.recall_at.ensures) at.view (at_count n c.in-Some.slot q.views.items mid ex c.args.vpn c.args.frame c.args.flags c.args.row c.args.since at)
    ∙ ap (λ (o : Option ℕ). set mid n (viewed (record { vpn = c.args.vpn; frame = c.args.frame; flags = c.args.flags; row = c.args.row; taken = o }) at.view.first at.view.first)) taken

-- no view of the frame was touched
untouched : (c : goal.After-add) → find (is_touched_of c.args.frame) (take c.self.inside.index.count c.self.inside.views.items) ≡ None
untouched c =
    let none : is_some (find (is_touched_of c.args.frame) c.as_slice.result.now) ≡ false = ap (λ o. is_some o) (sym c.touched_of.ensures) ∙ copied_some c.touched_of.result ∙ sym c.is_some.ensures ∙ c.if-is_some.false in
    subst (λ (vs : List View). find (is_touched_of c.args.frame) vs ≡ None) (c.as_slice.ensures.views ∙ ap (λ (t : Table). t.views) (sym c.self.view_is)) (none_is (find (is_touched_of c.args.frame) c.as_slice.result.now) none)

pub invariant_of-self : goal.invariant_of-self
invariant_of-self c =
    let q = c.self.inside in
    let n = q.index.count in
    let slots = q.views.items in
    let mid = c.exchange.new.views in
    let at : IsSlotSince slots n c.args.frame c.args.since c.in-Some.slot = rw c.deref.ensures.value at c.in-Some.ensures.found in
    let ex : IsExchanged n c.in-Some.slot slots mid = rw c.deref_mut.ensures.value at c.exchange.ensures in
    let v = again n c.in-Some.slot slots mid ex c.args.vpn c.args.frame c.args.flags c.args.row c.args.since at in
    let is = became c at ex in
    let whole = written_over q.views.len slots mid q.views.ok.0 ex.size in
    let length_is : q.views.len ≡ length mid = q.views.ok.0 ∙ sym ex.size in
    let below = slice_get_within mid n at.view (at_count n c.in-Some.slot slots mid ex c.args.vpn c.args.frame c.args.flags c.args.row c.args.since at) in
    let room = subst (λ (vs : List View). can_fill q.most vs c.args.vpn ≡ true) (sym ex.views) (rw (← c.self.view_is) at c.requires.room) in
    let shared = c.has_frame-shared.ensures ∙ ap (λ (vs : List View). is_some (find (is_of_frame c.args.frame) vs)) (sym (ap (λ (t : Table). t.views) c.self.view_is) ∙ sym ex.views) in
    let index = subst (λ (vs : List View). IsIndex vs q.index) (sym ex.views) c.self.invariant.1 in
    let spotted = subst (λ (vs : List View). AreAllSpotted vs q.spots) (sym ex.views) c.self.invariant.2 in
    rw (c.add.ensures, c.note_view.ensures, whole) (
      table_filled q.most q.views.len n mid c.recall_at.new.views v length_is below (table_exchanged n c.in-Some.slot slots mid ex q.most c.self.invariant.0) room is,
      index_filled q.views.len n mid c.recall_at.new.views v (record { vpn = c.args.vpn; frame = c.args.frame; flags = c.args.flags; row = c.args.row; taken = at.view.taken }) c.has_frame-shared.result q.index length_is below is refl refl refl shared index,
      spotted_filled q.views.len n mid c.recall_at.new.views v (record { vpn = c.args.vpn; frame = c.args.frame; flags = c.args.flags; row = c.args.row; taken = c.taken.result }) q.spots length_is below is refl refl spotted,
    )

pub returns-clause-answer : goal.returns-clause-answer
returns-clause-answer c =
    let q = c.self.inside in
    let at : IsSlotSince q.views.items q.index.count c.args.frame c.args.since c.in-Some.slot = rw c.deref.ensures.value at c.in-Some.ensures.found in
    subst (λ (t : Table). true ≡ can_refill t.views t.kept c.args.frame c.args.since) c.self.view_is
    (sym (ap₂ (λ (o : Option View) (b : Bool). not (is_some o) && b) (untouched c) (some_since c.args.frame c.args.since q.views.items q.index.count c.in-Some.slot at)))

pub returns-clause-refilled : goal.returns-clause-refilled
returns-clause-refilled c =
    let q = c.self.inside in
    let n = q.index.count in
    let slots = q.views.items in
    let mid = c.exchange.new.views in
    let at : IsSlotSince slots n c.args.frame c.args.since c.in-Some.slot = rw c.deref.ensures.value at c.in-Some.ensures.found in
    let ex : IsExchanged n c.in-Some.slot slots mid = rw c.deref_mut.ensures.value at c.exchange.ensures in
    let v = again n c.in-Some.slot slots mid ex c.args.vpn c.args.frame c.args.flags c.args.row c.args.since at in
    let is = became c at ex in
    let size : length c.recall_at.new.views ≡ length mid = ap length is ∙ length-set mid n v in
    let whole = written_over q.views.len slots mid q.views.ok.0 ex.size in
    let below = slice_get_within mid n at.view (at_count n c.in-Some.slot slots mid ex c.args.vpn c.args.frame c.args.flags c.args.row c.args.since at) in
    let after = written_over q.views.len mid c.recall_at.new.views (q.views.ok.0 ∙ sym ex.size) size ∙ is in
    rw (c.add.ensures, whole, after)
    (subst (λ (t : Table). IsRefilled c.args.vpn c.args.frame c.args.flags c.args.row c.args.since t (table_of q.most (n + 1) (set mid n v))) c.self.view_is
    (refilled n c.in-Some.slot slots mid ex c.args.vpn c.args.frame c.args.flags c.args.row c.args.since at q.most below (untouched c)))
