use Rattle.std.proofs.Common.{ℕ, true, List, length, refl, ap, sym, ◌∙◌, subst, arith}
use Rattle.std.proofs.lemmas.List.{length-set}
use Rattle.phys_groups.specs.Memory.{with_page}
use Rattle.page_store.specs.declared.page.Page.{Page}
use Rattle.page_store.specs.Index.{IsIndex}
use Rattle.page_store.specs.Kept.{IsFor, Kept, Means}
use Rattle.page_store.proofs.Changes.{put_for, put_means, put_size, put_there}
use Rattle.page_store.proofs.Indexing.{index_kept}
use Rattle.page_store.proofs.paged.Paged.put.Goals as goal

pub invariant_of-self : goal.invariant_of-self
invariant_of-self g c =
    let q = c.self.inside in
    let its = subst (λ (k : Kept). IsFor k c.in_ok-place.place c.args.frame) (sym c.self.view_is) c.in_ok-place.ensures.place in
    let now : Page = record its.page { bytes = c.args.bytes.now; changed = true } in
    let became = c.change.ensures its.page its.there in (
      omega (arith, c.self.invariant.0, ap length became, length-set q.slots.items c.in_ok-place.place now),
      subst (λ (xs : List Page). IsIndex xs q.places.items) (sym became) (index_kept q.slots.items q.places.items c.self.invariant.1 c.in_ok-place.place its.page now its.there refl),
    )

pub hold-requires : goal.hold-requires
hold-requires g c =
    let q = c.self.inside in
    let k : Kept = record { frames = length q.places.items; slots = q.slots.items } in
    let its = subst (λ (x : Kept). IsFor x c.in_ok-place.place c.args.frame) (sym c.self.view_is) c.in_ok-place.ensures.place in
    put_for k c.in_ok-place.place c.args.frame its c.args.bytes.now c.change.new.slots.items (c.change.ensures its.page its.there)

pub returns-clause-memory : goal.returns-clause-memory
returns-clause-memory g c memory means =
    let q = c.self.inside in
    let k : Kept = record { frames = length q.places.items; slots = q.slots.items } in
    let its = subst (λ (x : Kept). IsFor x c.in_ok-place.place c.args.frame) (sym c.self.view_is) c.in_ok-place.ensures.place in
    let is = c.change.ensures its.page its.there in
    let page1 : Page = record its.page { bytes = c.args.bytes.now; changed = true } in
    let held_by = c.hold.ensures.slots page1 (put_there k c.in_ok-place.place c.args.frame its c.args.bytes.now c.change.new.slots.items is) in
    let held = g.K.Store.bytes_held c.place_for.new.store in
    let m : Means k held memory = subst (λ (x : Kept). Means x held memory) (sym c.self.view_is) (c.in_ok-place.ensures.memory memory means) in
    let after = put_means k c.in_ok-place.place c.args.frame its c.args.bytes.now c.change.new.slots.items is c.hold.new.self.slots held_by c.requires.whole_page held memory m in
    subst (λ (n : ℕ). Means (record { frames = n; slots = c.hold.new.self.slots }) held (with_page memory c.args.frame c.args.bytes.now)) (sym c.hold.ensures.frames) after

pub returns-clause-most : goal.returns-clause-most
returns-clause-most g c =
    let q = c.self.inside in
    let k : Kept = record { frames = length q.places.items; slots = q.slots.items } in
    let its = subst (λ (x : Kept). IsFor x c.in_ok-place.place c.args.frame) (sym c.self.view_is) c.in_ok-place.ensures.place in
    let is = c.change.ensures its.page its.there in
    let page1 : Page = record its.page { bytes = c.args.bytes.now; changed = true } in
    let held_by = c.hold.ensures.slots page1 (put_there k c.in_ok-place.place c.args.frame its c.args.bytes.now c.change.new.slots.items is) in
    put_size k c.in_ok-place.place c.args.frame its c.args.bytes.now c.change.new.slots.items is c.hold.new.self.slots held_by
    ∙ ap (λ (x : Kept). length x.slots) c.self.view_is ∙ c.in_ok-place.ensures.most
