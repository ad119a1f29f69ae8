use Rattle.std.proofs.Common.{◌≡◌, ◌<◌, ℕ, true, false, List, length, Option, Some, slice_get, refl, ap, sym, ◌∙◌, subst, arith}
use Rattle.std.specs.Prelude.{is_some}
use Rattle.std.proofs.lemmas.List.{length-set}
use Rattle.std.proofs.lemmas.Option.{slice_get_within}
use Rattle.phys_groups.specs.Memory.{page_at}
use Rattle.page_store.specs.declared.page.Page.{Page}
use Rattle.page_store.specs.Index.{IsIndex}
use Rattle.page_store.specs.Kept.{HasPage, IsFree, IsKept, IsReadInto, Kept, Means}
use Rattle.page_store.proofs.Changes.{noted_none, noted_some, read_for, read_means, read_there}
use Rattle.page_store.proofs.Slots.{get-set_same, has_now}
use Rattle.page_store.proofs.Indexing.{index_kept}
use Rattle.page_store.proofs.paged.Paged.keep.Goals as goal

-- a page is read into a slot, and the index stays
index_read : (slots slots1 : List Page) (places : List (Option ℕ)) (oldest p : ℕ) → oldest < length slots → IsIndex slots places → IsFree slots p → IsReadInto slots p slots1 → (oldest < length slots1) × IsIndex slots1 places
index_read slots slots1 places oldest p low index free goes =
    let page = free.0 in
    let into = goes page free.1 in
    let now : Page = record page { bytes = into.0 } in (
      omega (arith, low, ap length into.1, length-set slots p now),
      subst (λ (xs : List Page). IsIndex xs places) (sym into.1) (index_kept slots places index p page now free.1 refl),
    )

pub returns-then-is_some-clause-kept : goal.returns-then-is_some-clause-kept
returns-then-is_some-clause-kept g c =
    let q = c.self.inside in
    let low : c.args.frame.0 < length q.places.items = subst (λ (k : Kept). c.args.frame.0 < k.frames) (sym c.self.view_is) c.requires.there in
    let kept : IsKept (record { frames = length q.places.items; slots = q.slots.items }) c.args.frame = noted_some q.slots.items q.places.items c.self.invariant.1 c.args.frame c.index.result.now low c.index.ensures (sym c.is_some.ensures ∙ c.if-is_some.true) in
    subst (λ (k : Kept). IsKept k c.args.frame) c.self.view_is kept

pub read_into-requires-clause-there : goal.read_into-requires-clause-there
read_into-requires-clause-there g c =
    let free = c.in_ok-place.ensures.free in
    let low = slice_get_within c.free.new.self.slots c.in_ok-place.place free.0 free.1 in
    subst (λ (k : Kept). c.in_ok-place.place < length k.slots) (sym c.self-2.view_is) low

pub invariant_of-self : goal.invariant_of-self
invariant_of-self g c =
    let q = c.self-2.inside in
    let free = subst (λ (k : Kept). IsFree k.slots c.in_ok-place.place) (sym c.self-2.view_is) c.in_ok-place.ensures.free in
    index_read q.slots.items c.read_into.new.slots.items q.places.items q.oldest c.in_ok-place.place c.self-2.invariant.0 c.self-2.invariant.1 free c.read_into.ensures.slots

pub invariant_of-self-2 : goal.invariant_of-self-2
invariant_of-self-2 g c =
    let q = c.self-2.inside in
    let free = subst (λ (k : Kept). IsFree k.slots c.in_ok-place.place) (sym c.self-2.view_is) c.in_ok-place.ensures.free in
    index_read q.slots.items c.read_into.new.slots.items q.places.items q.oldest c.in_ok-place.place c.self-2.invariant.0 c.self-2.invariant.1 free c.read_into.ensures.slots

pub hold-requires : goal.hold-requires
hold-requires g c =
    let q = c.self.inside in
    let r = c.self-2.inside in
    let k : Kept = record { frames = length r.places.items; slots = r.slots.items } in
    let free = subst (λ (x : Kept). IsFree x.slots c.in_ok-place.place) (sym c.self-2.view_is) c.in_ok-place.ensures.free in
    let into = c.read_into.ensures.slots free.0 free.1 in
    let absent : IsKept k c.args.frame → ⊥ = λ kept.
    let before = c.in_ok-place.ensures.others c.args.frame (subst (λ (x : Kept). IsKept x c.args.frame) c.self-2.view_is kept) in
    let has = subst (λ (x : Kept). HasPage x.slots before.0 c.args.frame before.1) (sym c.self.view_is) before.2 in
    noted_none q.slots.items q.places.items c.self.invariant.1 c.args.frame c.index.result.now c.index.ensures (sym c.is_some.ensures ∙ c.if-is_some.false) before.0 before.1 has in
    let frames : length r.places.items ≡ c.args.self.now.frames = ap (λ (x : Kept). x.frames) c.self-2.view_is ∙ c.in_ok-place.ensures.frames in
    let within : c.args.frame.0 < length r.places.items = omega (arith, frames, c.requires.there) in
    read_for k c.in_ok-place.place free.0 free.1 free.2 free.3 c.args.frame absent within c.read_into.new.slots.items into.0 into.1

pub returns-clause-memory : goal.returns-clause-memory
returns-clause-memory g c memory means =
    let q = c.self.inside in
    let r = c.self-2.inside in
    let k : Kept = record { frames = length r.places.items; slots = r.slots.items } in
    let free = subst (λ (x : Kept). IsFree x.slots c.in_ok-place.place) (sym c.self-2.view_is) c.in_ok-place.ensures.free in
    let into = c.read_into.ensures.slots free.0 free.1 in
    let absent : IsKept k c.args.frame → ⊥ = λ kept.
    let before = c.in_ok-place.ensures.others c.args.frame (subst (λ (x : Kept). IsKept x c.args.frame) c.self-2.view_is kept) in
    let has = subst (λ (x : Kept). HasPage x.slots before.0 c.args.frame before.1) (sym c.self.view_is) before.2 in
    noted_none q.slots.items q.places.items c.self.invariant.1 c.args.frame c.index.result.now c.index.ensures (sym c.is_some.ensures ∙ c.if-is_some.false) before.0 before.1 has in
    let frames : length r.places.items ≡ c.args.self.now.frames = ap (λ (x : Kept). x.frames) c.self-2.view_is ∙ c.in_ok-place.ensures.frames in
    let within : c.args.frame.0 < length r.places.items = omega (arith, frames, c.requires.there) in
    let at = read_there k c.in_ok-place.place free.0 free.1 free.2 free.3 c.args.frame absent within c.read_into.new.slots.items into.0 into.1 in
    let page1 : Page = record free.0 { bytes = into.0 } in
    let held_by = c.hold.ensures.slots page1 at in
    let held = g.K.Store.bytes_held c.free.new.store in
    let m : Means k held memory = subst (λ (x : Kept). Means x held memory) (sym c.self-2.view_is) (c.in_ok-place.ensures.memory memory means) in
    let its : into.0 ≡ page_at m.bytes c.args.frame = c.in_ok-read_into.ensures.page m.bytes m.told page1 at in
    let after = read_means k c.in_ok-place.place free.0 free.1 free.2 free.3 c.args.frame absent within c.read_into.new.slots.items into.0 into.1 c.hold.new.self.slots held_by held memory m its in
    let told : Means (record { frames = length r.places.items; slots = c.hold.new.self.slots }) (g.K.Store.bytes_held c.read_into.new.store) memory =
    subst (λ (h : Option (List ℕ)). Means (record { frames = length r.places.items; slots = c.hold.new.self.slots }) h memory) (sym c.in_ok-read_into.ensures.bytes) after in
    subst (λ (n : ℕ). Means (record { frames = n; slots = c.hold.new.self.slots }) (g.K.Store.bytes_held c.read_into.new.store) memory) (sym c.hold.ensures.frames) told

pub returns-clause-kept : goal.returns-clause-kept
returns-clause-kept g c =
    let free = subst (λ (x : Kept). IsFree x.slots c.in_ok-place.place) (sym c.self-2.view_is) c.in_ok-place.ensures.free in
    let r = c.self-2.inside in
    let into = c.read_into.ensures.slots free.0 free.1 in
    let page1 : Page = record free.0 { bytes = into.0 } in
    let at : slice_get c.read_into.new.slots.items c.in_ok-place.place ≡ Some page1 = ap (λ (xs : List Page). slice_get xs c.in_ok-place.place) into.1 ∙ get-set_same r.slots.items c.in_ok-place.place page1 free.0 free.1 in
    let page2 : Page = record page1 { frame = Some c.args.frame } in
    let now = c.hold.ensures.slots page1 at in
    (c.in_ok-place.place, page2, subst (λ (xs : List Page). HasPage xs c.in_ok-place.place c.args.frame page2) (sym now) (has_now c.read_into.new.slots.items c.in_ok-place.place page1 page2 at c.args.frame refl))

pub returns-clause-most : goal.returns-clause-most
returns-clause-most g c =
    let free = subst (λ (x : Kept). IsFree x.slots c.in_ok-place.place) (sym c.self-2.view_is) c.in_ok-place.ensures.free in
    let r = c.self-2.inside in
    let into = c.read_into.ensures.slots free.0 free.1 in
    let page1 : Page = record free.0 { bytes = into.0 } in
    let at : slice_get c.read_into.new.slots.items c.in_ok-place.place ≡ Some page1 = ap (λ (xs : List Page). slice_get xs c.in_ok-place.place) into.1 ∙ get-set_same r.slots.items c.in_ok-place.place page1 free.0 free.1 in
    let page2 : Page = record page1 { frame = Some c.args.frame } in
    ap length (c.hold.ensures.slots page1 at) ∙ length-set c.read_into.new.slots.items c.in_ok-place.place page2
    ∙ ap length into.1 ∙ length-set r.slots.items c.in_ok-place.place page1
    ∙ ap (λ (x : Kept). length x.slots) c.self-2.view_is ∙ c.in_ok-place.ensures.most
