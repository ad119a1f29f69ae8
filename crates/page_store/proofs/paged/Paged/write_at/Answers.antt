use Rattle.std.proofs.Common.{◌≡◌, ◌<◌, ℕ, false, List, length, set, Option, slice_get, refl, ap, sym, ◌∙◌, subst, arith}
use Rattle.std.proofs.lemmas.List.{length-set}
use Rattle.page_store.specs.declared.page.Page.{Page}
use Rattle.page_store.specs.Index.{IsIndex}
use Rattle.page_store.specs.Kept.{unwritten, with_page_in, Kept, Means}
use Rattle.page_store.proofs.Indexing.{frame_low, index_kept}
use Rattle.page_store.proofs.Meaning.{means_written, unwritten_frame}
use Rattle.page_store.proofs.Slots.{read_at, same_page, set_same}
use Rattle.page_store.proofs.paged.Paged.write_at.Goals as goal

pub write-requires-clause-there : goal.write-requires-clause-there
write-requires-clause-there g c =
    let q = c.self.inside in
    let page = c.index.result.now in
    let within : c.args.place < length q.slots.items = subst (λ (k : Kept). c.args.place < length k.slots) (sym c.self.view_is) c.requires.there in
    let there = read_at q.slots.items c.args.place page within c.index.ensures in
    let its = unwritten_frame page c.in-Some.frame (sym c.unwritten.ensures ∙ c.in-Some.is) in
    let low = frame_low q.slots.items q.places.items c.self.invariant.1 c.args.place c.in-Some.frame page (record { there = there; its = its }) in
    let frames : g.K.Store.frames c.args.store.now ≡ length q.places.items = c.requires.store ∙ ap (λ (k : Kept). k.frames) (sym c.self.view_is) in
    omega (arith, low, frames)

pub invariant_of-self : goal.invariant_of-self
invariant_of-self g c =
    let q = c.self.inside in
    let page = c.index.result.now in
    let within : c.args.place < length q.slots.items = subst (λ (k : Kept). c.args.place < length k.slots) (sym c.self.view_is) c.requires.there in
    let there = read_at q.slots.items c.args.place page within c.index.ensures in
    let now : Page = record page { changed = false } in
    let became : c.settle.new.slots.items ≡ set q.slots.items c.args.place now = c.settle.ensures page there in (
      omega (arith, c.self.invariant.0, ap length became, length-set q.slots.items c.args.place now),
      subst (λ (xs : List Page). IsIndex xs q.places.items) (sym became) (index_kept q.slots.items q.places.items c.self.invariant.1 c.args.place page now there refl),
    )

pub returns-in_ok-write-clause-memory : goal.returns-in_ok-write-clause-memory
returns-in_ok-write-clause-memory g c memory means =
    let q = c.self.inside in
    let page = c.index.result.now in
    let within : c.args.place < length q.slots.items = subst (λ (k : Kept). c.args.place < length k.slots) (sym c.self.view_is) c.requires.there in
    let there = read_at q.slots.items c.args.place page within c.index.ensures in
    let now : Page = record page { changed = false } in
    let became : c.settle.new.slots.items ≡ set q.slots.items c.args.place now = c.settle.ensures page there in
    let its = unwritten_frame page c.in-Some.frame (sym c.unwritten.ensures ∙ c.in-Some.is) in
    let low = frame_low q.slots.items q.places.items c.self.invariant.1 c.args.place c.in-Some.frame page (record { there = there; its = its }) in
    let k : Kept = record { frames = length q.places.items; slots = q.slots.items } in
    let m = subst (λ (x : Kept). Means x (g.K.Store.bytes_held c.args.store.now) memory) (sym c.self.view_is) means in
    let after = means_written k c.args.place page now there c.in-Some.frame its low refl refl (g.K.Store.bytes_held c.args.store.now) memory m in
    let same = same_page q.slots.items c.args.place page c.index-in-Some.result.now there (read_at q.slots.items c.args.place c.index-in-Some.result.now within c.index-in-Some.ensures) in
    let held = g.K.Store.bytes_held c.args.store.now in
    let told : g.K.Store.bytes_held c.write.new.self ≡ with_page_in held c.in-Some.frame page.bytes = c.in_ok-write.ensures.bytes ∙ ap (λ (x : Page). with_page_in held c.in-Some.frame x.bytes) (sym same) in
    subst (λ (h : Option (List ℕ)). Means (record { frames = length q.places.items; slots = c.settle.new.slots.items }) h memory) (sym told)
    (subst (λ (xs : List Page). Means (record { frames = length q.places.items; slots = xs }) (with_page_in held c.in-Some.frame page.bytes) memory) (sym became) after)

pub returns-in_ok-write-clause-most : goal.returns-in_ok-write-clause-most
returns-in_ok-write-clause-most g c =
    let q = c.self.inside in
    let page = c.index.result.now in
    let within : c.args.place < length q.slots.items = subst (λ (k : Kept). c.args.place < length k.slots) (sym c.self.view_is) c.requires.there in
    let now : Page = record page { changed = false } in
    ap length (c.settle.ensures page (read_at q.slots.items c.args.place page within c.index.ensures)) ∙ length-set q.slots.items c.args.place now ∙ ap (λ (k : Kept). length k.slots) c.self.view_is

pub returns-in_ok-write-clause-slots : goal.returns-in_ok-write-clause-slots
returns-in_ok-write-clause-slots g c page at =
    let q = c.self.inside in
    let there = ap (λ (k : Kept). slice_get k.slots c.args.place) c.self.view_is ∙ at in
    let now : Page = record page { changed = false } in
    (now, c.settle.ensures page there ∙ ap (λ (k : Kept). set k.slots c.args.place now) c.self.view_is, refl, refl, refl)

pub returns-in_default-clause-slots : goal.returns-in_default-clause-slots
returns-in_default-clause-slots g c page at =
    let q = c.self.inside in
    let within : c.args.place < length q.slots.items = subst (λ (k : Kept). c.args.place < length k.slots) (sym c.self.view_is) c.requires.there in
    let there = ap (λ (k : Kept). slice_get k.slots c.args.place) c.self.view_is ∙ at in
    let same = same_page q.slots.items c.args.place page c.index.result.now there (read_at q.slots.items c.args.place c.index.result.now within c.index.ensures) in
    (page, set_same c.args.self.now.slots c.args.place page at, refl, refl, ap unwritten same ∙ sym c.unwritten.ensures ∙ c.in_default.is)
