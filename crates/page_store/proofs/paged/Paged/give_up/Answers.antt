use Rattle.std.proofs.Common.{◌≡◌, ◌<◌, ℕ, List, length, set, false, Option, Some, None, slice_get, refl, ap, sym, subst, arith}
use Rattle.std.specs.Prelude.{IfSome}
use Rattle.std.proofs.lemmas.List.{length-set}
use Rattle.cache_ident.specs.declared.names.Frame.{Frame}
use Rattle.page_store.specs.declared.page.Page.{Page}
use Rattle.page_store.specs.Index.{IsIndex}
use Rattle.page_store.specs.Kept.{unplaced, Kept}
use Rattle.page_store.proofs.Indexing.{frame_low, index_freed}
use Rattle.page_store.proofs.Slots.{read_at}
use Rattle.page_store.proofs.paged.Paged.give_up.Goals as goal

low_if : (slots : List Page) (places : List (Option ℕ)) → IsIndex slots places → (p : ℕ) (page : Page) → slice_get slots p ≡ Some page → (o : Option Frame) → page.frame ≡ o → IfSome o (λ f. f.0 < length places)
low_if slots places index p page there None none = tt
low_if slots places index p page there (Some f) its = frame_low slots places index p f page (record { there = there; its = its })

pub forget-requires : goal.forget-requires
forget-requires c =
    let q = c.self.inside in
    let page = c.index.result.now in
    let within : c.args.place < length q.slots.items = subst (λ (k : Kept). c.args.place < length k.slots) (sym c.self.view_is) c.requires in
    low_if q.slots.items q.places.items c.self.invariant.1 c.args.place page (read_at q.slots.items c.args.place page within c.index.ensures) page.frame refl

pub invariant_of-self : goal.invariant_of-self
invariant_of-self c =
    let q = c.self.inside in
    let page = c.index.result.now in
    let within : c.args.place < length q.slots.items = subst (λ (k : Kept). c.args.place < length k.slots) (sym c.self.view_is) c.requires in
    let there = read_at q.slots.items c.args.place page within c.index.ensures in
    let now : Page = record page { frame = None; changed = false } in
    let became : c.release.new.slots.items ≡ set q.slots.items c.args.place now = c.release.ensures page there in
    let index = index_freed q.slots.items q.places.items c.self.invariant.1 c.args.place page now there page.frame refl refl in (
      omega (arith, c.self.invariant.0, ap length became, length-set q.slots.items c.args.place now),
      subst (λ (ps : List (Option ℕ)). IsIndex c.release.new.slots.items ps) (sym c.forget.ensures.places) (subst (λ (xs : List Page). IsIndex xs (unplaced page.frame q.places.items)) (sym became) index),
    )
