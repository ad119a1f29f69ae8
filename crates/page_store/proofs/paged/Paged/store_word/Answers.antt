use Rattle.std.proofs.Common.{◌≡◌, ℕ, true, List, length, get_or, Some, None, refl, ap, sym, ◌∙◌, subst, arith}
use Rattle.std.proofs.lemmas.List.{length-set}
use Rattle.std.proofs.lemmas.Option.{get_or_from_slice_get}
use Rattle.phys_groups.specs.Memory.{word_bytes, written}
use Rattle.page_store.specs.declared.page.Page.{Page}
use Rattle.page_store.specs.Index.{IsIndex}
use Rattle.page_store.specs.Kept.{HasPage, IsKept, Kept, Means}
use Rattle.page_store.proofs.Changes.{word_means}
use Rattle.page_store.proofs.Indexing.{frame_low, index_kept, one_slot}
use Rattle.page_store.proofs.Slots.{read_at}
use Rattle.page_store.proofs.paged.Paged.store_word.Goals as goal

pub unreachable-requires : goal.unreachable-requires
unreachable-requires g c =
    let q = c.self.inside in
    let kept = subst (λ (k : Kept). IsKept k c.args.frame) (sym c.self.view_is) c.in_ok-keep.ensures.kept in
    let found = c.self.invariant.1.found kept.0 c.args.frame kept.1 kept.2 in
    let some : get_or q.places.items c.args.frame.0 c.index.result.now ≡ Some kept.0 = get_or_from_slice_get q.places.items c.args.frame.0 (Some kept.0) c.index.result.now found in
    let none : Some kept.0 ≡ None = sym some ∙ sym c.index.ensures ∙ c.in-None.is in
    cc

pub invariant_of-self : goal.invariant_of-self
invariant_of-self g c =
    let q = c.self.inside in
    let kept = subst (λ (k : Kept). IsKept k c.args.frame) (sym c.self.view_is) c.in_ok-keep.ensures.kept in
    let low = frame_low q.slots.items q.places.items c.self.invariant.1 kept.0 c.args.frame kept.1 kept.2 in
    let noted = c.self.invariant.1.noted c.args.frame c.in-Some.place (read_at q.places.items c.args.frame.0 c.index.result.now low c.index.ensures ∙ ap Some c.in-Some.is) in
    let page = noted.0 in
    let now : Page = record page { bytes = written page.bytes c.args.offset (word_bytes c.args.value); changed = true } in
    let became = c.put_word.ensures page noted.1.there in (
      omega (arith, c.self.invariant.0, ap length became, length-set q.slots.items c.in-Some.place now),
      subst (λ (xs : List Page). IsIndex xs q.places.items) (sym became) (index_kept q.slots.items q.places.items c.self.invariant.1 c.in-Some.place page now noted.1.there refl),
    )

pub returns-clause-memory : goal.returns-clause-memory
returns-clause-memory g c memory means =
    let q = c.self.inside in
    let k : Kept = record { frames = length q.places.items; slots = q.slots.items } in
    let held = g.K.Store.bytes_held c.keep.new.store in
    let m : Means k held memory = subst (λ (x : Kept). Means x held memory) (sym c.self.view_is) (c.in_ok-keep.ensures.memory memory means) in
    let kept = subst (λ (x : Kept). IsKept x c.args.frame) (sym c.self.view_is) c.in_ok-keep.ensures.kept in
    let low = frame_low q.slots.items q.places.items c.self.invariant.1 kept.0 c.args.frame kept.1 kept.2 in
    let noted = c.self.invariant.1.noted c.args.frame c.in-Some.place (read_at q.places.items c.args.frame.0 c.index.result.now low c.index.ensures ∙ ap Some c.in-Some.is) in
    let page = noted.0 in
    let one : (o : ℕ) (other : Page) → HasPage q.slots.items o c.args.frame other → o ≡ c.in-Some.place = λ o other has. one_slot q.slots.items q.places.items c.self.invariant.1 o c.in-Some.place c.args.frame other page has noted.1 in
    word_means k c.in-Some.place c.args.frame page noted.1 one low c.put_word.new.slots.items c.args.offset c.args.value (omega (arith, c.requires.within)) (c.put_word.ensures page noted.1.there) held memory m

pub returns-clause-most : goal.returns-clause-most
returns-clause-most g c =
    let q = c.self.inside in
    let kept = subst (λ (x : Kept). IsKept x c.args.frame) (sym c.self.view_is) c.in_ok-keep.ensures.kept in
    let low = frame_low q.slots.items q.places.items c.self.invariant.1 kept.0 c.args.frame kept.1 kept.2 in
    let noted = c.self.invariant.1.noted c.args.frame c.in-Some.place (read_at q.places.items c.args.frame.0 c.index.result.now low c.index.ensures ∙ ap Some c.in-Some.is) in
    let page = noted.0 in
    let now : Page = record page { bytes = written page.bytes c.args.offset (word_bytes c.args.value); changed = true } in
    ap length (c.put_word.ensures page noted.1.there) ∙ length-set q.slots.items c.in-Some.place now ∙ ap (λ (x : Kept). length x.slots) c.self.view_is ∙ c.in_ok-keep.ensures.most
