use Rattle.std.proofs.Common.{◌≡◌, List, length, set, Some, refl, ap, sym, subst, arith}
use Rattle.std.proofs.lemmas.List.{length-set}
use Rattle.page_store.specs.declared.page.Page.{Page}
use Rattle.page_store.specs.Index.{IsIndex}
use Rattle.page_store.specs.Kept.{IsFor, Kept}
use Rattle.page_store.proofs.Indexing.{index_with}
use Rattle.page_store.proofs.paged.Paged.hold.Goals as goal

pub invariant_of-self : goal.invariant_of-self
invariant_of-self c =
    let q = c.self.inside in
    let its = subst (λ (k : Kept). IsFor k c.args.place c.args.frame) (sym c.self.view_is) c.requires in
    let now : Page = record its.page { frame = Some c.args.frame } in
    let became : c.name.new.slots.items ≡ set q.slots.items c.args.place now = c.name.ensures its.page its.there in
    let index = index_with q.slots.items q.places.items c.self.invariant.1 c.args.place its.page now its.there c.args.frame its.within refl its.was its.one in (
      omega (arith, c.self.invariant.0, ap length became, length-set q.slots.items c.args.place now),
      subst (λ (xs : List Page). IsIndex xs (set q.places.items c.args.frame.0 (Some c.args.place))) (sym became) index,
    )
