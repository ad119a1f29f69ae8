use Rattle.std.proofs.Common.{◌≡◌, Some, None, get_or, ap, sym, ◌∙◌, subst, arith}
use Rattle.std.proofs.lemmas.Option.{get_or_from_slice_get, slice_get_within}
use Rattle.page_store.specs.declared.page.Page.{Page}
use Rattle.page_store.specs.Kept.{HasPage, IsKept, Kept, Means}
use Rattle.page_store.proofs.Slots.{read_at, same_page}
use Rattle.page_store.proofs.paged.Paged.page.Goals as goal

pub index-requires : goal.index-requires
index-requires c =
    let q = c.self.inside in
    let kept = subst (λ (k : Kept). IsKept k c.args.frame) (sym c.self.view_is) c.requires in
    let found = c.self.invariant.1.found kept.0 c.args.frame kept.1 kept.2 in
    omega (arith, slice_get_within q.places.items c.args.frame.0 (Some kept.0) found, q.places.ok.0)

pub index-requires-in-Some : goal.index-requires-in-Some
index-requires-in-Some c =
    let q = c.self.inside in
    let kept = subst (λ (k : Kept). IsKept k c.args.frame) (sym c.self.view_is) c.requires in
    let found = c.self.invariant.1.found kept.0 c.args.frame kept.1 kept.2 in
    let low = slice_get_within q.places.items c.args.frame.0 (Some kept.0) found in
    let noted = c.self.invariant.1.noted c.args.frame c.in-Some.place (read_at q.places.items c.args.frame.0 c.index.result.now low c.index.ensures ∙ ap Some c.in-Some.is) in
    omega (arith, slice_get_within q.slots.items c.in-Some.place noted.0 noted.1.there, q.slots.ok.0)

pub unreachable-requires : goal.unreachable-requires
unreachable-requires c =
    let q = c.self.inside in
    let kept = subst (λ (k : Kept). IsKept k c.args.frame) (sym c.self.view_is) c.requires in
    let found = c.self.invariant.1.found kept.0 c.args.frame kept.1 kept.2 in
    let some : get_or q.places.items c.args.frame.0 c.index.result.now ≡ Some kept.0 = get_or_from_slice_get q.places.items c.args.frame.0 (Some kept.0) c.index.result.now found in
    let none : Some kept.0 ≡ None = sym some ∙ sym c.index.ensures ∙ c.in-None.is in
    cc

pub returns-clause-bytes : goal.returns-clause-bytes
returns-clause-bytes c memory held means =
    let q = c.self.inside in
    let kept = subst (λ (k : Kept). IsKept k c.args.frame) (sym c.self.view_is) c.requires in
    let m = subst (λ (k : Kept). Means k held memory) (sym c.self.view_is) means in
    let found = c.self.invariant.1.found kept.0 c.args.frame kept.1 kept.2 in
    let low = slice_get_within q.places.items c.args.frame.0 (Some kept.0) found in
    let noted = c.self.invariant.1.noted c.args.frame c.in-Some.place (read_at q.places.items c.args.frame.0 c.index.result.now low c.index.ensures ∙ ap Some c.in-Some.is) in
    let within = slice_get_within q.slots.items c.in-Some.place noted.0 noted.1.there in
    let there = read_at q.slots.items c.in-Some.place c.index-in-Some.result.now within c.index-in-Some.ensures in
    let its = subst (λ (page : Page). HasPage q.slots.items c.in-Some.place c.args.frame page) (same_page q.slots.items c.in-Some.place noted.0 c.index-in-Some.result.now noted.1.there there) noted.1 in
    sym (m.kept c.in-Some.place c.args.frame c.index-in-Some.result.now its)
