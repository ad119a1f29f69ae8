use Rattle.std.proofs.Common.{◌≡◌, ◌<◌, true, List, length, Contains, Some, slice_get, refl, subst, sym, ◌∙◌, inl, inr, arith}
use Rattle.std.specs.Prelude.{slice_set}
use Rattle.std.proofs.lemmas.List.{length-set, take_all}
use Rattle.std.proofs.lemmas.List.Elements.{Contains-get_or}
use Rattle.cache_ident.specs.declared.names.Frame.{Frame}
use Rattle.quantum.specs.page_views.specs.Views.{View}
use Rattle.paged_steps.proofs.Orders.{noted_more, noted_too}
use Rattle.paged_steps.proofs.Taking.{one_more_case}
use Rattle.paged_steps.proofs.notes.watch.Goals as goal

pub loop-view-init : goal.loop-view-init
loop-view-init c = record { so_far = λ v there. absurd (let lt = there.1 in omega (arith, lt)); more = λ f was. was; len = refl }

pub index_mut-requires : goal.index_mut-requires
index_mut-requires c =
    let views = c.args.copies.now in
    let v = c.view-item.result in
    let within = subst (λ (x : View). Contains views x) (sym c.view-item.is) (Contains-get_or views c.loop-view.view-index v c.loop-view-test.true) in
    let room = c.requires.frames v within in
    let low : c.frame.result.0 < length c.loop-view.watched.items = subst (λ (f : Frame). f.0 < length c.loop-view.watched.items) (sym c.frame.ensures) (omega (arith, room, c.loop-view.invariant.len)) in
    omega (arith, low, c.loop-view.watched.ok.0)

pub loop-view-preserved : goal.loop-view-preserved
loop-view-preserved c =
    let before = c.loop-view.invariant in
    let views = c.args.copies.now in
    let i = c.loop-view.view-index in
    let v = c.view-item.result in
    let f = c.frame.result in
    let watched = c.loop-view.watched.items in
    let within = subst (λ (x : View). Contains views x) (sym c.view-item.is) (Contains-get_or views i v c.loop-view-test.true) in
    let room = c.requires.frames v within in
    let low : f.0 < length watched = subst (λ (x : Frame). x.0 < length watched) (sym c.frame.ensures) (omega (arith, room, before.len)) in
    let now : slice_get (slice_set watched f.0 true) v.frame.0 ≡ Some true = subst (λ (x : Frame). slice_get (slice_set watched f.0 true) x.0 ≡ Some true) c.frame.ensures (noted_too watched f.0 low) in
    record {
      so_far = λ w there. elim (one_more_case views i v c.loop-view-test.true c.view-item.is w there) [
        | inl earlier ↦ noted_more watched f.0 w.frame.0 (before.so_far w earlier)
        | inr same ↦ subst (λ (x : View). slice_get (slice_set watched f.0 true) x.frame.0 ≡ Some true) same now
      ];
      more = λ g was. noted_more watched f.0 g (before.more g was);
      len = length-set watched f.0 true ∙ before.len;
    }

pub returns-clause-watched : goal.returns-clause-watched
returns-clause-watched c = λ v there.
    c.loop-view.invariant.so_far v (subst (λ (xs : List View). Contains xs v) (sym (take_all c.loop-view.view-index c.args.copies.now c.loop-view-test.false)) there)
