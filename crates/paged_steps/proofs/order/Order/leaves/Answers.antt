use Rattle.std.proofs.Common.{◌≡◌, true, List, Contains, Some, slice_get, subst, sym, inl, inr, arith}
use Rattle.std.proofs.lemmas.List.{take_all}
use Rattle.quantum.specs.page_views.specs.Views.{View}
use Rattle.paged_steps.proofs.Taking.{one_more_case}
use Rattle.paged_steps.proofs.order.Order.leaves.Goals as goal

pub loop-view-init : goal.loop-view-init
loop-view-init c = λ v there watched. absurd (let lt = there.1 in omega (arith, lt))

pub loop-view-preserved : goal.loop-view-preserved
loop-view-preserved c = λ w there watched.
    let notes = c.args.self.now.watched.items in
    elim (one_more_case c.args.views.now c.loop-view.view-index c.view-item.result c.loop-view-test.true c.view-item.is w there) [
      | inl earlier ↦ c.loop-view.invariant w earlier watched
      | inr same ↦ subst (λ (x : View). slice_get notes x.frame.0 ≡ Some true → x.present ≡ x.first) same (λ here. c.is_changed.ensures here c.if-is_changed.false) watched
    ]

pub returns : goal.returns
returns c = λ v there watched.
    c.loop-view.invariant v (subst (λ (xs : List View). Contains xs v) (sym (take_all c.loop-view.view-index c.args.views.now c.loop-view-test.false)) there) watched
