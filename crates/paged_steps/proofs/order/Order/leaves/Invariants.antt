use Rattle.std.proofs.Common.{◌≡◌, true, take, Contains, Some, slice_get}
use Rattle.quantum.specs.page_views.specs.Views.{View}
use Rattle.paged_steps.proofs.order.Order.leaves.Given as goal

-- the views so far were left
abbrev pub invariant-loop-view : goal.invariant-loop-view
invariant-loop-view l = (v : View) → Contains (take l.view-index l.views) v → slice_get l.self.watched.items v.frame.0 ≡ Some true → v.present ≡ v.first
