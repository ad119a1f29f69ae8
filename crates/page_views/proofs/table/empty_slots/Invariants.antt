use Rattle.std.proofs.Common.{◌≡◌, map, None}
use Rattle.std.specs.Prelude.{replicate}
use Rattle.page_views.specs.Views.{dated}
use Rattle.page_views.proofs.table.empty_slots.Given as goal

abbrev pub invariant-loop-i : goal.invariant-loop-i
invariant-loop-i l = map dated l.slots.items ≡ replicate l._i None
