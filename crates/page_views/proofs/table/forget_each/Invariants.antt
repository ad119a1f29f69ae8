use Rattle.std.proofs.Common.{◌≡◌, map, take, None}
use Rattle.std.specs.Prelude.{replicate}
use Rattle.page_views.specs.Views.{dated}
use Rattle.page_views.proofs.table.forget_each.Given as goal

abbrev pub invariant-loop-i : goal.invariant-loop-i
invariant-loop-i l = map dated (take l.i l.views) ≡ replicate l.i None
