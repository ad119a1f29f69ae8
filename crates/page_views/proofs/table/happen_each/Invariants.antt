use Rattle.std.proofs.Common.{◌≡◌, ◌++◌, map, take, drop}
use Rattle.page_views.specs.Views.{as_happened}
use Rattle.page_views.proofs.table.happen_each.Given as goal

abbrev pub invariant-loop-i : goal.invariant-loop-i
invariant-loop-i l = l.views ≡ map (as_happened l.place) (take l.i l.initial.views) ++ drop l.i l.initial.views
