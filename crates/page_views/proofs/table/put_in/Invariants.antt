use Rattle.std.proofs.Common.{◌≡◌, ◌++◌, map, take, drop}
use Rattle.rv32_exec.specs.Pages.{size_of}
use Rattle.page_views.specs.Views.{put_in_view}
use Rattle.page_views.proofs.table.put_in.Given as goal

abbrev pub invariant-loop-i : goal.invariant-loop-i
invariant-loop-i l = l.views ≡ map (put_in_view l.frame (size_of l.width) l.at l.value) (take l.i l.initial.views) ++ drop l.i l.initial.views
