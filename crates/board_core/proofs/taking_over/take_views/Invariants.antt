use Rattle.std.proofs.Common.{◌≡◌, take, Contains}
use Rattle.phys_groups.specs.Memory.{page_at}
use Rattle.board_ops.specs.page_views.specs.Views.{View}
use Rattle.cached_machine.specs.quantum.specs.LocalRun.{touched_views}
use Rattle.cached_machine.specs.Aside.{aside_of}
use Rattle.cached_machine.specs.Cached.{state_of}
use Rattle.board_core.specs.Growth.{with_all_views, IsAsCopiedOrNow}
use Rattle.board_core.specs.Stamps.{AreStamped}
use Rattle.board_core.proofs.taking_over.take_views.Given as goal

abbrev pub invariant-loop-view : goal.invariant-loop-view
invariant-loop-view l = record {
  state : state_of l.machine ≡ with_all_views l.space (state_of l.initial.machine) (take l.view-index l.views);
  rest : aside_of l.machine ≡ aside_of l.initial.machine;
  held : (v : View) → Contains (touched_views l.views) v → IsAsCopiedOrNow l.machine.memory v;
  done : (v : View) → Contains (touched_views (take l.view-index l.views)) v → page_at l.machine.memory v.frame ≡ v.present;
  stamped : AreStamped l.at l.initial.machine.memory l.initial.stamps.items l.machine.memory l.stamps.items;
}
