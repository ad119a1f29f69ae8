use Rattle.std.proofs.Common.{◌+◌, ℕ, length, length-append, ap, ◌∙◌}
use Rattle.cache_board.proofs.DeskLaws.{clear_if_none, one_clear_more}
use Rattle.cache_board.proofs.desk.Desk.new.Goals as goal

pub loop-cpu-init : goal.loop-cpu-init
loop-cpu-init c = record {
  count = ap length c.in_ok-places.ensures.items;
  clear = clear_if_none c.in_ok-places.places.items c.in_ok-places.ensures.items;
}

pub loop-cpu-preserved : goal.loop-cpu-preserved
loop-cpu-preserved c = record {
  count = ap length c.in_ok-push.ensures.items ∙ length-append _ _ ∙ ap (λ (n : ℕ). n + 1) c.loop-cpu.invariant.count;
  clear = one_clear_more _ _ c.in_ok-place.place c.in_ok-push.ensures.items c.loop-cpu.invariant.clear c.in_ok-place.ensures;
}

pub returns : goal.returns
returns c = c.loop-cpu.invariant.clear
