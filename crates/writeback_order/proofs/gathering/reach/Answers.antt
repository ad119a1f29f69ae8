use Rattle.std.proofs.Common.{arith}
use Rattle.writeback_order.proofs.MarkLemmas.{clear_more}
use Rattle.writeback_order.proofs.gathering.reach.Goals as goal

pub push_reserved-requires : goal.push_reserved-requires
push_reserved-requires c = omega (arith, c.loop-marks-test.true, c.len.ensures, c.requires.room, c.loop-marks.invariant.capacity)

pub loop-marks-preserved : goal.loop-marks-preserved
loop-marks-preserved c =
    record { clear = rw c.push_reserved.ensures.items (clear_more c.loop-marks.marks.items c.loop-marks.invariant.clear); capacity = omega (arith, c.push_reserved.ensures.capacity, c.loop-marks.invariant.capacity) }
