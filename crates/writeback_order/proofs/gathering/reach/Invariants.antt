use Rattle.std.proofs.Common.{◌-◌, ◌≡◌, length, vec_capacity}
use Rattle.writeback_order.specs.Gathering.{IsClear}
use Rattle.writeback_order.proofs.gathering.reach.Given as goal

abbrev pub invariant-loop-marks : goal.invariant-loop-marks
invariant-loop-marks l = record { clear : IsClear l.marks.items; capacity : vec_capacity l.marks ≡ vec_capacity l.fn.marks }

abbrev pub decreases-loop-marks : goal.decreases-loop-marks
decreases-loop-marks l = l.count - length l.marks.items
