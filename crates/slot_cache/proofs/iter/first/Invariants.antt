use Rattle.std.proofs.Common.{◌≡◌, length}
use Rattle.slot_cache.specs.Cells.{loaded_in}
use Rattle.slot_cache.specs.Seats.{cells_in}
use Rattle.slot_cache.proofs.iter.first.Given as goal

-- the slots that were passed hold nothing
abbrev pub invariant-loop-slot : goal.invariant-loop-slot
invariant-loop-slot g l = loaded_in (cells_in l.fn.records.slots l.left) ≡ loaded_in (cells_in l.fn.records.slots l.fn.slots)

abbrev pub decreases-loop-slot : goal.decreases-loop-slot
decreases-loop-slot g l = length l.left
