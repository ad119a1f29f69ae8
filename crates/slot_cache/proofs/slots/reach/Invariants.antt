use Rattle.std.proofs.Common.{◌≡◌, ◌+◌, ◌-◌, vec_capacity}
use Rattle.slot_cache.proofs.PadLemmas.{IsReaching}
use Rattle.slot_cache.proofs.slots.reach.Given as goal

-- cells were added, and are free
abbrev pub invariant-loop-slots : goal.invariant-loop-slots
invariant-loop-slots l = record { reaching : IsReaching l.initial.slots.items l.initial.free l.slots.items l.free l.slot; capacity : vec_capacity l.slots ≡ vec_capacity l.initial.slots }

abbrev pub decreases-loop-slots : goal.decreases-loop-slots
decreases-loop-slots l = l.slot + 1 - l.slots.len
