use Rattle.std.proofs.Common.{◌≡◌, drop}
use Rattle.signal_pages.specs.Signals.{room_in}
use Rattle.signal_pages.proofs.room.Given as goal

-- what the threads from here on answer is the answer
abbrev pub invariant-loop-i : goal.invariant-loop-i
invariant-loop-i l = room_in l.to (drop l.i l.lengths) (drop l.i l.ended) (drop l.i l.to) ≡ room_in l.to l.lengths l.ended l.to
