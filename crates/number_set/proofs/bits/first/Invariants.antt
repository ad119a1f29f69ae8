use Rattle.std.proofs.Common.{◌≡◌, ◌-◌, ◌/◌, ◌<◌, ◌≤◌, ℕ, false, length}
use Rattle.number_set.specs.Bits.{bit_in}
use Rattle.number_set.proofs.bits.first.Given as goal

-- none was passed over
abbrev pub invariant-loop-from : goal.invariant-loop-from
invariant-loop-from l = record {
  reached : l.fn.from ≤ l.from;
  passed : (number : ℕ) → l.fn.from ≤ number → number < l.from → bit_in l.words number ≡ false;
}

abbrev pub decreases-loop-from : goal.decreases-loop-from
decreases-loop-from l = length l.words - l.from / 64
