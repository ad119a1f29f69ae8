use Rattle.std.proofs.Common.{◌≡◌, ℕ, ◌<◌, false, get_or}
use Rattle.std.specs.Prelude.{Contains}
use Rattle.ready_queue.specs.declared.Candidate.{Candidate}
use Rattle.ready_queue.specs.Choice.{is_before}
use Rattle.ready_queue.proofs.choose.Given as goal

-- the best of those that were looked at is one of them, and none of them is before it
abbrev pub invariant-loop-candidate : goal.invariant-loop-candidate
invariant-loop-candidate l = record {
  waits : Contains l.waiting l.best;
  first : (k : ℕ) (d : Candidate) → k < l.candidate-index → is_before (get_or l.waiting k d) l.best ≡ false;
}
