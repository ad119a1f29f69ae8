use Rattle.std.proofs.Common.{◌≤◌, length, map}
use Rattle.board_threads.proofs.CandidateLemmas.{AreThose}
use Rattle.board_threads.proofs.checkouts.candidates.Given as goal

-- as far as it went over them
abbrev pub invariant-loop-loaded : goal.invariant-loop-loaded
invariant-loop-loaded l = record {
  few : length l.waiting.items ≤ length l.yielded;
  those : AreThose (map (λ x. x.now) l.yielded) l.waiting.items;
}
