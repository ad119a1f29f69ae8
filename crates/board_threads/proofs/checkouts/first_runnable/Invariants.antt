use Rattle.std.proofs.Common.{◌≡◌, ℕ, ◌<◌, false, get_or}
use Rattle.ready_queue.specs.declared.Candidate.{Candidate}
use Rattle.board_threads.specs.Tests.{goes_on}
use Rattle.board_threads.proofs.checkouts.first_runnable.Given as goal

-- none before is runnable
abbrev pub invariant-loop-candidate : goal.invariant-loop-candidate
invariant-loop-candidate l = (k : ℕ) (d : Candidate) → k < l.candidate-index → goes_on l.core (get_or l.waiting k d).no.0 ≡ false
