use Rattle.board_threads.specs.Waiting.{IsFirstOf}
use Rattle.board_threads.proofs.CandidateLemmas.{IsFreeBelow}
use Rattle.board_threads.proofs.checkouts.first_of_ready.Given as goal

-- the first of those that it went over
abbrev pub invariant-loop : goal.invariant-loop
invariant-loop l = IsFirstOf (IsFreeBelow l.core l.from) l.first
