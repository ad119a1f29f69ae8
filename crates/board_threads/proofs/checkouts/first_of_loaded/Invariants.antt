use Rattle.std.proofs.Common.{map}
use Rattle.board_threads.specs.Waiting.{IsFirstAmong}
use Rattle.board_threads.proofs.checkouts.first_of_loaded.Given as goal

-- as far as it went over them
abbrev pub invariant-loop-loaded : goal.invariant-loop-loaded
invariant-loop-loaded l = IsFirstAmong (map (λ x. x.now) l.yielded) l.first
