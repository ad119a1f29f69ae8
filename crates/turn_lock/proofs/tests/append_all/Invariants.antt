use Rattle.turn_lock.specs.Passes.{IsPassOf, HasSameRange}
use Rattle.turn_lock.proofs.tests.append_all.Given as goal

abbrev pub invariant-loop-number : goal.invariant-loop-number
invariant-loop-number g l = IsPassOf l.lock l.pass × HasSameRange l.fn.pass l.pass
