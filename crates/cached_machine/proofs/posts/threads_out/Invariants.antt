use Rattle.std.proofs.Common.{◌≤◌, length, map}
use Rattle.cached_machine.proofs.OutLaws.{AreOut}
use Rattle.cached_machine.proofs.posts.threads_out.Given as goal

-- as far as it went over them
abbrev pub invariant-loop-loaded : goal.invariant-loop-loaded
invariant-loop-loaded l = record {
  few : length l.out.items ≤ length l.yielded;
  those : AreOut (map (λ x. x.now) l.yielded) l.out.items;
}
